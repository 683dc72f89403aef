-- The text of stops, one after the other.
use Rattle.std.proofs.Common.{◌≡◌, ℕ, suc, ◌+◌, ◌<◌, ◌≤◌, List, [], ◌++◌, length, drop, ap, ◌∙◌, arith}
use Rattle.std.specs.Prelude.{get_or}
use Rattle.std.proofs.lemmas.List.{drop_more, drop_all}
use Rattle.mx_debug.specs.declared.Stop.{Stop}
use Rattle.cmd_debug.specs.Texts.{stop_text, stops_text}

pub next_stop : (watch i : ℕ) (stops : List Stop) (d : Stop) → i < length stops
    → stops_text watch (i + 1) (drop i stops) ≡ stop_text watch (i + 1) (get_or stops i d) ++ stops_text watch (i + 1 + 1) (drop (i + 1) stops)
next_stop watch i stops d less =
    ap (stops_text watch (i + 1)) (drop_more stops i d less)
    ∙ ap (λ j. stop_text watch (i + 1) (get_or stops i d) ++ stops_text watch j (drop (i + 1) stops)) (let e : suc (i + 1) ≡ i + 1 + 1 = omega arith in e)

pub no_stop : (watch j i : ℕ) (stops : List Stop) → length stops ≤ i → stops_text watch j (drop i stops) ≡ []
no_stop watch j i stops past = ap (stops_text watch j) (drop_all i stops past)
