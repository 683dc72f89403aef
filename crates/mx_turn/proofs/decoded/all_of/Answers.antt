use Rattle.std.proofs.Common.{◌≡◌, ◌+◌, ◌++◌, ◌∷◌, [], All, map, take, sym, ap, ◌∙◌, subst}
use Rattle.std.proofs.lemmas.List.{map_more}
use Rattle.std.proofs.lemmas.List.Elements.{All-push}
use Rattle.mx_turn.specs.Decoded.{what_of, ShiftFits}
use Rattle.mx_turn.proofs.decoded.all_of.Goals as goal

items : (c : goal.In_ok-push) → c.push.new.self.items ≡ map what_of (take (c.loop-word.word-index + 1) c.args.words.now)
items c =
    c.in_ok-push.ensures.items
    ∙ ap (λ xs. xs ++ c.what_of.result ∷ []) c.loop-word.invariant.0
    ∙ ap (λ i. map what_of (take c.loop-word.word-index c.args.words.now) ++ i ∷ []) c.what_of.ensures.what
    ∙ sym (map_more what_of c.args.words.now c.loop-word.word-index 0 c.loop-word-test.true)

pub loop-word-preserved : goal.loop-word-preserved
loop-word-preserved c =
    (items c, subst (All ShiftFits) (sym c.in_ok-push.ensures.items) (All-push ShiftFits _ _ c.loop-word.invariant.1 c.what_of.ensures.fits))
