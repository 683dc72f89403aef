-- The list of decoded words, and the place of a stage in it.
use Rattle.std.proofs.Common.{◌≡◌, ℕ, zero, suc, ◌+◌, ◌-◌, ◌≤◌, ◌<◌, ◌^◌, ◌%◌, Bool, true, false, cond, leb, List, [], ◌∷◌, ◌++◌, length, map, replicate, Some, None, refl, sym, ap, ◌∙◌, arith, ⊎_elim}
use Rattle.std.specs.Prelude.{slice_get, unwrap_or, option_and_then}
use Rattle.std.proofs.lemmas.Bool.{cases_lt, cond-true, cond-false}
use Rattle.std.proofs.lemmas.Bool.Decides.{nat_tests}
use Rattle.std.proofs.lemmas.Option.{slice_get_past, unwrap_or-slice_get}
use Rattle.std.proofs.lemmas.List.{length-append, length-map, length-replicate, get_or_append_left, get_or-append_right}
use Rattle.mx_isa.specs.declared.board.TheConstants.{CODE_BASE}
use Rattle.mx_isa.specs.declared.inst.Inst.{Inst}
use Rattle.mx_code.specs.Decoding.{inst_of}
use Rattle.mx_delay.specs.Delay.{idle, code_from}
use Rattle.mx_turn.specs.Decoded.{what_of, code_in}
use Rattle.mx_pcchain.specs.Held.{stage_from}
use Rattle.mx_turn.specs.Stages.{live}
use Rattle.mx_turn.specs.Program.{code_with}

abbrev at_place : List Inst → Bool → Bool → ℕ → Inst
at_place insts empty squashed address = live (code_in insts) (cond empty None (Some (record { address = address; squashed = squashed })))

-- the place of a stage in a list of at most 2 ^ 31 instructions is that of its fetch, and behind the list where it does nothing
pub place_does : (w : ℕ) (insts : List Inst) → length insts ≤ 2 ^ 31 → unwrap_or (slice_get insts w) idle ≡ live (code_in insts) (stage_from w)
place_does w insts short = ⊎_elim within beyond (cases_lt w (2 ^ 31))
  where
    within : w < 2 ^ 31 → unwrap_or (slice_get insts w) idle ≡ at_place insts (leb (2 ^ 32) w) (leb (2 ^ 31) w) (w % 2 ^ 31)
    within lt =
        let held : leb (2 ^ 32) w ≡ false = grind (arith, nat_tests) in
        let kept : leb (2 ^ 31) w ≡ false = grind (arith, nat_tests) in
        let same : w % 2 ^ 31 ≡ w = omega (arith, lt) in
        sym (λ k. at_place insts (held k) (kept k) (same k))

    nothing : (empty : Bool) → at_place insts empty true (w % 2 ^ 31) ≡ idle
    nothing true = refl
    nothing false = refl

    beyond : 2 ^ 31 ≤ w → unwrap_or (slice_get insts w) idle ≡ at_place insts (leb (2 ^ 32) w) (leb (2 ^ 31) w) (w % 2 ^ 31)
    beyond ge =
        let squashed : leb (2 ^ 31) w ≡ true = grind (arith, nat_tests) in
        ap (λ o. unwrap_or o idle) (slice_get_past insts w (omega (arith, short, ge)))
        ∙ sym (ap (λ b. at_place insts (leb (2 ^ 32) w) b (w % 2 ^ 31)) squashed ∙ nothing (leb (2 ^ 32) w))

-- words that were decoded are the code that they spell
decoded_at : (words : List ℕ) (k : ℕ) → unwrap_or (slice_get (map what_of words) k) idle ≡ unwrap_or (option_and_then inst_of (slice_get words k)) idle
decoded_at [] k = refl
decoded_at (w ∷ words) zero = refl
decoded_at (w ∷ words) (suc k) = decoded_at words k

-- no-ops behind a list do not change what is read of it
padded_at : (insts : List Inst) (n k : ℕ) → unwrap_or (slice_get (insts ++ replicate n idle) k) idle ≡ unwrap_or (slice_get insts k) idle
padded_at [] zero k = refl
padded_at [] (suc n) zero = refl
padded_at [] (suc n) (suc k) = padded_at [] n k
padded_at (i ∷ insts) n zero = refl
padded_at (i ∷ insts) n (suc k) = padded_at insts n k

-- what is read of two lists, one behind the other
joined_at : (xs ys : List Inst) (k : ℕ)
    → unwrap_or (slice_get (xs ++ ys) k) idle ≡ cond (leb (length xs) k) (unwrap_or (slice_get ys (k - length xs)) idle) (unwrap_or (slice_get xs k) idle)
joined_at xs ys k = ⊎_elim
    (λ lt. let first : leb (length xs) k ≡ false = grind (arith, nat_tests) in
    unwrap_or-slice_get (xs ++ ys) k idle
    ∙ get_or_append_left xs ys idle k lt
    ∙ sym (unwrap_or-slice_get xs k idle)
    ∙ sym (cond-false (leb (length xs) k) (unwrap_or (slice_get ys (k - length xs)) idle) (unwrap_or (slice_get xs k) idle) first))
    (λ ge. let second : leb (length xs) k ≡ true = grind (arith, nat_tests) in
    unwrap_or-slice_get (xs ++ ys) k idle
    ∙ get_or-append_right xs ys (length xs) k idle refl ge
    ∙ sym (unwrap_or-slice_get ys (k - length xs) idle)
    ∙ sym (cond-true (leb (length xs) k) (unwrap_or (slice_get ys (k - length xs)) idle) (unwrap_or (slice_get xs k) idle) second))
    (cases_lt k (length xs))

-- what the word at an address spells, with the handler's words from 0 on
abbrev spelled : List ℕ → ℕ → Inst
spelled words k = unwrap_or (option_and_then inst_of (slice_get words k)) idle

module _ (handler user : List ℕ) (padded : List Inst) (full : length padded ≡ CODE_BASE)
    (is : padded ≡ map what_of handler ++ replicate (CODE_BASE - length handler) idle) where
  below : (a : ℕ) → unwrap_or (slice_get padded a) idle ≡ code_from inst_of 0 handler a
  below a =
      let same : a ≡ a - 0 = omega arith in
      let any : leb 0 a ≡ true = grind (arith, nat_tests) in
      ap (λ xs. unwrap_or (slice_get xs a) idle) is
      ∙ padded_at (map what_of handler) (CODE_BASE - length handler) a
      ∙ decoded_at handler a
      ∙ ap (spelled handler) same
      ∙ sym (cond-true (leb 0 a) (spelled handler (a - 0)) idle any)

  -- the user's code is asked for from 4096 on alone
  above : (b : Bool) (x y : Inst) → cond b x y ≡ cond b (cond b x idle) y
  above true x y = refl
  above false x y = refl

  at_each : (a : ℕ) → code_in (padded ++ map what_of user) a ≡ code_with (code_from inst_of 0 handler) (code_from inst_of CODE_BASE user) a
  at_each a =
      joined_at padded (map what_of user) a
      ∙ ap (λ n. cond (leb n a) (unwrap_or (slice_get (map what_of user) (a - n)) idle) (unwrap_or (slice_get padded a) idle)) full
      ∙ ap (λ x. cond (leb CODE_BASE a) x (unwrap_or (slice_get padded a) idle)) (decoded_at user (a - CODE_BASE))
      ∙ ap (cond (leb CODE_BASE a) (spelled user (a - CODE_BASE))) (below a)
      ∙ above (leb CODE_BASE a) (spelled user (a - CODE_BASE)) (code_from inst_of 0 handler a)

  joined_is : code_in (padded ++ map what_of user) ≡ code_with (code_from inst_of 0 handler) (code_from inst_of CODE_BASE user)
  joined_is = λ i a. at_each a i

-- the words of a handler, filled up to 4,096 instructions, and those of the user behind them
pub code_is : (handler user : List ℕ) (insts : List Inst) → length handler ≤ CODE_BASE
    → insts ≡ (map what_of handler ++ replicate (CODE_BASE - length handler) idle) ++ map what_of user
    → code_in insts ≡ code_with (code_from inst_of 0 handler) (code_from inst_of CODE_BASE user)
code_is handler user insts short is =
    let padded : List Inst = map what_of handler ++ replicate (CODE_BASE - length handler) idle in
    let full : length padded ≡ CODE_BASE =
    length-append (map what_of handler) (replicate (CODE_BASE - length handler) idle)
    ∙ (λ i. length-map handler what_of i + length-replicate (CODE_BASE - length handler) idle i)
    ∙ omega (arith, short) in
    ap code_in is ∙ joined_is handler user padded full refl
