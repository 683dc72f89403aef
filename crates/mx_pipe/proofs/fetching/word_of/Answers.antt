use Rattle.std.proofs.Common.{◌≡◌, ◌≤◌, ◌<◌, ◌+◌, ◌-◌, ◌%◌, ◌^◌, ℕ, Bool, true, false, cond, leb, List, length, Option, None, refl, sym, ap, ◌∙◌, arith}
use Rattle.std.specs.Prelude.{slice_get, option_and_then}
use Rattle.std.proofs.lemmas.Option.{slice_get_within}
use Rattle.std.proofs.lemmas.Bool.{cond-true}
use Rattle.std.proofs.lemmas.Bool.Decides.{nat_tests}
use Rattle.mx_isa.specs.declared.board.TheConstants.{CODE_BASE}
use Rattle.mx_code.specs.Decoding.{inst_of}
use Rattle.mx_pipe.proofs.fetching.word_of.Goals as goal

-- an address, and the place that it wraps round to
module _ (words : List ℕ) (short : length words ≤ 60000) (a : ℕ) (fits : a < 2 ^ 32) where
  abbrev place : ℕ
  place = (a + 4294963200) % 4294967296

  place_of : leb CODE_BASE a ≡ true → place ≡ a - CODE_BASE
  place_of e = let from : CODE_BASE ≤ a = grind (arith, nat_tests, e) in omega (arith, from, fits)

  within : place < length words → leb CODE_BASE a ≡ true
  within e = let from : CODE_BASE ≤ a = omega (arith, short, fits, e) in grind (arith, nat_tests, from)

-- what is asked for where one of two is none
missing : (b : Bool) (x y : Option ℕ) → (b ≡ true → x ≡ None) → cond b None y ≡ cond b x y
missing true x y none = sym (none refl)
missing false x y none = refl

pub returns-in-Some : goal.returns-in-Some
returns-in-Some c = λ short.
    let words = c.args.code.now in
    let a : ℕ = c.args.address in
    let found = sym c.word_at.ensures ∙ c.in-Some.is in
    let from = within words short a c.ranges.address.fits (slice_get_within words _ c.in-Some.word found) in
    let there = ap (slice_get words) (sym (place_of words short a c.ranges.address.fits from)) ∙ found in
    ap (option_and_then inst_of) (sym (cond-true (leb CODE_BASE a) (slice_get words (a - CODE_BASE)) (slice_get c.args.handler.now a) from ∙ there))

pub returns-in-None : goal.returns-in-None
returns-in-None c = λ short.
    let words = c.args.code.now in
    let a : ℕ = c.args.address in
    let none = sym c.word_at.ensures ∙ c.in-None.is in
    c.handler_word.ensures
    ∙ ap (option_and_then inst_of)
    (missing (leb CODE_BASE a) (slice_get words (a - CODE_BASE)) (slice_get c.args.handler.now a)
    (λ from. ap (slice_get words) (sym (place_of words short a c.ranges.address.fits from)) ∙ none))
