-- What is known of registers after one of them was divided by 4.
use Rattle.std.proofs.Common.{◌≡◌, ◌≢◌, ◌⊎◌, ⊎_elim, inl, inr, ℕ, zero, suc, List, [], ◌∷◌, ◌+◌, ◌*◌, ◌%◌, ◌^◌, ◌<◌, Bool, true, false, not, Some, slice_get, set, refl, sym, ap, ◌∙◌, subst, arith}
use Rattle.std.proofs.lemmas.Bool.Decides.{nat_tests}
use Rattle.cc_plan.specs.declared.knowledge.Known.{Known}
use Rattle.cc_plan.specs.declared.knowledge.Known.TheVariants.{Nothing, Number, Bytes}
use Rattle.cc_plan.specs.declared.knowledge.Knowledge.{Knowledge}
use Rattle.cc_plan.specs.Places.{Words, quarter, is_named, is_read, is_quarter, IsFrom, is_always_divided, is_quotient, IsDivided, divided}
use Rattle.cc_plan.specs.Knowing.{IsKnown, IsSound, Holds, is_by, Keeps}

-- what is known of a word is known while the register by way of which it is keeps its word
pub known_same : (words words' : Words) (known : Known) (w : ℕ) → ((b : ℕ) → is_by b known ≡ true → words' b ≡ words b)
    → IsKnown words known w → IsKnown words' known w
known_same words words' Nothing w same is = is
known_same words words' (Number n) w same is = is
known_same words words' (Bytes base bytes true) w same is = let e = same base (grind (arith, nat_tests)) in
    record { quarter = subst (λ q. is_quarter q ≡ true) (sym e) is.quarter; is = subst (λ q. w ≡ (4 * q + bytes) % 2 ^ 32) (sym e) is.is }
known_same words words' (Bytes base bytes false) w same is = let e = same base (grind (arith, nat_tests)) in
    record {
      quarter = subst (λ q. is_quarter q ≡ true) (sym e) is.quarter;
      is = subst (λ q. w ≡ (4 * q + (bytes + w % 4)) % 2 ^ 32) (sym e) is.is;
    }

-- a word is less than 4 bytes from four times its quarter
pub quarter_is : (w : ℕ) → w < 2 ^ 32 → is_quarter (quarter w) ≡ true
quarter_is w small = grind (arith, nat_tests, small)

pub quarter_from : (w : ℕ) → w < 2 ^ 32 → w ≡ (4 * quarter w + (0 + w % 4)) % 2 ^ 32
quarter_from w small = grind (arith, nat_tests, small)

pub quarter_small : (w : ℕ) → w < 2 ^ 32 → quarter w < 2 ^ 32
quarter_small w small = grind (arith, nat_tests, small)

-- a register that takes quotients is no other one
pub apart : (points : Bool) (into n : ℕ) → is_quotient points into ≡ true → is_quotient points n ≡ false → n ≢ into
apart points into n is not_one e = absurd (cc)

pub elsewhere : (words : Words) (b into n : ℕ) → n ≢ into → divided words (Some (b, into)) n ≡ words n
elsewhere words b into n ne = grind (arith, nat_tests, ne)

pub there : (words : Words) (b into : ℕ) → divided words (Some (b, into)) into ≡ quarter (words b)
there words b into = grind (arith, nat_tests)

-- what is known of a word that no quotient replaces
pub from_same : (words words' : Words) (base bytes w w' : ℕ) → words' base ≡ words base → w' ≡ w → IsFrom words base bytes w
    → IsFrom words' base bytes w'
from_same words words' base bytes w w' e e' is =
    record { quarter = subst (λ q. is_quarter q ≡ true) (sym e) is.quarter; is = e' ∙ is.is ∙ ap (λ q. (4 * q + bytes) % 2 ^ 32) (sym e) }

pub small_after : (words : Words) (b into n : ℕ) → words b < 2 ^ 32 → words n < 2 ^ 32 → divided words (Some (b, into)) n < 2 ^ 32
small_after words b into n at here = grind (arith, nat_tests, at, here)

pub always_after : (points : Bool) (words : Words) (b into : ℕ) → is_quotient points into ≡ true → IsDivided points words
    → IsDivided points (divided words (Some (b, into)))
always_after points words b into is always = record {
  are = record {
    zero = elsewhere words b into 0 (other 0 (grind (arith, nat_tests))) ∙ always.are.zero;
    small = λ n. small_after words b into n (always.are.small b) (always.are.small n);
  };
  stack = from_same words _ 28 0 _ _ (elsewhere words b into 28 (other 28 (grind (arith, nat_tests))))
      (elsewhere words b into 29 (other 29 (grind (arith, nat_tests)))) always.stack;
  frame = λ has. from_same words _ 23 0 _ _ (elsewhere words b into 23 (no_frame has))
      (elsewhere words b into 30 (other 30 (grind (arith, nat_tests)))) (always.frame has);
}
  where
    other : (n : ℕ) → is_quotient points n ≡ false → n ≢ into
    other n e = apart points into n is e

    no_frame : points ≡ true → 23 ≢ into
    no_frame has = apart points into 23 is (ap (λ p. is_quotient p 23) has)

pub named_apart : (points : Bool) (n : ℕ) → is_named n ≡ true → is_quotient points n ≡ false
named_apart points n named = grind (arith, nat_tests, named)

pub named_of : (n : ℕ) → is_read n ≡ true → n ≢ 0 → is_named n ≡ true
named_of n read other = grind (arith, nat_tests, read, other)

-- what a list holds where one element was set
pub set_cases : {X : Type 0} (xs : List X) (at n : ℕ) (x one : X) → slice_get (set xs at x) n ≡ Some one
    → ((n ≡ at) × (one ≡ x)) ⊎ (slice_get xs n ≡ Some one)
set_cases [] at n x one h = inr h
set_cases (y ∷ xs) zero zero x one h = inl (refl, cc)
set_cases (y ∷ xs) zero (suc n) x one h = inr h
set_cases (y ∷ xs) (suc at) zero x one h = inr h
set_cases (y ∷ xs) (suc at) (suc n) x one h = ⊎_elim (λ e. inl (ap suc e.0, e.1)) inr (set_cases xs at n x one h)

-- of a register whose quarter another one takes it is known that it is so many bytes from that
pub quarter_known : (words : Words) (points : Bool) (b into : ℕ) → is_quotient points into ≡ true → words b < 2 ^ 32 → b ≢ into
    → IsSound (divided words (Some (b, into))) (Bytes into 0 false) (divided words (Some (b, into)) b)
quarter_known words points b into is small ne = record {
  is = subst (λ w. IsFrom (divided words (Some (b, into))) into (0 + w % 4) w) (sym (elsewhere words b into b ne)) (record {
    quarter = subst (λ q. is_quarter q ≡ true) (sym (there words b into)) (quarter_is (words b) small);
    is = quarter_from (words b) small ∙ ap (λ q. (4 * q + (0 + words b % 4)) % 2 ^ 32) (sym (there words b into));
  });
  base = λ n by. grind (arith, nat_tests, is, by);
}

-- what is known of another one that is not known by way of the register that takes the quotient
pub other_known : (words : Words) (b into n : ℕ) (known : Known) → n ≢ into → is_by into known ≡ false → IsSound words known (words n)
    → IsSound (divided words (Some (b, into))) known (divided words (Some (b, into)) n)
other_known words b into n known ne free sound =
    subst (λ w. IsSound (divided words (Some (b, into))) known w) (sym (elsewhere words b into n ne)) (record {
      is = known_same words (divided words (Some (b, into))) known (words n) (λ base by. elsewhere words b into base (λ e. absurd (cc))) sound.is;
      base = sound.base;
    })

pub divided_holds : (k k' : Knowledge) (words : Words) (b into : ℕ) → is_quotient k.points into ≡ true → Holds k words
    → Keeps (λ n one. not (is_by into one)) k.known k'.known → k'.points ≡ k.points
    → Holds (record k' { known = set k'.known b (Bytes into 0 false) }) (divided words (Some (b, into)))
divided_holds k k' words b into is holds keeps same = record {
  always = subst (λ p. IsDivided p words') (sym same) (always_after k.points words b into is holds.always);
  known = λ n known named free at. let ne : n ≢ into = apart k.points into n is (named_apart k.points n named) in ⊎_elim
      (λ e. subst (λ m. IsSound words' known (words' m)) (sym e.0)
      (subst (λ one. IsSound words' one (words' b)) (sym e.1)
      (quarter_known words k.points b into is (holds.always.are.small b) (λ e'. ne (e.0 ∙ e')))))
      (λ h. ⊎_elim
      (λ nothing. subst (λ one. IsSound words' one (words' n)) (sym nothing) (record { is = tt; base = λ m by. absurd (cc) }))
      (λ kept. other_known words b into n known ne (not_true _ kept.1)
      (holds.known n known named (ap (λ p. is_always_divided p n) (sym same) ∙ free) kept.0))
      (keeps n known h))
      (set_cases k'.known b n (Bytes into 0 false) known at);
}
  where
    words' : Words
    words' = divided words (Some (b, into))

    not_true : (x : Bool) → not x ≡ true → x ≡ false
    not_true true h = absurd (cc)
    not_true false h = refl
