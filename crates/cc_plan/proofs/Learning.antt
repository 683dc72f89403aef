-- What is known of registers after the translation of an instruction.
use Rattle.std.proofs.Common.{◌≡◌, ◌≢◌, ◌⊎◌, ⊎_elim, ℕ, zero, suc, replicate, ◌<◌, ◌^◌, ◌==◌, ◌&&◌, not, Bool, true, false, List, [], ◌∷◌, Option, Some, unwrap_or, option_map, slice_get, refl, sym, ap, ◌∙◌, subst, arith}
use Rattle.std.specs.List.{list_any}
use Rattle.std.proofs.lemmas.Bool.{cases_Bool, cases_eq}
use Rattle.std.proofs.lemmas.Bool.Decides.{nat_tests}
use Rattle.cc_lines.specs.declared.instruction.Instruction.{Instruction}
use Rattle.cc_lines.specs.declared.instruction.Instruction.TheVariants as i
use Rattle.cc_lines.specs.declared.instruction.LinkFrom.TheVariants as from
use Rattle.cc_plan.specs.declared.plan.Plan.{Plan}
use Rattle.cc_plan.specs.declared.knowledge.Known.{Known}
use Rattle.cc_plan.specs.declared.knowledge.Known.TheVariants.{Nothing}
use Rattle.cc_plan.specs.declared.knowledge.Knowledge.{Knowledge}
use Rattle.cc_plan.specs.Placed.{Either, based}
use Rattle.cc_plan.specs.Places.{Words, is_named, is_read, is_always_divided, is_base, is_quotient, IsDivided}
use Rattle.cc_plan.specs.Knowing.{has, is_by, is_by_one, is_left, IsSound, Holds, Keeps}
use Rattle.cc_plan.specs.Translated.{Goes, IsGiven, given_to, is_written, is_used, reads_named, used}
use Rattle.cc_plan.proofs.Divisions.{known_same, from_same}

-- a register takes the word of an instruction: that writes no other one, and uses none of those for quotients
given_alone : (instruction : Instruction) (n m : ℕ) → given_to instruction ≡ Some n → m ≢ n → is_written instruction m ≡ false
given_alone (i.Number rd value) n m e ne = grind (arith, nat_tests, e, ne)
given_alone (i.Address rd base offset) n m e ne = grind (arith, nat_tests, e, ne)
given_alone (i.Move rd rs) n m e ne = grind (arith, nat_tests, e, ne)
given_alone (i.Compute op rd rs second) n m e ne = grind (arith, nat_tests, e, ne)
given_alone _ n m e ne = absurd (cc)

given_unused : (instruction : Instruction) (plan : Plan) (n b : ℕ) → given_to instruction ≡ Some n → is_used instruction plan b ≡ false
given_unused (i.Number rd value) plan n b e = refl
given_unused (i.Address rd base offset) plan n b e = refl
given_unused (i.Move rd rs) plan n b e = refl
given_unused (i.Compute op rd rs second) plan n b e = refl
given_unused _ plan n b e = absurd (cc)

-- a register by way of which something is known that is left is not used
unused : (points : Bool) (b : ℕ) (one : Known) (rs : List ℕ) → is_by b one ≡ true → (b == 23 && points) ≡ false
    → is_by_one points rs one ≡ false → list_any (λ r. r == b) rs ≡ false
unused points b one [] by free left = refl
unused points b one (r ∷ rs) by free left = ⊎_elim
    (λ e. absurd (grind (arith, nat_tests, e, by, free, left)))
    (λ ne. let rest = unused points b one rs by free (grind (arith, nat_tests, left)) in grind (arith, nat_tests, ne, rest))
    (cases_eq r b)

-- a register that holds quarters: that of the stack pointer, that of the frame pointer, or one that takes quotients
base_cases : (points : Bool) (b : ℕ) → is_base b ≡ true
    → (b ≡ 28) ⊎ (((points ≡ true) × (b ≡ 23)) ⊎ ((is_quotient points b ≡ true) × ((b == 23 && points) ≡ false)))
base_cases true b is = grind (arith, nat_tests, is)
base_cases false b is = grind (arith, nat_tests, is)

-- registers keep their quarters where the instruction writes neither pointer and uses none of them
bases_kept : (points : Bool) (address : Option ℕ) (instruction : Instruction) (plan : Plan) (before after : Words) (b : ℕ)
    → Goes points address instruction plan before after → is_base b ≡ true → (b ≡ 28 → is_written instruction 29 ≡ false)
    → (points ≡ true → b ≡ 23 → is_written instruction 30 ≡ false)
    → ((b == 23 && points) ≡ false → is_used instruction plan b ≡ false) → after b ≡ before b
bases_kept points address instruction plan before after b goes is stack frame used_not = ⊎_elim
    (λ e. ap after e ∙ goes.stack (stack e) ∙ ap before (sym e))
    (⊎_elim
    (λ h. ap after h.1 ∙ goes.frame h.0 (frame h.0 h.1) ∙ ap before (sym h.1))
    (λ h. goes.quotients b h.0 (used_not h.1)))
    (base_cases points b is)

-- what an instruction writes is in its set, so a register that is not in it is not written
not_written : (instruction : Instruction) (written n : ℕ) → ((m : ℕ) → m < 32 → is_written instruction m ≡ true → has written m ≡ true)
    → n < 32 → has written n ≡ false → is_written instruction n ≡ false
not_written instruction written n writes small out = ⊎_elim (λ h. absurd (let w = writes n small h in cc)) (λ h. h) (cases_Bool (is_written instruction n))

named_small : (n : ℕ) → is_named n ≡ true → n < 32
named_small n named = grind (arith, nat_tests, named)

sound_same : (words words' : Words) (known : Known) (w : ℕ) → ((b : ℕ) → is_by b known ≡ true → is_base b ≡ true → words' b ≡ words b)
    → IsSound words known w → IsSound words' known w
sound_same words words' known w same sound = record {
  is = known_same words words' known w (λ b by. same b by (sound.base b by)) sound.is;
  base = sound.base;
}

-- none of three is so
none_of : (x y z : Bool) → (not x && not y && not z) ≡ true → (x ≡ false) × (y ≡ false) × (z ≡ false)
none_of false false false e = (refl, refl, refl)
none_of true y z e = absurd (cc)
none_of false true z e = absurd (cc)
none_of false false true e = absurd (cc)

-- both are not so
not_both : (x y : Bool) → (x && y) ≡ false → y ≡ true → x ≡ false
not_both false y e h = refl
not_both true y e h = absurd (cc)

-- what is left of what was known
left_holds : (points : Bool) (address : Option ℕ) (instruction : Instruction) (plan : Plan) (before after : Words) (written n : ℕ) (one : Known)
    → Goes points address instruction plan before after → ((m : ℕ) → m < 32 → is_written instruction m ≡ true → has written m ≡ true)
    → is_named n ≡ true → is_left points written n one ≡ true → is_by_one points (used instruction plan) one ≡ false
    → IsSound before one (before n) → IsSound after one (after n)
left_holds points address instruction plan before after written n one goes writes named left unused_one sound =
    subst (λ w. IsSound after one w)
    (sym (goes.kept n named (not_written instruction written n writes (named_small n named) parts.0)))
    (sound_same before after one (before n) (λ b by is. bases_kept points address instruction plan before after b goes is
    (λ e. not_written instruction written 29 writes (omega arith) (stack_free b by e))
    (λ has_frame e. not_written instruction written 30 writes (omega arith) (frame_free b by has_frame e))
    (λ free. unused points b one (used instruction plan) by free unused_one))
    sound)
  where
    parts : (has written n ≡ false) × ((has written 29 && is_by 28 one) ≡ false) × ((points && has written 30 && is_by 23 one) ≡ false)
    parts = none_of (has written n) (has written 29 && is_by 28 one) (points && has written 30 && is_by 23 one) left

    stack_free : (b : ℕ) → is_by b one ≡ true → b ≡ 28 → has written 29 ≡ false
    stack_free b by e = not_both _ _ parts.1 (ap (λ m. is_by m one) (sym e) ∙ by)

    frame_free : (b : ℕ) → is_by b one ≡ true → points ≡ true → b ≡ 23 → has written 30 ≡ false
    frame_free b by p e = not_both _ _ (ap (λ q. q && has written 30 && is_by 23 one) (sym p) ∙ parts.2) (ap (λ m. is_by m one) (sym e) ∙ by)

-- what is known of the register that took a word
given_holds : (points : Bool) (address : Option ℕ) (instruction : Instruction) (plan : Plan) (before after : Words) (n : ℕ) (one : Known)
    → Goes points address instruction plan before after → given_to instruction ≡ Some n → n ≢ 29 → is_named n ≡ true
    → is_always_divided points n ≡ false → ((w : ℕ) → IsGiven before address instruction w → IsSound before one w) → IsSound after one (after n)
given_holds points address instruction plan before after n one goes given ne named free sound =
    sound_same before after one (after n) (λ b by is. bases_kept points address instruction plan before after b goes is
    (λ e. given_alone instruction n 29 given (λ e'. ne (sym e')))
    (λ has_frame e. given_alone instruction n 30 given (λ e'. no_frame has_frame (sym e')))
    (λ other. given_unused instruction plan n b given))
    (sound (after n) (goes.given n given named))
  where
    no_frame : points ≡ true → n ≢ 30
    no_frame p = λ e. absurd (grind (nat_tests, arith, free, p, e))

pub learned : (k k1 k2 k3 : Knowledge) (address : Option ℕ) (instruction : Instruction) (plan : Plan) (one : Known) (written : ℕ)
    (before after : Words) → Holds k before → Goes k.points address instruction plan before after
    → ((w : ℕ) → IsGiven before address instruction w → IsSound before one w)
    → Keeps (λ n known. not (is_by_one k.points (used instruction plan) known)) k.known k1.known
    → ((m : ℕ) → m < 32 → is_written instruction m ≡ true → has written m ≡ true)
    → Keeps (λ n known. is_left k.points written n known) k1.known k2.known
    → ((n : ℕ) (known : Known) → slice_get k3.known n ≡ Some known
    → ((given_to instruction ≡ Some n) × (n ≢ 29) × (known ≡ one)) ⊎ (slice_get k2.known n ≡ Some known))
    → k3.points ≡ k.points → Holds k3 after
learned k k1 k2 k3 address instruction plan one written before after holds goes sound keeps1 writes keeps2 noted same = record {
  always = subst (λ p. IsDivided p after) (sym same) goes.always;
  known = λ n known named free at. let free' = ap (λ p. is_always_divided p n) (sym same) ∙ free in ⊎_elim
      (λ h. subst (λ x. IsSound after x (after n)) (sym h.2)
      (given_holds k.points address instruction plan before after n one goes h.0 h.1 named free' sound))
      (λ h. ⊎_elim (nothing n known)
      (λ h2. ⊎_elim (nothing n known)
      (λ h1. left_holds k.points address instruction plan before after written n known goes writes named h2.1 (not_true _ h1.1)
      (holds.known n known named free' h1.0))
      (keeps1 n known h2.0))
      (keeps2 n known h))
      (noted n known at);
}
  where
    nothing : (n : ℕ) (known : Known) → known ≡ Nothing → IsSound after known (after n)
    nothing n known e = subst (λ x. IsSound after x (after n)) (sym e) (record { is = tt; base = λ b by. absurd (cc) })

    not_true : (x : Bool) → not x ≡ true → x ≡ false
    not_true true h = absurd (cc)
    not_true false h = refl

-- where nothing is known, all that is known holds
pub nothing_known : (k k' : Knowledge) (words : Words) → k'.points ≡ k.points → IsDivided k.points words
    → ((n : ℕ) (known : Known) → slice_get k'.known n ≡ Some known → known ≡ Nothing) → Holds k' words
nothing_known k k' words same always none = record {
  always = subst (λ p. IsDivided p words) (sym same) always;
  known = λ n known named free at.
      subst (λ x. IsSound words x (words n)) (sym (none n known at)) (record { is = tt; base = λ b by. absurd (cc) });
}

-- registers that hold the same words
pub same_known : (k : Knowledge) (before after : Words) → ((n : ℕ) → after n ≡ before n) → Holds k before → Holds k after
same_known k before after same holds = record {
  always = record {
    are = record { zero = same 0 ∙ holds.always.are.zero; small = λ n. subst (λ w. w < 2 ^ 32) (sym (same n)) (holds.always.are.small n) };
    stack = from_same before after 28 0 _ _ (same 28) (same 29) holds.always.stack;
    frame = λ has_frame. from_same before after 23 0 _ _ (same 23) (same 30) (holds.always.frame has_frame);
  };
  known = λ n known named free at. subst (λ w. IsSound after known w) (sym (same n))
      (sound_same before after known (before n) (λ b by is. same b) (holds.known n known named free at));
}

-- a register that changes is forgotten, and the others hold the same words
pub one_forgotten : (k k' : Knowledge) (register : ℕ) (before after : Words) → k'.points ≡ k.points → Holds k before
    → IsDivided k.points after → is_named register ≡ true → ((n : ℕ) → n ≢ register → after n ≡ before n)
    → ((n : ℕ) (known : Known) → slice_get k'.known n ≡ Some known
    → (known ≡ Nothing) ⊎ ((n ≢ register) × (slice_get k.known n ≡ Some known)))
    → Holds k' after
one_forgotten k k' register before after same holds always named_register others left = record {
  always = subst (λ p. IsDivided p after) (sym same) always;
  known = λ n known named free at. ⊎_elim
      (λ e. subst (λ x. IsSound after x (after n)) (sym e) (record { is = tt; base = λ b by. absurd (cc) }))
      (λ h. subst (λ w. IsSound after known w) (sym (others n h.0))
      (sound_same before after known (before n) (λ b by is. others b (no_base b is))
      (holds.known n known named (ap (λ p. is_always_divided p n) (sym same) ∙ free) h.1)))
      (left n known at);
}
  where
    no_base : (b : ℕ) → is_base b ≡ true → b ≢ register
    no_base b is = λ e. absurd (grind (nat_tests, arith, is, e, named_register))

-- each element of a list of so many equal ones
pub each_is : {X : Type 0} (m n : ℕ) (x one : X) → slice_get (replicate m x) n ≡ Some one → one ≡ x
each_is zero n x one e = absurd (cc)
each_is (suc m) zero x one e = cc
each_is (suc m) (suc n) x one e = each_is m n x one e

pub either_true : (A B : Type 0) (x : Bool) → x ≡ true → Either x A B → A
either_true A B true e h = h
either_true A B false e h = absurd (cc)

pub either_false : (A B : Type 0) (x : Bool) → x ≡ false → Either x A B → B
either_false A B false e h = h
either_false A B true e h = absurd (cc)

first_of : (a b c d : ℕ) → ◌≡◌ {A = Option (ℕ × ℕ)} (Some (a, b)) (Some (c, d)) → a ≡ c
first_of a b c d e = ap (λ (o : Option (ℕ × ℕ)). unwrap_or (option_map (λ x. x.0) o) 0) e

-- the register of a datum is one that its instruction reads
pub read_base : (computes : Bool) (instruction : Instruction) (base offset : ℕ) → based computes instruction ≡ Some (base, offset)
    → reads_named instruction ≡ true → is_read base ≡ true
read_base computes (i.Load width rd r n) base offset e read = subst (λ b. is_read b ≡ true) (first_of _ _ _ _ e) read
read_base computes (i.Store width rs r n) base offset e read = subst (λ b. is_read b ≡ true) (first_of _ _ _ _ e) read
read_base computes (i.Call (from.Register r)) base offset e read = subst (λ b. is_read b ≡ true) (first_of _ _ _ _ e) read
read_base true (i.Jump (from.Register r)) base offset e read = grind (arith, nat_tests, e, read)
read_base false (i.Jump (from.Register r)) base offset e read = absurd (cc)
read_base computes (i.Jump from.Symbol) base offset e read = absurd (cc)
read_base computes (i.Call from.Symbol) base offset e read = absurd (cc)
read_base computes _ base offset e read = absurd (cc)
