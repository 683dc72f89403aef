-- Comparisons with a number.
use Rattle.std.proofs.Common.{◌≡◌, ◌≢◌, ◌≤◌, ◌<◌, ◌^◌, ℕ, ◌+◌, ◌-◌, ◌/◌, ◌%◌, Bool, true, false, cond, Ok, Option, Some, None, refl, ap, ◌∙◌, arith, subst}
use Rattle.std.specs.Prelude.{nat_lt}
use Rattle.std.specs.Int.{w32, cast_unsigned}
use Rattle.std.proofs.lemmas.Bool.Decides.{nat_tests}
use Rattle.std.proofs.lemmas.Int.{of_z-to_z}
use Rattle.mx_isa.specs.Arithmetic.{word_of, result_of}
use Rattle.mx_isa.specs.Words.{reg}
use Rattle.mx_isa.specs.Effect.{Core, Bus, op_uses_md}
use Rattle.mx_isa.specs.declared.inst.Op.TheVariants as machine
use Rattle.cc_lines.specs.declared.instruction.Condition.{Condition}
use Rattle.cc_lines.specs.declared.instruction.Condition.TheVariants.{Equal, NotEqual, Less, Lower}
use Rattle.cc_lines.specs.Conditions.{holds}
use Rattle.cc_emit.specs.declared.line.Computed.{Computed}
use Rattle.cc_emit.specs.declared.line.Computed.TheVariants.{Add, Sub, And, Or, Xor, Bic, Rotlb}
use Rattle.cc_emit.specs.Lines.{is_short}
use Rattle.cc_meaning.specs.declared.value.Value.{Value}
use Rattle.cc_meaning.specs.declared.value.Value.TheVariants.{Number, Code, Partial}
use Rattle.cc_meaning.specs.Arithmetic.{compared, truth}
use Rattle.cc_operations.specs.Comparisons as lines
use Rattle.law_emit.specs.Statements.{operation}
use Rattle.law_operations.specs.Runs.{ran, HoldsWords, ShowsValue, Gives}
use Rattle.law_operations.proofs.Bits.{right_is, difference, zero_top, not_zero_top, negative_top, lower_top, less_top, less_negative_top}
use Rattle.law_operations.proofs.Steps.{written, gives_as, computes, corrected, count_fits}

-- only numbers are compared here
one_number : (c : Condition) (a : Value) (n x : ℕ) (t : Bool) → ShowsValue a x → compared c a (Number n) ≡ Ok t → truth (holds c x n) ≡ truth t
one_number c (Number m) n x t h e = ap (λ i. truth (holds c i n)) h ∙ cc
one_number c (Code item) n x t h e = absurd h
one_number c (Partial bytes) n x t h e = absurd (cc)

pub negative_holds : (rd rs : ℕ) (a : Value) (t : Bool) (bus : Bus) (s : Core) → HoldsWords s.regs
    → ShowsValue a (reg s.regs rs) → compared Less a (Number 0) ≡ Ok t → Gives rd (Number (truth t)) s (ran bus (lines.negative rs rd) s)
negative_holds rd rs a t bus s h x e =
    gives_as rd _ _ s _ (λ k. right_is (reg s.regs rs) 31 ∙ negative_top _ (h rs) ∙ one_number Less a 0 _ t x e)
    (let c : 31 ≤ 31 = omega arith in computes bus rs rd 0 (machine.Sh 31) s h c refl)

pub zero_holds : (rd rs : ℕ) (a : Value) (t : Bool) (bus : Bus) (s : Core) → HoldsWords s.regs → rs ≢ 26
    → ShowsValue a (reg s.regs rs) → compared Equal a (Number 0) ≡ Ok t → Gives rd (Number (truth t)) s (ran bus (lines.zero rs rd) s)
zero_holds rd rs a t bus s h ne x e =
    corrected bus rs rd _ _ machine.Bic s _ tt refl ne (written 26 ((reg s.regs rs + (2 ^ 32 - 1)) % 2 ^ 32) s h (omega arith))
    (zero_top _ (h rs) ∙ one_number Equal a 0 _ t x e)

pub not_zero_holds : (rd rs : ℕ) (a : Value) (t : Bool) (bus : Bus) (s : Core) → HoldsWords s.regs → rs ≢ 26
    → ShowsValue a (reg s.regs rs) → compared NotEqual a (Number 0) ≡ Ok t → Gives rd (Number (truth t)) s (ran bus (lines.not_zero rs rd) s)
not_zero_holds rd rs a t bus s h ne x e =
    corrected bus rs rd _ _ machine.Or s _ tt refl ne (written 26 ((0 + (2 ^ 32 - reg s.regs rs)) % 2 ^ 32) s h (omega arith))
    (not_zero_top _ (h rs) ∙ one_number NotEqual a 0 _ t x e)

-- the sum with a negated number
summed : (a n : ℕ) → word_of (a + cast_unsigned w32 (lines.negated n)) ≡ difference a n
summed a n =
    let small : (2 ^ 32 - n) % 2 ^ 32 < 2 ^ 32 = omega arith in
    ap (λ m. word_of (a + m)) (of_z-to_z w32 ((2 ^ 32 - n) % 2 ^ 32) small)

no_md : (c : Computed) → op_uses_md (operation c) ≡ false
no_md Add = refl
no_md Sub = refl
no_md And = refl
no_md Or = refl
no_md Xor = refl
no_md Bic = refl
no_md Rotlb = refl

some_is : (x y : Computed) → Some x ≡ Some y → x ≡ y
some_is x y e = cc

is_under : (n m : ℕ) → nat_lt n m ≡ true → n < m
is_under n m e = grind (arith, nat_tests)

is_over : (n m : ℕ) → nat_lt n m ≡ false → m ≤ n
is_over n m e = grind (arith, nat_tests)

-- what corrects the difference leaves the comparison in its bit 31
abbrev Holds : Condition → ℕ → ℕ → ℕ → Computed → Type 0
Holds c a n md signs = result_of (operation signs) (difference a n) a md / 2 ^ 31 ≡ truth (holds c a n)

less_by : (small : Bool) (signs : Computed) (a n md : ℕ) → a < 2 ^ 32 → n < 2 ^ 32 → nat_lt n (2 ^ 31) ≡ small
    → cond small (Some Or) (Some And) ≡ Some signs → Holds Less a n md signs
less_by true signs a n md h k l e = subst (Holds Less a n md) (some_is Or signs e) (less_top a n h (is_under n (2 ^ 31) l))
less_by false signs a n md h k l e = subst (Holds Less a n md) (some_is And signs e) (less_negative_top a n h (is_over n (2 ^ 31) l) k)

lower_by : (small : Bool) (signs : Computed) (a n md : ℕ) → a < 2 ^ 32 → nat_lt n (2 ^ 31) ≡ small
    → cond small (Some Bic) None ≡ Some signs → Holds Lower a n md signs
lower_by true signs a n md h l e = subst (Holds Lower a n md) (some_is Bic signs e) (lower_top a n h (is_under n (2 ^ 31) l))
lower_by false signs a n md h l e = absurd (cc)

top_holds : (c : Condition) (signs : Computed) (a n md : ℕ) → a < 2 ^ 32 → n < 2 ^ 32 → lines.correction c n ≡ Some signs → Holds c a n md signs
top_holds Less signs a n md h k e = less_by (nat_lt n (2 ^ 31)) signs a n md h k refl e
top_holds Lower signs a n md h k e = lower_by (nat_lt n (2 ^ 31)) signs a n md h refl e
top_holds _ signs a n md h k e = absurd (cc)

corrects : (short : Bool) (found : Option Computed) (signs : Computed) → cond short found None ≡ Some signs → found ≡ Some signs
corrects true found signs e = e
corrects false found signs e = absurd (cc)

pub below_holds : (c : Condition) (signs : Computed) (rd rs n : ℕ) (a : Value) (t : Bool) (bus : Bus) (s : Core) → HoldsWords s.regs → rs ≢ 26
    → n < 2 ^ 32 → lines.signs_of c n ≡ Some signs → ShowsValue a (reg s.regs rs) → compared c a (Number n) ≡ Ok t
    → Gives rd (Number (truth t)) s (ran bus (lines.below signs rs n rd) s)
below_holds c signs rs' rs n a t bus s h ne small e x k =
    let f = corrects (is_short (lines.negated n)) (lines.correction c n) signs e in
    let sum = word_of (reg s.regs rs + cast_unsigned w32 (lines.negated n)) in
    let g = gives_as 26 _ (difference (reg s.regs rs) n) s _ (λ q. summed (reg s.regs rs) n) (written 26 sum s h (omega arith)) in
    corrected bus rs rs' _ _ (operation signs) s _ (count_fits signs) (no_md signs) ne g
    (top_holds c signs (reg s.regs rs) n s.md (h rs) small f ∙ one_number c a n _ t x k)
