-- Operations on a register and a second operand.
use Rattle.std.proofs.Common.{◌≡◌, ◌≢◌, ◌<◌, ◌^◌, ℕ, ◌+◌, ◌-◌, ◌%◌, Bool, true, false, cond, ◌==◌, nat_lt, Option, Ok, refl, sym, ap, ◌∙◌, arith, subst}
use Rattle.std.proofs.lemmas.Bool.Decides.{nat_tests}
use Rattle.mx_isa.specs.Words.{Words, reg}
use Rattle.mx_isa.specs.Effect.{Core, Bus}
use Rattle.cc_lines.specs.declared.instruction.Condition.TheVariants.{Equal, NotEqual, Less, Lower}
use Rattle.cc_lines.specs.declared.instruction.Operation.{Operation}
use Rattle.cc_lines.specs.declared.instruction.Operation.TheVariants as op
use Rattle.cc_lines.specs.declared.instruction.Register.{Register}
use Rattle.cc_lines.specs.declared.instruction.Source.{Source}
use Rattle.cc_lines.specs.declared.instruction.Source.TheVariants.{Register as Second, Number as Word}
use Rattle.cc_lines.specs.Conditions.{holds}
use Rattle.cc_rules.specs.Views.{is_comparison}
use Rattle.cc_plan.specs.declared.plan.Comparison.{Comparison}
use Rattle.cc_plan.specs.Comparisons.{value_of, comparison, zero, tested, tested_lower}
use Rattle.cc_plan.proofs.Zeros.{below_one, above_zero}
use Rattle.cc_meaning.specs.declared.value.Value.{Value}
use Rattle.cc_meaning.specs.declared.value.Value.TheVariants.{Number, Code, Partial}
use Rattle.cc_meaning.specs.Arithmetic.{computed, operated, truth}
use Rattle.cc_operations.specs.Operations as lines
use Rattle.cc_operations.specs.Numbers.{constant, added}
use Rattle.cc_operations.specs.Computing as put
use Rattle.law_operations.specs.Runs.{ran, ran_lines, HoldsWords, HoldsFirst, ShowsValue, Leaves, IsNamed, IsOperand}
use Rattle.law_operations.proofs.Steps.{gives_as}
use Rattle.law_operations.proofs.Operations.{operated_gives, computed_of, two_numbers}
use Rattle.law_operations.proofs.Rest.{ran_only, ready_gives}
use Rattle.law_operations.proofs.Numbers.{constant_leaves, added_leaves}
use Rattle.law_operations.proofs.Branches.{operand_then, operand_ready, set_leaves}

-- ---- comparisons that are made with 0

abbrev AsLower : Words → Comparison → Register → Source → Type 0
AsLower r found rs second = holds found.condition (reg r found.rs.0) (value_of (reg r) found.second) ≡ nat_lt (reg r rs.0) (value_of (reg r) second)

abbrev Named : Comparison → Type 0
Named found = IsNamed found.rs.0 × IsOperand found.second

zero_named : IsOperand zero
zero_named = ((λ e. absurd (omega arith)), (λ e. absurd (omega arith)))

below_by : (t : Bool) (r : Words) (rs : Register) (n : ℕ) → (t ≡ true → n ≡ 1)
    → AsLower r (cond t (comparison Equal rs zero) (comparison Lower rs (Word n))) rs (Word n)
below_by true r rs n one = below_one (reg r rs.0) 0 refl ∙ ap (nat_lt (reg r rs.0)) (sym (one refl))
below_by false r rs n one = refl

above_by : (t : Bool) (r : Words) (rs rt : Register) → (t ≡ true → reg r rs.0 ≡ 0)
    → AsLower r (cond t (comparison NotEqual rt zero) (comparison Lower rs (Second rt))) rs (Second rt)
above_by true r rs rt none = above_zero (reg r rt.0) 0 refl ∙ ap (λ m. nat_lt m (reg r rt.0)) (sym (none refl))
above_by false r rs rt none = refl

is_one : (n : ℕ) → (n == 1) ≡ true → n ≡ 1
is_one n h = grind (arith, nat_tests)

zero_reg : (r : Words) (n : ℕ) → (n == 0) ≡ true → reg r n ≡ 0
zero_reg r n h = grind (arith, nat_tests)

lower_is : (r : Words) (rs : Register) (second : Source) → AsLower r (tested_lower rs second) rs second
lower_is r rs (Word n) = below_by (n == 1) r rs n (is_one n)
lower_is r rs (Second rt) = above_by (rs.0 == 0) r rs rt (zero_reg r rs.0)

named_by : (t : Bool) (a b : Comparison) → Named a → Named b → Named (cond t a b)
named_by true a b h k = h
named_by false a b h k = k

lower_named : (rs : Register) (second : Source) → IsNamed rs.0 → IsOperand second → Named (tested_lower rs second)
lower_named rs (Word n) h k = named_by (n == 1) (comparison Equal rs zero) (comparison Lower rs (Word n)) (h, zero_named) (h, k)
lower_named rs (Second rt) h k = named_by (rs.0 == 0) (comparison NotEqual rt zero) (comparison Lower rs (Second rt)) (k, zero_named) (h, k)

-- ---- operations on two registers, of which one may be r1 with a number

operands_leaves : (o : Operation) → is_comparison o ≡ false → (first : Option ℕ) (rd rs : ℕ) (second : Source) (bus : Bus) (s : Core) → HoldsWords s.regs
    → HoldsFirst first s.regs → rd ≢ 1 → rs ≢ 1 → IsOperand second
    → Leaves rd (Number (operated o (reg s.regs rs) (value_of (reg s.regs) second)))
    (put.operands first o rd rs second).first s (ran_lines bus (put.operands first o rd rs second).lines s)
operands_leaves o c first rd rs second bus s h k nd ns fits =
    let b = put.operand_register second in
    let p = put.operand first second in
    let t = ran_lines bus p.lines s in
    let x = value_of (reg s.regs) second in
    let r = operand_ready first second bus s h k fits in
    let seen : operated o (reg t.regs rs) (reg t.regs b) ≡ operated o (reg s.regs rs) x =
    ap (λ m. operated o m (reg t.regs b)) (r.kept rs ns) ∙ ap (operated o (reg s.regs rs)) r.shown in
    let g = gives_as rd _ _ t _ (λ q. seen) (operated_gives o c rd rs b bus t r.words) in
    subst (Leaves rd (Number (operated o (reg s.regs rs) x)) p.first s)
    (sym (operand_then first second (lines.lines (lines.operated o rd rs b)) bus s ∙ ran_only bus (lines.operated o rd rs b) t))
    (ready_gives p.first b x rd _ s t _ nd r g)

-- 0 and a number
joined_by : (t : Bool) (o : Operation) → is_comparison o ≡ false → ((n : ℕ) → operated o 0 n ≡ n) → (first : Option ℕ) (rd rs n : ℕ) (bus : Bus) (s : Core)
    → HoldsWords s.regs → HoldsFirst first s.regs → rd ≢ 1 → rs ≢ 1 → n < 2 ^ 32 → (t ≡ true → reg s.regs rs ≡ 0)
    → let p = cond t (constant first n rd) (put.operands first o rd rs (Word n)) in
    Leaves rd (Number (operated o (reg s.regs rs) n)) p.first s (ran_lines bus p.lines s)
joined_by true o c id first rd rs n bus s h k nd ns fits z =
    subst (λ v. Leaves rd (Number v) (constant first n rd).first s (ran_lines bus (constant first n rd).lines s))
    (sym (id n) ∙ ap (λ m. operated o m n) (sym (z refl))) (constant_leaves first n rd bus s h k fits)
joined_by false o c id first rd rs n bus s h k nd ns fits z = operands_leaves o c first rd rs (Word n) bus s h k nd ns fits

-- ---- all operations

abbrev Computes : Operation → ℕ → Option ℕ → ℕ → Register → Source → Bus → Core → Type 0
Computes o place first rd rs second bus s =
    Leaves rd (Number (operated o (reg s.regs rs.0) (value_of (reg s.regs) second)))
    (put.computed place first o rd rs second).first s (ran_lines bus (put.computed place first o rd rs second).lines s)

lower_leaves : (place : ℕ) (first : Option ℕ) (rd : ℕ) (rs : Register) (second : Source) (bus : Bus) (s : Core) → HoldsWords s.regs
    → HoldsFirst first s.regs → rd ≢ 1 → IsNamed rs.0 → IsOperand second → Computes op.Lower place first rd rs second bus s
lower_leaves place first rd rs second bus s h k nd named fits =
    let found = tested op.Lower rs second in
    let m = lower_named rs second named fits in
    subst (λ b. Leaves rd (Number (truth b)) (put.set place first rd found).first s (ran_lines bus (put.set place first rd found).lines s))
    (lower_is s.regs rs second) (set_leaves place first rd found bus s h k nd m.0 m.1)

negated_sum : (a n : ℕ) → n < 2 ^ 32 → (a + (2 ^ 32 - n) % 2 ^ 32) % 2 ^ 32 ≡ (a + (2 ^ 32 - n)) % 2 ^ 32
negated_sum a n h = omega arith

sub_leaves : (place : ℕ) (first : Option ℕ) (rd : ℕ) (rs : Register) (n : ℕ) (bus : Bus) (s : Core) → HoldsWords s.regs
    → HoldsFirst first s.regs → IsNamed rs.0 → n < 2 ^ 32 → Computes op.Sub place first rd rs (Word n) bus s
sub_leaves place first rd rs n bus s h k named fits =
    let m = (2 ^ 32 - n) % 2 ^ 32 in
    let small : m < 2 ^ 32 = omega arith in
    subst (λ v. Leaves rd (Number v) (added first rs.0 m rd).first s (ran_lines bus (added first rs.0 m rd).lines s))
    (negated_sum (reg s.regs rs.0) n fits) (added_leaves first rs.0 m rd bus s h k small named.0)

numbers_leave : (o : Operation) (place : ℕ) (first : Option ℕ) (rd : ℕ) (rs : Register) (second : Source) (bus : Bus) (s : Core) → HoldsWords s.regs
    → HoldsFirst first s.regs → rd ≢ 1 → IsNamed rs.0 → IsOperand second → Computes o place first rd rs second bus s
numbers_leave op.Less place first rd rs second bus s h k nd named fits = set_leaves place first rd (tested op.Less rs second) bus s h k nd named fits
numbers_leave op.Lower place first rd rs second bus s h k nd named fits = lower_leaves place first rd rs second bus s h k nd named fits
numbers_leave op.Add place first rd rs (Word n) bus s h k nd named fits = added_leaves first rs.0 n rd bus s h k fits named.0
numbers_leave op.Add place first rd rs (Second r) bus s h k nd named fits = operands_leaves op.Add refl first rd rs.0 (Second r) bus s h k nd named.0 fits
numbers_leave op.Sub place first rd rs (Word n) bus s h k nd named fits = sub_leaves place first rd rs n bus s h k named fits
numbers_leave op.Sub place first rd rs (Second r) bus s h k nd named fits = operands_leaves op.Sub refl first rd rs.0 (Second r) bus s h k nd named.0 fits
numbers_leave op.Or place first rd rs (Word n) bus s h k nd named fits =
    joined_by (rs.0 == 0) op.Or refl (λ m. refl) first rd rs.0 n bus s h k nd named.0 fits (zero_reg s.regs rs.0)
numbers_leave op.Or place first rd rs (Second r) bus s h k nd named fits = operands_leaves op.Or refl first rd rs.0 (Second r) bus s h k nd named.0 fits
numbers_leave op.Xor place first rd rs (Word n) bus s h k nd named fits =
    joined_by (rs.0 == 0) op.Xor refl (λ m. refl) first rd rs.0 n bus s h k nd named.0 fits (zero_reg s.regs rs.0)
numbers_leave op.Xor place first rd rs (Second r) bus s h k nd named fits = operands_leaves op.Xor refl first rd rs.0 (Second r) bus s h k nd named.0 fits
numbers_leave op.And place first rd rs second bus s h k nd named fits = operands_leaves op.And refl first rd rs.0 second bus s h k nd named.0 fits
numbers_leave op.Nor place first rd rs second bus s h k nd named fits = operands_leaves op.Nor refl first rd rs.0 second bus s h k nd named.0 fits

-- ---- the values that registers show

compared_is : (less : Bool) (a b v : Value) (x y : ℕ) → ShowsValue a x → ShowsValue b y
    → computed (cond less op.Less op.Lower) a b ≡ Ok v → Number (operated (cond less op.Less op.Lower) x y) ≡ v
compared_is true (Number m) (Number n) v x y h k e = ap (λ i. Number (truth (holds Less i y))) h ∙ ap (λ i. Number (truth (holds Less m i))) k ∙ cc
compared_is false (Number m) (Number n) v x y h k e = ap (λ i. Number (truth (holds Lower i y))) h ∙ ap (λ i. Number (truth (holds Lower m i))) k ∙ cc
compared_is less (Code item) b v x y h k e = absurd h
compared_is less (Number m) (Code item) v x y h k e = absurd k
compared_is true (Partial bytes) b v x y h k e = absurd (cc)
compared_is false (Partial bytes) b v x y h k e = absurd (cc)
compared_is true (Number m) (Partial bytes) v x y h k e = absurd (cc)
compared_is false (Number m) (Partial bytes) v x y h k e = absurd (cc)

other_is : (o : Operation) → is_comparison o ≡ false → (a b v : Value) (x y : ℕ) → ShowsValue a x → ShowsValue b y → computed o a b ≡ Ok v
    → Number (operated o x y) ≡ v
other_is o c a b v x y h k e = two_numbers (operated o) a b v x y h k (sym (computed_of o a b c) ∙ e)

value_is : (o : Operation) (a b v : Value) (x y : ℕ) → ShowsValue a x → ShowsValue b y → computed o a b ≡ Ok v → Number (operated o x y) ≡ v
value_is op.Less a b v x y h k e = compared_is true a b v x y h k e
value_is op.Lower a b v x y h k e = compared_is false a b v x y h k e
value_is op.Add a b v x y h k e = other_is op.Add refl a b v x y h k e
value_is op.Sub a b v x y h k e = other_is op.Sub refl a b v x y h k e
value_is op.And a b v x y h k e = other_is op.And refl a b v x y h k e
value_is op.Or a b v x y h k e = other_is op.Or refl a b v x y h k e
value_is op.Xor a b v x y h k e = other_is op.Xor refl a b v x y h k e
value_is op.Nor a b v x y h k e = other_is op.Nor refl a b v x y h k e

pub computed_leaves : (o : Operation) (place : ℕ) (first : Option ℕ) (rd : ℕ) (rs : Register) (second : Source) (a b v : Value) (bus : Bus) (s : Core)
    → HoldsWords s.regs → HoldsFirst first s.regs → rd ≢ 1 → IsNamed rs.0 → IsOperand second
    → ShowsValue a (reg s.regs rs.0) → ShowsValue b (value_of (reg s.regs) second) → computed o a b ≡ Ok v
    → Leaves rd v (put.computed place first o rd rs second).first s (ran_lines bus (put.computed place first o rd rs second).lines s)
computed_leaves o place first rd rs second a b v bus s h k nd named fits x y e =
    subst (λ w. Leaves rd w (put.computed place first o rd rs second).first s (ran_lines bus (put.computed place first o rd rs second).lines s))
    (value_is o a b v _ _ x y e) (numbers_leave o place first rd rs second bus s h k nd named fits)
