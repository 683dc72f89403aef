-- Operations on two registers, and shifts by a number.
use Rattle.std.proofs.Common.{◌≡◌, ◌≤◌, ◌^◌, ℕ, ◌+◌, ◌-◌, ◌%◌, Bool, true, false, cond, ◌&&◌, ◌||◌, [], ◌∷◌, Ok, ◌⊎◌, refl, sym, ap, ◌∙◌, arith, subst, ⊎_elim}
use Rattle.std.specs.Prelude.{◌==◌}
use Rattle.std.specs.Int.RustNames.{bit_or, bit_xor}
use Rattle.std.proofs.lemmas.Bool.Decides.{nat_tests}
use Rattle.mx_isa.specs.Arithmetic.{word_of, result_of}
use Rattle.mx_isa.specs.Words.{Words, reg}
use Rattle.mx_isa.specs.Effect.{Core, Bus, op_uses_md}
use Rattle.mx_isa.specs.declared.inst.Op.TheVariants as machine
use Rattle.cc_lines.specs.declared.instruction.Operation.{Operation}
use Rattle.cc_lines.specs.declared.instruction.Operation.TheVariants as op
use Rattle.cc_lines.specs.declared.instruction.Shift.{Shift}
use Rattle.cc_lines.specs.declared.instruction.Shift.TheVariants.{Left, Right, Arithmetic, Rotate}
use Rattle.cc_rules.specs.Views.{is_comparison}
use Rattle.cc_emit.specs.declared.line.Computed.{Computed}
use Rattle.cc_emit.specs.declared.line.Computed.TheVariants.{Add, Sub, And, Or, Xor}
use Rattle.cc_emit.specs.declared.line.Plain.TheVariants.{Compute, Move, Not, Asr, Sh}
use Rattle.cc_meaning.specs.declared.value.Value.{Value}
use Rattle.cc_meaning.specs.declared.value.Value.TheVariants.{Number, Code, Partial}
use Rattle.cc_meaning.specs.Values.{and_then, number_of}
use Rattle.cc_meaning.specs.Arithmetic.{computed, operated, shifted, shifted_by}
use Rattle.cc_operations.specs.Operations as lines
use Rattle.law_emit.specs.Statements.{operation}
use Rattle.law_operations.specs.Runs.{ran, HoldsWords, ShowsValue, Gives}
use Rattle.law_operations.proofs.Bits.{or_zero, xor_zero, left_is, right_is, rotate_is, shift_none}
use Rattle.law_operations.proofs.Steps.{gives_as, untouched, twice, computes, count_fits}

-- a copy
copied_by : (t : Bool) (bus : Bus) (rs rd : ℕ) (s : Core) → HoldsWords s.regs → (t ≡ true → (rs ≡ rd) ⊎ (rd ≡ 0))
    → Gives rd (Number (reg s.regs rs)) s (ran bus (cond t [] (Move rs rd ∷ [])) s)
copied_by true bus rs rd s h same = untouched rd _ s h (λ ne. ⊎_elim (λ e. ap (reg s.regs) (sym e)) (λ e. absurd (ne e)) (same refl))
copied_by false bus rs rd s h same =
    let small = h rs in
    let e : word_of (reg s.regs rs + 0) ≡ reg s.regs rs = omega arith in
    gives_as rd _ _ s _ (λ k. e) (computes bus rs rd 0 machine.Add s h tt refl)

either_of : (rs rd : ℕ) → (rs == rd || rd == 0) ≡ true → (rs ≡ rd) ⊎ (rd ≡ 0)
either_of rs rd h = grind (arith, nat_tests)

pub copied_gives : (bus : Bus) (rs rd : ℕ) (s : Core) → HoldsWords s.regs → Gives rd (Number (reg s.regs rs)) s (ran bus (lines.copied rs rd) s)
copied_gives bus rs rd s h = copied_by (rs == rd || rd == 0) bus rs rd s h (either_of rs rd)

-- a copy, or an operation
by_copy : (t : Bool) (c : Computed) (bus : Bus) (rd rs rt v : ℕ) (s : Core) → HoldsWords s.regs → op_uses_md (operation c) ≡ false
    → (t ≡ true → reg s.regs rs ≡ v) → result_of (operation c) (reg s.regs rs) (reg s.regs rt) s.md ≡ v
    → Gives rd (Number v) s (ran bus (cond t (lines.copied rs rd) (Compute c rs rt rd ∷ [])) s)
by_copy true c bus rd rs rt v s h m copy e = gives_as rd _ v s _ (λ k. copy refl) (copied_gives bus rs rd s h)
by_copy false c bus rd rs rt v s h m copy e = gives_as rd _ v s _ (λ k. e) (computes bus rs rd rt (operation c) s h (count_fits c) m)

zero_second : (r : Words) (n : ℕ) (k : Bool) → (n == 0 && k) ≡ true → reg r n ≡ 0
zero_second r n k h = grind (arith, nat_tests)

never : (b : Bool) → (b && false) ≡ true → ⊥
never true h = absurd (cc)
never false h = absurd (cc)

zero_reg : (r : Words) (n : ℕ) → (n == 0) ≡ true → reg r n ≡ 0
zero_reg r n h = grind (arith, nat_tests)

nor_by : (p q : Bool) (bus : Bus) (rd rs rt : ℕ) (s : Core) → HoldsWords s.regs → (p ≡ true → reg s.regs rt ≡ 0) → (q ≡ true → reg s.regs rs ≡ 0)
    → Gives rd (Number (2 ^ 32 - 1 - bit_or (reg s.regs rs) (reg s.regs rt))) s
    (ran bus (cond p (lines.complemented rs rd) (cond q (lines.complemented rt rd) (Compute Or rs rt rd ∷ lines.complemented rd rd))) s)
nor_by true q bus rd rs rt s h f g =
    let e : bit_or (reg s.regs rs) (reg s.regs rt) ≡ reg s.regs rs = ap (bit_or (reg s.regs rs)) (f refl) ∙ or_zero _ in
    gives_as rd _ _ s _ (λ k. ap (λ n. 2 ^ 32 - 1 - n) (sym e)) (computes bus rs rd 0 machine.Not s h tt refl)
nor_by false true bus rd rs rt s h f g =
    let e : bit_or (reg s.regs rs) (reg s.regs rt) ≡ reg s.regs rt = ap (λ n. bit_or n (reg s.regs rt)) (g refl) in
    gives_as rd _ _ s _ (λ k. ap (λ n. 2 ^ 32 - 1 - n) (sym e)) (computes bus rt rd 0 machine.Not s h tt refl)
nor_by false false bus rd rs rt s h f g =
    let k = computes bus rs rd rt machine.Or s h tt refl in
    let u = ran bus (Compute Or rs rt rd ∷ []) s in
    twice rd _ _ s u _ k (gives_as rd _ _ u _ (λ ne. ap (λ n. 2 ^ 32 - 1 - n) (k.given ne)) (computes bus rd rd 0 machine.Not u k.words tt refl))

pub operated_gives : (o : Operation) → is_comparison o ≡ false → (rd rs rt : ℕ) (bus : Bus) (s : Core) → HoldsWords s.regs
    → Gives rd (Number (operated o (reg s.regs rs) (reg s.regs rt))) s (ran bus (lines.operated o rd rs rt) s)
operated_gives op.Add c rd rs rt bus s h =
    let small = h rs in
    by_copy (rt == 0 && true) Add bus rd rs rt _ s h refl
    (λ e. let z = zero_second s.regs rt true e in let f : reg s.regs rs ≡ (reg s.regs rs + reg s.regs rt) % 2 ^ 32 = omega arith in f) refl
operated_gives op.Sub c rd rs rt bus s h =
    let small = h rs in
    by_copy (rt == 0 && true) Sub bus rd rs rt _ s h refl
    (λ e. let z = zero_second s.regs rt true e in let f : reg s.regs rs ≡ (reg s.regs rs + (2 ^ 32 - reg s.regs rt)) % 2 ^ 32 = omega arith in f) refl
operated_gives op.And c rd rs rt bus s h = by_copy (rt == 0 && false) And bus rd rs rt _ s h refl (λ e. absurd (never (rt == 0) e)) refl
operated_gives op.Or c rd rs rt bus s h =
    by_copy (rt == 0 && true) Or bus rd rs rt _ s h refl
    (λ e. sym (or_zero _) ∙ ap (bit_or (reg s.regs rs)) (sym (zero_second s.regs rt true e))) refl
operated_gives op.Xor c rd rs rt bus s h =
    by_copy (rt == 0 && true) Xor bus rd rs rt _ s h refl
    (λ e. sym (xor_zero _) ∙ ap (bit_xor (reg s.regs rs)) (sym (zero_second s.regs rt true e))) refl
operated_gives op.Nor c rd rs rt bus s h = nor_by (rt == 0) (rs == 0) bus rd rs rt s h (zero_reg s.regs rt) (zero_reg s.regs rs)
operated_gives op.Less c rd rs rt bus s h = absurd (cc)
operated_gives op.Lower c rd rs rt bus s h = absurd (cc)

-- only numbers have a value
pub computed_of : (o : Operation) (a b : Value) → is_comparison o ≡ false
    → computed o a b ≡ and_then (number_of a) (λ x. and_then (number_of b) (λ y. Ok (Number (operated o x y))))
computed_of op.Add a b c = refl
computed_of op.Sub a b c = refl
computed_of op.And a b c = refl
computed_of op.Or a b c = refl
computed_of op.Xor a b c = refl
computed_of op.Nor a b c = refl
computed_of op.Less a b c = absurd (cc)
computed_of op.Lower a b c = absurd (cc)

pub two_numbers : (f : ℕ → ℕ → ℕ) (a b v : Value) (x y : ℕ) → ShowsValue a x → ShowsValue b y
    → and_then (number_of a) (λ m. and_then (number_of b) (λ n. Ok (Number (f m n)))) ≡ Ok v → Number (f x y) ≡ v
two_numbers f (Number m) (Number n) v x y h k e = ap (λ i. Number (f i y)) h ∙ ap (λ i. Number (f m i)) k ∙ cc
two_numbers f (Number m) (Code item) v x y h k e = absurd (cc)
two_numbers f (Number m) (Partial bytes) v x y h k e = absurd (cc)
two_numbers f (Code item) b v x y h k e = absurd (cc)
two_numbers f (Partial bytes) b v x y h k e = absurd (cc)

pub operation_values : (o : Operation) → is_comparison o ≡ false → (rd rs rt : ℕ) (a b v : Value) (bus : Bus) (s : Core) → HoldsWords s.regs
    → ShowsValue a (reg s.regs rs) → ShowsValue b (reg s.regs rt) → computed o a b ≡ Ok v → Gives rd v s (ran bus (lines.operated o rd rs rt) s)
operation_values o c rd rs rt a b v bus s h x y e =
    subst (λ w. Gives rd w s (ran bus (lines.operated o rd rs rt) s))
    (two_numbers (operated o) a b v _ _ x y (sym (computed_of o a b c) ∙ e)) (operated_gives o c rd rs rt bus s h)

-- shifts
shift_some : (o : Shift) (bus : Bus) (rd rs n : ℕ) (s : Core) → HoldsWords s.regs → 1 ≤ n → n ≤ 31
    → Gives rd (Number (shifted_by o (reg s.regs rs) n)) s (ran bus (lines.shift o rd rs n ∷ []) s)
shift_some Left bus rd rs n s h l m =
    gives_as rd _ _ s _ (λ k. left_is (reg s.regs rs) n m l)
    (let c : 32 - n ≤ 31 = omega arith in computes bus 0 rd rs (machine.Sh (32 - n)) s h c refl)
shift_some Right bus rd rs n s h l m = gives_as rd _ _ s _ (λ k. right_is (reg s.regs rs) n) (computes bus rs rd 0 (machine.Sh n) s h m refl)
shift_some Arithmetic bus rd rs n s h l m = computes bus rs rd 0 (machine.Asr n) s h m refl
shift_some Rotate bus rd rs n s h l m =
    gives_as rd _ _ s _ (λ k. rotate_is (reg s.regs rs) n (h rs) m l)
    (let c : 32 - n ≤ 31 = omega arith in computes bus rs rd rs (machine.Sh (32 - n)) s h c refl)

shift_by : (t : Bool) (o : Shift) (bus : Bus) (rd rs n : ℕ) (s : Core) → HoldsWords s.regs → n ≤ 31 → (t ≡ true → n ≡ 0) → (t ≡ false → 1 ≤ n)
    → Gives rd (Number (shifted_by o (reg s.regs rs) n)) s (ran bus (cond t (lines.copied rs rd) (lines.shift o rd rs n ∷ [])) s)
shift_by true o bus rd rs n s h m z p =
    gives_as rd _ _ s _ (λ k. sym (shift_none o _ (h rs)) ∙ ap (shifted_by o (reg s.regs rs)) (sym (z refl))) (copied_gives bus rs rd s h)
shift_by false o bus rd rs n s h m z p = shift_some o bus rd rs n s h (p refl) m

is_zero : (n : ℕ) → (n == 0) ≡ true → n ≡ 0
is_zero n h = grind (arith, nat_tests)

is_some : (n : ℕ) → (n == 0) ≡ false → 1 ≤ n
is_some n h = grind (arith, nat_tests)

shifted_gives : (o : Shift) (rd rs count : ℕ) (bus : Bus) (s : Core) → HoldsWords s.regs
    → Gives rd (Number (shifted_by o (reg s.regs rs) (count % 32))) s (ran bus (lines.shifted o rd rs count) s)
shifted_gives o rd rs count bus s h =
    let m : count % 32 ≤ 31 = omega arith in
    shift_by (count % 32 == 0) o bus rd rs (count % 32) s h m (is_zero (count % 32)) (is_some (count % 32))

one_number : (f : ℕ → ℕ) (a v : Value) (x : ℕ) → ShowsValue a x → and_then (number_of a) (λ m. Ok (Number (f m))) ≡ Ok v → Number (f x) ≡ v
one_number f (Number m) v x h e = ap (λ i. Number (f i)) h ∙ cc
one_number f (Code item) v x h e = absurd (cc)
one_number f (Partial bytes) v x h e = absurd (cc)

pub shift_values : (o : Shift) (rd rs count : ℕ) (a v : Value) (bus : Bus) (s : Core) → HoldsWords s.regs
    → ShowsValue a (reg s.regs rs) → shifted o a (Number count) ≡ Ok v → Gives rd v s (ran bus (lines.shifted o rd rs count) s)
shift_values o rd rs count a v bus s h x e =
    subst (λ w. Gives rd w s (ran bus (lines.shifted o rd rs count) s))
    (one_number (λ m. shifted_by o m (count % 32)) a v _ x e) (shifted_gives o rd rs count bus s h)
