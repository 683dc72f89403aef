-- Comparisons by a branch, and second operands.
use Rattle.std.proofs.Common.{◌≡◌, ◌≢◌, ◌<◌, ◌^◌, ℕ, ◌+◌, Bool, true, false, cond, ◌||◌, ◌==◌, List, [], ◌∷◌, ◌++◌, Option, Some, None, Ok, ◌⊎◌, refl, sym, ap, ◌∙◌, arith, ⊎_elim, inl, inr, subst}
use Rattle.std.specs.Option.{option_or, option_map}
use Rattle.std.proofs.lemmas.Bool.Decides.{nat_tests}
use Rattle.mx_isa.specs.Words.{Words, reg, write}
use Rattle.mx_isa.specs.Effect.{Core, Bus, act}
use Rattle.mx_isa.specs.declared.inst.Op.TheVariants as machine
use Rattle.mx_isa.proofs.Frame.{reg_write}
use Rattle.cc_lines.specs.declared.instruction.Condition.{Condition}
use Rattle.cc_lines.specs.declared.instruction.Condition.TheVariants.{Equal, NotEqual, Less}
use Rattle.cc_lines.specs.declared.instruction.Source.{Source}
use Rattle.cc_lines.specs.declared.instruction.Source.TheVariants.{Register, Number as Word}
use Rattle.cc_lines.specs.Conditions.{holds}
use Rattle.cc_emit.specs.declared.line.Computed.{Computed}
use Rattle.cc_emit.specs.declared.line.Line.{Line}
use Rattle.cc_emit.specs.declared.line.Line.TheVariants.{Mark, Plain as PlainLine}
use Rattle.cc_emit.specs.declared.line.Plain.{Plain}
use Rattle.cc_emit.specs.declared.line.Plain.TheVariants.{Move}
use Rattle.cc_emit.specs.declared.line.Target.TheVariants.{Skip}
use Rattle.cc_plan.specs.declared.plan.Comparison.{Comparison}
use Rattle.cc_plan.specs.Comparisons.{value_of}
use Rattle.cc_meaning.specs.declared.value.Value.{Value}
use Rattle.cc_meaning.specs.declared.value.Value.TheVariants.{Number, Code, Partial}
use Rattle.cc_meaning.specs.Arithmetic.{compared, truth}
use Rattle.cc_operations.specs.Operations.{lines, copied}
use Rattle.cc_operations.specs.Comparisons.{below, signs_of}
use Rattle.cc_operations.specs.Numbers.{instructions, is_held, constant}
use Rattle.cc_operations.specs.Computing as put
use Rattle.law_emit.specs.Statements.{instruction}
use Rattle.law_operations.specs.Runs.{ran, ran_from, ran_lines, HoldsWords, HoldsFirst, ShowsValue, Gives, Leaves, IsNamed, IsOperand}
use Rattle.law_operations.proofs.Steps.{written, gives_as, twice, after_between, computes}
use Rattle.law_operations.proofs.Operations.{copied_gives}
use Rattle.law_operations.proofs.Comparisons.{negative_holds, zero_holds, not_zero_holds, below_holds}
use Rattle.law_operations.proofs.Rest.{ran_only, Ready, ready_gives, leaves_of}
use Rattle.law_operations.proofs.Numbers.{held_then, constant_sets, constant_known}

-- ---- 1, or 0 where a branch is not taken

same_place : (n : ℕ) → (n == n) ≡ true
same_place n = grind (arith, nat_tests)

-- 1 is in rd already
abbrev cleared : Bool → Bus → ℕ → Core → Core
cleared t bus rd s = cond t s (act bus (instruction (Move 0 rd)) 0 s.regs s)

over_by : (t : Bool) (bus : Bus) (place rd : ℕ) (rest : List Line) (s : Core)
    → ran_from bus (cond t (Some place) None) (PlainLine (Move 0 rd) ∷ Mark (Skip place) ∷ rest) s ≡ ran_from bus None rest (cleared t bus rd s)
over_by true bus place rd rest s = ap (λ t. ran_from bus (cond t None (Some place)) rest s) (same_place place)
over_by false bus place rd rest s = refl

abbrev with_one : ℕ → Core → Core
with_one rd s = record s { regs = write s.regs rd 1 }

abbrev is_taken : Condition → ℕ → ℕ → ℕ → Core → Bool
is_taken c a b rd s = holds c (reg (write s.regs rd 1) a) (reg (write s.regs rd 1) b)

over_then : (bus : Bus) (place : ℕ) (c : Condition) (a b rd : ℕ) (rest : List Line) (s : Core)
    → ran_from bus None (put.set_over place c a b rd ++ rest) s ≡ ran_from bus None rest (cleared (is_taken c a b rd s) bus rd (with_one rd s))
over_then bus place c a b rd rest s = over_by (is_taken c a b rd s) bus place rd rest (with_one rd s)

over_gives : (t : Bool) (bus : Bus) (rd : ℕ) (s : Core) → HoldsWords s.regs → Gives rd (Number (truth t)) s (cleared t bus rd (with_one rd s))
over_gives true bus rd s h = written rd 1 s h (omega arith)
over_gives false bus rd s h =
    let g = let fits : 1 < 2 ^ 32 = omega arith in written rd 1 s h fits in
    twice rd 1 0 s (with_one rd s) _ g (gives_as rd _ 0 (with_one rd s) _ (λ k. refl) (computes bus 0 rd 0 machine.Add (with_one rd s) g.words tt refl))

-- the answer is in w, and is copied to rd
copied_to : (t : Bool) (rd v : ℕ) (bus : Bus) (s u : Core) → let w = cond t 26 rd in Gives w (Number v) s u
    → Gives rd (Number v) s (ran bus (copied w rd) u)
copied_to true rd v bus s u g =
    let ne : 26 ≢ 0 = omega arith in
    gives_as rd _ v s _ (λ k. g.given ne) (after_between rd v _ s u _ g (copied_gives bus 26 rd u g.words))
copied_to false rd v bus s u g = gives_as rd _ v s _ (λ k. g.given k) (twice rd v _ s u _ g (copied_gives bus rd rd u g.words))

is_apart : (t : Bool) (rd a : ℕ) → a ≢ 26 → (t ≡ false → rd ≢ a) → a ≡ cond t 26 rd → a ≡ 0
is_apart true rd a ne other e = absurd (ne e)
is_apart false rd a ne other e = absurd (other refl (sym e))

not_first : (rd a b : ℕ) → (rd == a || rd == b) ≡ false → rd ≢ a
not_first rd a b e = grind (arith, nat_tests)

not_second : (rd a b : ℕ) → (rd == a || rd == b) ≡ false → rd ≢ b
not_second rd a b e = grind (arith, nat_tests)

pub branched_gives : (place : ℕ) (c : Condition) (a b rd : ℕ) (bus : Bus) (s : Core) → HoldsWords s.regs → a ≢ 26 → b ≢ 26
    → Gives rd (Number (truth (holds c (reg s.regs a) (reg s.regs b)))) s (ran_lines bus (put.branched place c a b rd) s)
branched_gives place c a b rd bus s h na nb =
    let t = rd == a || rd == b in
    let w = put.answer rd a b in
    let u = cleared (is_taken c a b w s) bus w (with_one w s) in
    let seen : is_taken c a b w s ≡ holds c (reg s.regs a) (reg s.regs b) =
    ap (λ m. holds c m (reg (write s.regs w 1) b)) (reg_write s.regs w 1 a (is_apart t rd a na (not_first rd a b)))
    ∙ ap (holds c (reg s.regs a)) (reg_write s.regs w 1 b (is_apart t rd b nb (not_second rd a b))) in
    let g : Gives w (Number (truth (holds c (reg s.regs a) (reg s.regs b)))) s u =
    gives_as w _ _ s u (λ k. ap truth seen) (over_gives (is_taken c a b w s) bus w s h) in
    subst (Gives rd (Number (truth (holds c (reg s.regs a) (reg s.regs b)))) s)
    (sym (over_then bus place c a b w (lines (copied w rd)) s ∙ ran_only bus (copied w rd) u))
    (copied_to t rd _ bus s u g)

-- ---- second operands

operand_by : (t : Bool) (first : Option ℕ) (n : ℕ) (rest : List Line) (bus : Bus) (s : Core)
    → let p = cond t (instructions first []) (constant first n 1) in
    ran_from bus None (p.lines ++ rest) s ≡ ran_from bus None rest (ran_lines bus p.lines s)
operand_by true first n rest bus s = refl
operand_by false first n rest bus s = held_then (is_held first n 1) n 1 rest bus s

pub operand_then : (first : Option ℕ) (second : Source) (rest : List Line) (bus : Bus) (s : Core)
    → ran_from bus None ((put.operand first second).lines ++ rest) s ≡ ran_from bus None rest (ran_lines bus (put.operand first second).lines s)
operand_then first (Register r) rest bus s = refl
operand_then first (Word n) rest bus s = operand_by (n == 0) first n rest bus s

number_ready : (t : Bool) (first : Option ℕ) (n : ℕ) (bus : Bus) (s : Core) → HoldsWords s.regs → HoldsFirst first s.regs → n < 2 ^ 32 → (t ≡ true → n ≡ 0)
    → let p = cond t (instructions first []) (constant first n 1) in Ready p.first (cond t 0 1) n s (ran_lines bus p.lines s)
number_ready true first n bus s h k small z =
    record { known = k; shown = sym (z refl); kept = λ m l. refl; md = refl; mem = refl; taken = refl; words = h }
number_ready false first n bus s h k small z =
    let g = constant_sets first n 1 bus s h k small in
    let ne : 1 ≢ 0 = omega arith in
    record {
      known = constant_known first n 1 s _ k g;
      shown = g.given ne;
      kept = λ m l. g.kept m (λ e. absurd (l e));
      md = g.md;
      mem = g.mem;
      taken = g.taken;
      words = g.words;
    }

is_none : (n : ℕ) → (n == 0) ≡ true → n ≡ 0
is_none n h = grind (arith, nat_tests)

pub operand_ready : (first : Option ℕ) (second : Source) (bus : Bus) (s : Core) → HoldsWords s.regs → HoldsFirst first s.regs → IsOperand second
    → Ready (put.operand first second).first (put.operand_register second) (value_of (reg s.regs) second) s (ran_lines bus (put.operand first second).lines s)
operand_ready first (Register r) bus s h k fits =
    record { known = k; shown = refl; kept = λ m l. refl; md = refl; mem = refl; taken = refl; words = h }
operand_ready first (Word n) bus s h k fits = number_ready (n == 0) first n bus s h k fits (is_none n)

not_between : (t : Bool) → let r : ℕ = cond t 0 1 in r ≢ 26
not_between true = λ e. absurd (omega arith)
not_between false = λ e. absurd (omega arith)

operand_apart : (second : Source) → IsOperand second → put.operand_register second ≢ 26
operand_apart (Register r) fits = fits.1
operand_apart (Word n) fits = not_between (n == 0)

-- ---- comparisons

abbrev pub Compares : ℕ → Condition → ℕ → Source → Core → Core → Type 0
Compares rd c a second s t = Gives rd (Number (truth (holds c (reg s.regs a) (value_of (reg s.regs) second)))) s t

by_branch_leaves : (place : ℕ) (first : Option ℕ) (rd : ℕ) (found : Comparison) (bus : Bus) (s : Core) → HoldsWords s.regs → HoldsFirst first s.regs → rd ≢ 1
    → IsNamed found.rs.0 → IsOperand found.second
    → Leaves rd (Number (truth (holds found.condition (reg s.regs found.rs.0) (value_of (reg s.regs) found.second))))
    (put.by_branch place first rd found).first s (ran_lines bus (put.by_branch place first rd found).lines s)
by_branch_leaves place first rd found bus s h k ne named fits =
    let c = found.condition in
    let a = found.rs.0 in
    let b = put.operand_register found.second in
    let p = put.operand first found.second in
    let t = ran_lines bus p.lines s in
    let x = value_of (reg s.regs) found.second in
    let r = operand_ready first found.second bus s h k fits in
    let seen : truth (holds c (reg t.regs a) (reg t.regs b)) ≡ truth (holds c (reg s.regs a) x) =
    ap (λ m. truth (holds c m (reg t.regs b))) (r.kept a named.0) ∙ ap (λ m. truth (holds c (reg s.regs a) m)) r.shown in
    let g = gives_as rd _ _ t _ (λ q. seen) (branched_gives place c a b rd bus t r.words named.1 (operand_apart found.second fits)) in
    subst (Leaves rd (Number (truth (holds c (reg s.regs a) x))) p.first s)
    (sym (operand_then first found.second (put.branched place c a b rd) bus s))
    (ready_gives p.first b x rd _ s t _ ne r g)

or_leaves : (o : Option (List Plain)) (place : ℕ) (first : Option ℕ) (rd : ℕ) (found : Comparison) (bus : Bus) (s : Core)
    → HoldsWords s.regs → HoldsFirst first s.regs → rd ≢ 1 → IsNamed found.rs.0 → IsOperand found.second
    → ((code : List Plain) → o ≡ Some code → Compares rd found.condition found.rs.0 found.second s (ran bus code s))
    → Leaves rd (Number (truth (holds found.condition (reg s.regs found.rs.0) (value_of (reg s.regs) found.second))))
    (put.or_branch o place first rd found).first s (ran_lines bus (put.or_branch o place first rd found).lines s)
or_leaves None place first rd found bus s h k ne named fits by = by_branch_leaves place first rd found bus s h k ne named fits
or_leaves (Some code) place first rd found bus s h k ne named fits by =
    let v = Number (truth (holds found.condition (reg s.regs found.rs.0) (value_of (reg s.regs) found.second))) in
    subst (Leaves rd v first s) (sym (ran_only bus code s)) (leaves_of first rd v s _ ne k (by code refl))

code_is : (x y : List Plain) → Some x ≡ Some y → x ≡ y
code_is x y e = cc

below_gives : (o : Option Computed) (c : Condition) (a rd n : ℕ) (code : List Plain) (bus : Bus) (s : Core) → HoldsWords s.regs → a ≢ 26 → n < 2 ^ 32
    → signs_of c n ≡ o → option_map (λ signs. below signs a n rd) o ≡ Some code → Compares rd c a (Word n) s (ran bus code s)
below_gives None c a rd n code bus s h ne small e f = absurd (cc)
below_gives (Some signs) c a rd n code bus s h ne small e f =
    subst (λ l. Compares rd c a (Word n) s (ran bus l s)) (code_is _ code f)
    (below_holds c signs rd a n (Number (reg s.regs a)) (holds c (reg s.regs a) n) bus s h ne small e refl refl)

number_gives : (c : Condition) (a rd : ℕ) (second : Source) (code : List Plain) (bus : Bus) (s : Core) → HoldsWords s.regs → a ≢ 26 → IsOperand second
    → put.with_number c a rd second ≡ Some code → Compares rd c a second s (ran bus code s)
number_gives c a rd (Register r) code bus s h ne fits e = absurd (cc)
number_gives c a rd (Word n) code bus s h ne fits e = below_gives (signs_of c n) c a rd n code bus s h ne fits refl e

zero_gives : (c : Condition) (a rd : ℕ) (code : List Plain) (bus : Bus) (s : Core) → HoldsWords s.regs → a ≢ 26
    → put.with_zero c a rd ≡ Some code → Gives rd (Number (truth (holds c (reg s.regs a) 0))) s (ran bus code s)
zero_gives Less a rd code bus s h ne e =
    subst (λ l. Gives rd (Number (truth (holds Less (reg s.regs a) 0))) s (ran bus l s)) (code_is _ code e)
    (negative_holds rd a (Number (reg s.regs a)) _ bus s h refl refl)
zero_gives Equal a rd code bus s h ne e =
    subst (λ l. Gives rd (Number (truth (holds Equal (reg s.regs a) 0))) s (ran bus l s)) (code_is _ code e)
    (zero_holds rd a (Number (reg s.regs a)) _ bus s h ne refl refl)
zero_gives NotEqual a rd code bus s h ne e =
    subst (λ l. Gives rd (Number (truth (holds NotEqual (reg s.regs a) 0))) s (ran bus l s)) (code_is _ code e)
    (not_zero_holds rd a (Number (reg s.regs a)) _ bus s h ne refl refl)
zero_gives _ a rd code bus s h ne e = absurd (cc)

one_of : (o p : Option (List Plain)) (code : List Plain) → option_or o p ≡ Some code → (o ≡ Some code) ⊎ (p ≡ Some code)
one_of None p code e = inr e
one_of (Some x) p code e = inl e

zero_value : (second : Source) (r : Words) → put.is_zero second ≡ true → value_of (reg r) second ≡ 0
zero_value (Register g) r e = zero_reg r g.0 e
  where
    zero_reg : (r : Words) (n : ℕ) → (n == 0) ≡ true → reg r n ≡ 0
    zero_reg r n h = grind (arith, nat_tests)
zero_value (Word n) r e = is_none n e

set_by : (t : Bool) (place : ℕ) (first : Option ℕ) (rd : ℕ) (found : Comparison) (bus : Bus) (s : Core)
    → HoldsWords s.regs → HoldsFirst first s.regs → rd ≢ 1 → IsNamed found.rs.0 → IsOperand found.second
    → (t ≡ true → value_of (reg s.regs) found.second ≡ 0)
    → let p = cond t
    (put.or_branch (option_or (put.with_zero found.condition found.rs.0 rd) (put.with_number found.condition found.rs.0 rd found.second))
    place first rd found)
    (put.against place first rd found) in
    Leaves rd (Number (truth (holds found.condition (reg s.regs found.rs.0) (value_of (reg s.regs) found.second)))) p.first s (ran_lines bus p.lines s)
set_by true place first rd found bus s h k ne named fits z =
    or_leaves _ place first rd found bus s h k ne named fits
    (λ code e. ⊎_elim
    (λ q. subst (λ m. Gives rd (Number (truth (holds found.condition (reg s.regs found.rs.0) m))) s (ran bus code s)) (sym (z refl))
    (zero_gives found.condition found.rs.0 rd code bus s h named.1 q))
    (λ q. number_gives found.condition found.rs.0 rd found.second code bus s h named.1 fits q)
    (one_of (put.with_zero found.condition found.rs.0 rd) (put.with_number found.condition found.rs.0 rd found.second) code e))
set_by false place first rd found bus s h k ne named fits z =
    or_leaves _ place first rd found bus s h k ne named fits
    (λ code e. number_gives found.condition found.rs.0 rd found.second code bus s h named.1 fits e)

pub set_leaves : (place : ℕ) (first : Option ℕ) (rd : ℕ) (found : Comparison) (bus : Bus) (s : Core) → HoldsWords s.regs → HoldsFirst first s.regs → rd ≢ 1
    → IsNamed found.rs.0 → IsOperand found.second
    → Leaves rd (Number (truth (holds found.condition (reg s.regs found.rs.0) (value_of (reg s.regs) found.second))))
    (put.set place first rd found).first s (ran_lines bus (put.set place first rd found).lines s)
set_leaves place first rd found bus s h k ne named fits =
    set_by (put.is_zero found.second) place first rd found bus s h k ne named fits (zero_value found.second s.regs)

-- ---- the values that registers show

answer_is : (c : Condition) (a b : Value) (t : Bool) (x y : ℕ) → ShowsValue a x → ShowsValue b y → compared c a b ≡ Ok t → truth (holds c x y) ≡ truth t
answer_is c (Number m) (Number n) t x y h k e = ap (λ i. truth (holds c i y)) h ∙ ap (λ i. truth (holds c m i)) k ∙ cc
answer_is c (Code item) b t x y h k e = absurd h
answer_is c (Number m) (Code item) t x y h k e = absurd k
answer_is c (Partial bytes) b t x y h k e = absurd (cc)
answer_is c (Number m) (Partial bytes) t x y h k e = absurd (cc)

pub branch_gives : (place : ℕ) (c : Condition) (a b rd : ℕ) (x y : Value) (t : Bool) (bus : Bus) (s : Core) → HoldsWords s.regs → a ≢ 26 → b ≢ 26
    → ShowsValue x (reg s.regs a) → ShowsValue y (reg s.regs b) → compared c x y ≡ Ok t
    → Gives rd (Number (truth t)) s (ran_lines bus (put.branched place c a b rd) s)
branch_gives place c a b rd x y t bus s h na nb m n e =
    gives_as rd _ _ s _ (λ q. answer_is c x y t _ _ m n e) (branched_gives place c a b rd bus s h na nb)

pub comparison_leaves : (place : ℕ) (first : Option ℕ) (rd : ℕ) (found : Comparison) (a b : Value) (t : Bool) (bus : Bus) (s : Core)
    → HoldsWords s.regs → HoldsFirst first s.regs → rd ≢ 1 → IsNamed found.rs.0 → IsOperand found.second
    → ShowsValue a (reg s.regs found.rs.0) → ShowsValue b (value_of (reg s.regs) found.second) → compared found.condition a b ≡ Ok t
    → Leaves rd (Number (truth t)) (put.set place first rd found).first s (ran_lines bus (put.set place first rd found).lines s)
comparison_leaves place first rd found a b t bus s h k ne named fits m n e =
    subst (λ v. Leaves rd (Number v) (put.set place first rd found).first s (ran_lines bus (put.set place first rd found).lines s))
    (answer_is found.condition a b t _ _ m n e) (set_leaves place first rd found bus s h k ne named fits)
