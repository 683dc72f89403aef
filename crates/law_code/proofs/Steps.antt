-- Single statements.
use Rattle.std.proofs.Common.{◌≡◌, ℕ, ℤ, suc, ◌+◌, ◌^◌, ◌<◌, Bool, true, false, cond, eqb, not, ◌||◌, Some, None, refl, ap, ◌∙◌, arith, pos}
use Rattle.std.specs.Prelude.{is_some, ◌&&◌, nat_lt, nat_le}
use Rattle.std.specs.Int.{w32, cast_unsigned}
use Rattle.std.proofs.lemmas.Bool.Decides.{nat_tests}
use Rattle.mx_isa.specs.declared.inst.Op.{Op}
use Rattle.mx_isa.specs.declared.inst.Op.TheVariants.{Add}
use Rattle.mx_isa.specs.declared.inst.Cond.{Cond}
use Rattle.mx_isa.specs.declared.inst.Cond.TheVariants.{Eq, Ne, Lt, Ge, Lo, Hs}
use Rattle.mx_isa.specs.declared.inst.Inst.TheVariants.{Compute, Addi, Load}
use Rattle.mx_isa.specs.Words.{reg}
use Rattle.mx_isa.specs.Arithmetic.{word_of, result_of, md_after, condition_holds}
use Rattle.mx_isa.specs.Effect.{Found, op_uses_md, offset_by, or_kept}
use Rattle.mx_isa.specs.UserBus.{is_user, plain_word, from_input}
use Rattle.mx_source.specs.declared.statement.Value.{Value}
use Rattle.mx_source.specs.declared.statement.Value.TheVariants.{Int, Code}
use Rattle.mx_source.specs.declared.statement.Why.TheVariants.{LoadOutside, CodeOperand}
use Rattle.mx_source.specs.Values.{Values, value_in, write_value, is_code, word_in, words_in, passed_on}
use Rattle.mx_source.specs.Meaning.{Program, State, Step, silent, stuck, unless_stuck, copies, any_code, perform, branches, execute}
use Rattle.cc_lines.specs.declared.instruction.Condition.{Condition}
use Rattle.cc_lines.specs.declared.instruction.Condition.TheVariants.{Equal, NotEqual, Less, NotLess, Greater, NotGreater, Lower, NotLower, Higher, NotHigher}
use Rattle.cc_lines.specs.Conditions.{holds}
use Rattle.law_emit.specs.Statements.{branch}

-- a register is written, and the run goes to a statement
abbrev pub put : ℕ → ℕ → Value → State → State
put index d v s = record s { index = index; regs = write_value s.regs d v }

-- the same with a word
abbrev pub to : ℕ → ℕ → ℕ → State → State
to index d x s = put index d (Int x) s

word_if : (b : Bool) (u v : Value) → word_in (cond b u v) ≡ cond b (word_in u) (word_in v)
word_if true u v = refl
word_if false u v = refl

pub word_value : (r : Values) (n : ℕ) → word_in (value_in r n) ≡ reg (words_in r) n
word_value r n = word_if (eqb n 0) (Int 0) (r n)

passed_word : (v : Value) (x : ℕ) → is_code v ≡ false → passed_on v x ≡ Int x
passed_word (Int w) x h = refl
passed_word (Code i) x h = cc

no_code : (r : Values) (a b : ℕ) → is_code (value_in r a) ≡ false → is_code (value_in r b) ≡ false → any_code r (a, b) ≡ false
no_code r a b h k = ap (λ t. t || is_code (value_in r b)) h ∙ k

no_code_if : (t : Bool) (r : Values) (a b : ℕ) → is_code (value_in r a) ≡ false → is_code (value_in r b) ≡ false → any_code r (cond t (0, 0) (a, b)) ≡ false
no_code_if true r a b h k = refl
no_code_if false r a b h k = no_code r a b h k

word_passed : (t : Bool) (v : Value) (x : ℕ) → is_code v ≡ false → passed_on (cond t v (Int 0)) x ≡ Int x
word_passed true v x h = passed_word v x h
word_passed false v x h = refl

not_under : (x y : ℕ) → nat_le y x ≡ not (nat_lt x y)
not_under x y = grind (arith, nat_tests)

module _ (p : Program) (s : State) where
  -- a copy
  pub copy_step : (a d : ℕ) → perform p (Compute a d 0 Add) s
      ≡ silent (put (suc s.index) d (passed_on (value_in s.regs a) (word_of (reg (words_in s.regs) a + 0))) s)
  copy_step a d = refl

  -- an operation that leaves MD
  pub compute_step : (a d b : ℕ) (op : Op) → op_uses_md op ≡ false → is_code (value_in s.regs a) ≡ false → is_code (value_in s.regs b) ≡ false
      → perform p (Compute a d b op) s ≡ silent (to (suc s.index) d (result_of op (reg (words_in s.regs) a) (reg (words_in s.regs) b) s.md) s)
  compute_step a d b op leaves h k =
      ap (λ t. shape t (op_uses_md op) (passed_on (cond (copies op b) (value_in s.regs a) (Int 0)) x)) (no_code_if (copies op b) s.regs a b h k)
      ∙ ap (λ t. shape false t (passed_on (cond (copies op b) (value_in s.regs a) (Int 0)) x)) leaves
      ∙ ap (shape false false) (word_passed (copies op b) (value_in s.regs a) x h)
    where
      x : ℕ
      x = result_of op (reg (words_in s.regs) a) (reg (words_in s.regs) b) s.md

      shape : Bool → Bool → Value → Step
      shape stops uses v = unless_stuck (cond stops (Some CodeOperand) None) (record {
        after = record {
          index = suc s.index;
          regs = write_value s.regs d v;
          md = or_kept (cond uses (Some (md_after op (reg (words_in s.regs) a) (reg (words_in s.regs) b) s.md)) None) s.md;
          mem = s.mem;
          taken = s.taken;
          mark = s.mark;
        };
        byte = None;
      }) s

  -- a sum with a number
  pub addi_step : (a d : ℕ) (imm : ℤ) → is_code (value_in s.regs a) ≡ false
      → perform p (Addi a d imm) s ≡ silent (to (suc s.index) d (offset_by (words_in s.regs) a imm) s)
  addi_step a d imm h = ap shape (no_code s.regs a 0 h refl)
    where
      shape : Bool → Step
      shape stops = unless_stuck (cond stops (Some CodeOperand) None) (silent (to (suc s.index) d (offset_by (words_in s.regs) a imm) s)) s

  -- the load of a word of user data that holds a word
  pub load_step : (d address word : ℕ) → is_user p.place address ≡ true → s.mem address ≡ Int word
      → perform p (Load 0 d (pos address)) s ≡ silent (to (suc s.index) d word s)
  load_step d address word user held =
      ap found (reached address below)
      ∙ ap (λ u. shape u (s.mem address)) user
      ∙ ap (shape true) held
    where
      below : address < 2 ^ 32
      below = let w = p.place.within in grind (arith, nat_tests)

      reached : (a : ℕ) → a < 2 ^ 32 → word_of (0 + cast_unsigned w32 (pos a)) ≡ a
      reached a h = omega arith

      other : ℕ → Found
      other a = cond (eqb a p.place.input) (from_input p.input s.taken) (plain_word 0)

      made : Found → Value → Step
      made f v = record {
        after = record {
          index = suc s.index;
          regs = write_value s.regs d (passed_on v f.word);
          md = s.md;
          mem = s.mem;
          taken = cond f.takes (suc s.taken) s.taken;
          mark = s.mark;
        };
        byte = None;
      }

      -- by the address that is reached
      found : ℕ → Step
      found a =
          unless_stuck (cond (is_user p.place a || (is_some p.input && eqb a p.place.input)) None (Some LoadOutside))
          (made (cond (is_user p.place a) (plain_word (words_in s.mem a)) (other a)) (cond (is_user p.place a) (s.mem a) (Int 0))) s

      shape : Bool → Value → Step
      shape u v =
          unless_stuck (cond (u || (is_some p.input && eqb address p.place.input)) None (Some LoadOutside))
          (made (cond u (plain_word (word_in v)) (other address)) (cond u v (Int 0))) s

  -- a branch
  tests : (a b : ℕ) (c : Cond) (target : ℕ) → is_code (value_in s.regs a) ≡ false → is_code (value_in s.regs b) ≡ false
      → branches a b c target s
      ≡ silent (to (cond (condition_holds c (reg (words_in s.regs) a) (reg (words_in s.regs) b)) target (suc s.index)) 0 0 s)
  tests a b c target h k =
      ap (λ t. shape t (word_in (value_in s.regs a)) (word_in (value_in s.regs b))) (no_code s.regs a b h k)
      ∙ ap (λ x. shape false x (word_in (value_in s.regs b))) (word_value s.regs a)
      ∙ ap (shape false (reg (words_in s.regs) a)) (word_value s.regs b)
    where
      shape : Bool → ℕ → ℕ → Step
      shape stops x y = cond stops (stuck CodeOperand s) (silent (to (cond (condition_holds c x y) target (suc s.index)) 0 0 s))

  pub branch_step : (c : Condition) (a b target : ℕ) → is_code (value_in s.regs a) ≡ false → is_code (value_in s.regs b) ≡ false
      → execute p (Some (branch c a b target)) s
      ≡ silent (to (cond (holds c (reg (words_in s.regs) a) (reg (words_in s.regs) b)) target (suc s.index)) 0 0 s)
  branch_step Equal a b target h k = tests a b Eq target h k
  branch_step NotEqual a b target h k = tests a b Ne target h k
  branch_step Less a b target h k = tests a b Lt target h k
  branch_step NotLess a b target h k = tests a b Ge target h k
  branch_step Greater a b target h k = tests b a Lt target k h
  branch_step NotGreater a b target h k = tests b a Ge target k h
  branch_step Lower a b target h k = tests a b Lo target h k
  branch_step NotLower a b target h k =
      tests a b Hs target h k ∙ ap (λ t. silent (to (cond t target (suc s.index)) 0 0 s)) (not_under (reg (words_in s.regs) a) (reg (words_in s.regs) b))
  branch_step Higher a b target h k = tests b a Lo target k h
  branch_step NotHigher a b target h k =
      tests b a Hs target k h ∙ ap (λ t. silent (to (cond t target (suc s.index)) 0 0 s)) (not_under (reg (words_in s.regs) b) (reg (words_in s.regs) a))
