-- Runs of programs in which every value is a word.
use Rattle.std.proofs.Common.{◌≡◌, ◌≢◌, ℕ, zero, suc, ◌^◌, ◌≤◌, ◌<◌, Bool, true, false, cond, ◌||◌, ◌&&◌, eqb, Option, Some, None, ◌⊎◌, ⊎_elim, refl, ap, ◌∙◌, arith, pos, ℤ}
use Rattle.std.specs.List.{slice_get}
use Rattle.std.specs.Option.{is_some}
use Rattle.std.proofs.lemmas.Bool.{cond-false}
use Rattle.std.proofs.lemmas.Bool.Decides.{nat_tests}
use Rattle.mx_isa.specs.declared.inst.Inst.{Inst}
use Rattle.mx_isa.specs.declared.inst.Inst.TheVariants.{Load, Store, Compute, Addi}
use Rattle.mx_isa.specs.declared.inst.Op.{Op}
use Rattle.mx_isa.specs.declared.inst.Cond.{Cond}
use Rattle.mx_isa.specs.declared.place.Place.{Place}
use Rattle.mx_isa.specs.Arithmetic.{condition_holds}
use Rattle.mx_isa.specs.Effect.{Sent, change, offset_by}
use Rattle.mx_isa.specs.UserBus.{is_user, user_bus}
use Rattle.mx_source.specs.declared.statement.Value.{Value}
use Rattle.mx_source.specs.declared.statement.Value.TheVariants.{Int, Code}
use Rattle.mx_source.specs.declared.statement.Statement.{Statement}
use Rattle.mx_source.specs.declared.statement.Statement.TheVariants.{Plain, Branch, Halt}
use Rattle.mx_source.specs.declared.statement.Why.{Why}
use Rattle.mx_source.specs.declared.statement.Why.TheVariants.{CodeOperand, LoadOutside, StoreOutside, CodeToConsole}
use Rattle.mx_source.specs.Values.{Values, value_in, put_value, write_value, is_code, word_in, words_in, passed_on}
use Rattle.mx_source.specs.Meaning.{Program, Going, Halted, State, operands, any_code, copies, why_load, why_store, why_plain, passed, store_value, done, unless_stuck, goes, execute, if_going, step}

-- a state that goes on, in which every value is a word
pub record Ints (s : State) : Type 0 where
  pub going : s.mark ≡ Going
  pub regs : (n : ℕ) → is_code (value_in s.regs n) ≡ false
  pub mem : (a : ℕ) → is_code (s.mem a) ≡ false

pub no_code : (s : State) (x : ℕ × ℕ) → Ints s → any_code s.regs x ≡ false
no_code s x h = ap (λ b. b || is_code (value_in s.regs x.1)) (h.regs x.0) ∙ h.regs x.1

by_bools : (a b c : Bool) (x y : Value) → is_code (cond a (Int 0) y) ≡ false → is_code x ≡ false → is_code (cond a (Int 0) (cond b y (cond c x y))) ≡ false
by_bools true b c x y hy hx = refl
by_bools false true c x y hy hx = hy
by_bools false false true x y hy hx = hx
by_bools false false false x y hy hx = hy

pub written_ints : (r : Values) (d : ℕ) (x : Value) → ((n : ℕ) → is_code (value_in r n) ≡ false) → is_code x ≡ false → (n : ℕ)
    → is_code (value_in (write_value r d x) n) ≡ false
written_ints r d x h hx n = by_bools (eqb n 0) (eqb d 0) (eqb n d) x (r n) (h n) hx

kept_bools : (a b c : Bool) (x y : Value) → c ≡ false → cond a (Int 0) (cond b y (cond c x y)) ≡ cond a (Int 0) y
kept_bools true b c x y e = refl
kept_bools false true c x y e = refl
kept_bools false false true x y e = absurd (true_false e)
  where
    true_false : true ≡ false → ⊥
    true_false t = cc
kept_bools false false false x y e = refl

-- another register keeps its value
pub written_other : (r : Values) (d n : ℕ) (x : Value) → n ≢ d → value_in (write_value r d x) n ≡ value_in r n
written_other r d n x ne = let e : eqb n d ≡ false = grind (arith, nat_tests) in kept_bools (eqb n 0) (eqb d 0) (eqb n d) x (r n) e

passed_word : (v : Value) (w : ℕ) → is_code v ≡ false → is_code (passed_on v w) ≡ false
passed_word (Int k) w h = refl
passed_word (Code i) w h = h

-- what is passed on is a word
passed_ints : (place : Place) (i : Inst) (s : State) → Ints s → is_code (passed place i s.regs s.mem) ≡ false
passed_ints place (Compute a d b op) s h = one (copies op b) (value_in s.regs a) (h.regs a)
  where
    one : (c : Bool) (v : Value) → is_code v ≡ false → is_code (cond c v (Int 0)) ≡ false
    one true v e = e
    one false v e = refl
passed_ints place (Load base d offset) s h =
    one (is_user place (offset_by (words_in s.regs) base offset)) (s.mem (offset_by (words_in s.regs) base offset))
    (h.mem (offset_by (words_in s.regs) base offset))
  where
    one : (c : Bool) (v : Value) → is_code v ≡ false → is_code (cond c v (Int 0)) ≡ false
    one true v e = e
    one false v e = refl
passed_ints place (Store base value offset) s h = h.regs value
passed_ints place _ s h = refl

stored_ints : (place : Place) (o : Option Sent) (v : Value) (m : Values) → is_code v ≡ false → ((a : ℕ) → is_code (m a) ≡ false) → (a : ℕ)
    → is_code (store_value place o v m a) ≡ false
stored_ints place None v m hv hm a = hm a
stored_ints place (Some x) v m hv hm a =
    two (is_user place x.address) (put_value m x.address (passed_on v x.word)) m a
    (one (eqb a x.address) (passed_on v x.word) (m a) (passed_word v x.word hv) (hm a)) (hm a)
  where
    one : (c : Bool) (y z : Value) → is_code y ≡ false → is_code z ≡ false → is_code (cond c y z) ≡ false
    one true y z hy hz = hy
    one false y z hy hz = hz

    two : (b : Bool) (f g : Values) (k : ℕ) → is_code (f k) ≡ false → is_code (g k) ≡ false → is_code (cond b f g k) ≡ false
    two true f g k hf hg = hf
    two false f g k hf hg = hg

-- an instruction that is not stuck leaves words
pub done_ints : (p : Program) (i : Inst) (s : State) → Ints s → Ints (done p i s).after
done_ints p i s h = let bus = user_bus p.place p.input in
    let c = change i 0 (words_in s.regs) s.md (bus.load (words_in s.mem) s.taken) in let v = passed p.place i s.regs s.mem in record {
      going = h.going;
      regs = written_ints s.regs c.dest (passed_on v c.value) h.regs (passed_word v c.value (passed_ints p.place i s h));
      mem = stored_ints p.place c.stores v s.mem (passed_ints p.place i s h) h.mem;
    }

pub step_is : (p : Program) (s : State) (st : Statement) → Ints s → slice_get p.statements s.index ≡ Some st → step p s ≡ execute p (Some st) s
step_is p s st h e = ap (λ m. if_going m (execute p (slice_get p.statements s.index) s) s) h.going ∙ ap (λ o. execute p o s) e

-- a plain instruction that is not stuck
pub plain_is : (p : Program) (s : State) (i : Inst) → Ints s → slice_get p.statements s.index ≡ Some (Plain i) → why_plain p i s.regs ≡ None
    → step p s ≡ done p i s
plain_is p s i h e w = step_is p s (Plain i) h e ∙ ap (λ o. unless_stuck o (done p i s) s) w

-- a branch
pub branch_is : (p : Program) (s : State) (a b : ℕ) (c : Cond) (t : ℕ) → Ints s → slice_get p.statements s.index ≡ Some (Branch a b c t) →
    step p s ≡ goes (cond (condition_holds c (word_in (value_in s.regs a)) (word_in (value_in s.regs b))) t (suc s.index)) 0 (Int 0) s
branch_is p s a b c t h e = step_is p s (Branch a b c t) h e ∙ cond-false (any_code s.regs (a, b)) _ _ (no_code s (a, b) h)

pub goes_ints : (s : State) (t : ℕ) → Ints s → Ints (goes t 0 (Int 0) s).after
goes_ints s t h = record { going = h.going; regs = h.regs; mem = h.mem }

-- so many steps
abbrev pub steps : Program → ℕ → State → State
steps p zero s = s
steps p (suc n) s = steps p n (step p s).after

-- step n from here is the first that halts
pub record HaltsAt (p : Program) (n : ℕ) (s : State) : Type 0 where
  pub halted : (steps p n s).mark ≡ Halted
  pub first : (m : ℕ) → m < n → (steps p m s).mark ≡ Going

-- it halts in so many steps at most
abbrev pub HaltsSoon : Program → ℕ → State → Type 0
HaltsSoon p b s = (n : ℕ) × (n ≤ b) × HaltsAt p n s

pub one_before : (p : Program) (b : ℕ) (s : State) → Ints s → HaltsSoon p b (step p s).after → HaltsSoon p (suc b) s
one_before p b s h (n, le, at) = (suc n, omega arith, record { halted = at.halted; first = begins })
  where
    begins : (m : ℕ) → m < suc n → (steps p m s).mark ≡ Going
    begins zero lt = h.going
    begins (suc m) lt = at.first m (omega arith)

pub sooner : (p : Program) (b c : ℕ) (s : State) → b ≤ c → HaltsSoon p b s → HaltsSoon p c s
sooner p b c s le (n, l, at) = (n, omega arith, at)

pub halt_here : (p : Program) (s : State) → Ints s → slice_get p.statements s.index ≡ Some Halt → HaltsSoon p 1 s
halt_here p s h e = (1, omega arith, record { halted = ap (λ x. x.after.mark) (step_is p s Halt h e); first = none })
  where
    none : (m : ℕ) → m < 1 → (steps p m s).mark ≡ Going
    none zero lt = h.going
    none (suc m) lt = absurd (omega arith)

-- an address above r0
pub from_zero : (r : Values) (o : ℕ) → o < 2 ^ 32 → offset_by (words_in r) 0 (pos o) ≡ o
from_zero r o h = omega arith

-- none of these is stuck
pub compute_runs : (p : Program) (s : State) (a d b : ℕ) (op : Op) → Ints s → why_plain p (Compute a d b op) s.regs ≡ None
compute_runs p s a d b op h = cond-false (any_code s.regs (operands (Compute a d b op))) _ _ (no_code s (operands (Compute a d b op)) h)

pub addi_runs : (p : Program) (s : State) (a d : ℕ) (n : ℤ) → Ints s → why_plain p (Addi a d n) s.regs ≡ None
addi_runs p s a d n h = cond-false (any_code s.regs (operands (Addi a d n))) _ _ (no_code s (operands (Addi a d n)) h)

pub load_runs : (p : Program) (s : State) (d o : ℕ) → o < 2 ^ 32 → is_user p.place o ≡ true → Ints s → why_plain p (Load 0 d (pos o)) s.regs ≡ None
load_runs p s d o short user h =
    cond-false (any_code s.regs (operands (Load 0 d (pos o)))) (Some CodeOperand) (why_load p (offset_by (words_in s.regs) 0 (pos o)))
    (no_code s (operands (Load 0 d (pos o))) h)
    ∙ (ap (why_load p) (from_zero s.regs o short) ∙ ap (λ b. cond (b || (is_some p.input && eqb o p.place.input)) None (Some LoadOutside)) user)

store_bools : (b c u : Bool) (x y : Why) → c ≡ false → (b ≡ true) ⊎ (u ≡ true) → cond b (cond c (Some x) None) (cond u None (Some y)) ≡ None
store_bools true c u x y e f = ap (λ k. cond k (Some x) None) e
store_bools false c true x y e f = refl
store_bools false c false x y e f = absurd (⊎_elim (λ t. no t) (λ t. no t) f)
  where
    no : false ≡ true → ⊥
    no t = cc

pub store_runs : (p : Program) (s : State) (v o : ℕ) → o < 2 ^ 32 → (eqb o p.place.console ≡ true) ⊎ (is_user p.place o ≡ true) → Ints s
    → why_plain p (Store 0 v (pos o)) s.regs ≡ None
store_runs p s v o short there h =
    cond-false (any_code s.regs (operands (Store 0 v (pos o)))) (Some CodeOperand) (why_store p (offset_by (words_in s.regs) 0 (pos o)) (value_in s.regs v))
    (no_code s (operands (Store 0 v (pos o))) h)
    ∙ (ap (λ a. why_store p a (value_in s.regs v)) (from_zero s.regs o short)
    ∙ store_bools (eqb o p.place.console) (is_code (value_in s.regs v)) (is_user p.place o) CodeToConsole StoreOutside (h.regs v) there)

-- a run that has halted stays so
halted_stays : (p : Program) (m : ℕ) (s : State) → s.mark ≡ Halted → (steps p m s).mark ≡ Halted
halted_stays p zero s h = h
halted_stays p (suc m) s h = halted_stays p m (step p s).after (ap (λ k. (if_going k (execute p (slice_get p.statements s.index) s) s).after.mark) h ∙ h)

pub stays_halted : (p : Program) (n m : ℕ) (s : State) → n ≤ m → (steps p n s).mark ≡ Halted → (steps p m s).mark ≡ Halted
stays_halted p zero m s le h = halted_stays p m s h
stays_halted p (suc n) zero s le h = absurd (omega arith)
stays_halted p (suc n) (suc m) s le h = stays_halted p n m (step p s).after (omega arith) h
