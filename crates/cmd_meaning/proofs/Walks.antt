-- Steps of a run, and a run that has ended.
use Rattle.std.proofs.Common.{◌≡◌, ◌≢◌, ℕ, zero, suc, ◌+◌, ◌-◌, ◌<◌, Bool, true, false, cond, ◌++◌, option_to_list, append-nil, Option, Some, None, refl, ap, sym, ◌∙◌, arith}
use Rattle.std.specs.Prelude.{slice_get}
use Rattle.mx_source.specs.declared.Value.{Value}
use Rattle.mx_source.specs.declared.Value.TheVariants.{Int, Code}
use Rattle.mx_source.specs.declared.Statement.{Statement}
use Rattle.mx_source.specs.declared.Statement.TheVariants as statement
use Rattle.mx_source.specs.declared.Why.{Why}
use Rattle.mx_source.specs.Meaning.{Program, State, Mark, Going, Halted, Stuck, Step, silent, unless_stuck, jumps, why_plain, done, execute, if_going, step, Run, run_step, run_for}
use Rattle.mx_seq.specs.declared.Stepped.{Stepped}
use Rattle.mx_seq.specs.declared.Stepped.TheVariants as stepped
use Rattle.mx_seq.specs.Answers.{answer_by}
use Rattle.cmd_meaning.specs.Told.{went, steps_in}

byte_in : Stepped → Option ℕ
byte_in (stepped.Went byte) = byte
byte_in _ = None

-- what an answer says of the step
pub went_on : (m : Mark) (byte b : Option ℕ) → stepped.Went b ≡ answer_by m byte → (m ≡ Going) × (b ≡ byte)
unfolding byte_in
went_on Going byte b e = (refl, ap byte_in e)
went_on Halted byte b e = absurd (cc)
went_on (Stuck why) byte b e = absurd (cc)

pub has_halted : (m : Mark) (byte : Option ℕ) → stepped.Halted ≡ answer_by m byte → m ≡ Halted
has_halted Going byte e = absurd (cc)
has_halted Halted byte e = refl
has_halted (Stuck why) byte e = absurd (cc)

pub is_stuck_by : (m : Mark) (byte : Option ℕ) (why : Why) → stepped.Stuck why ≡ answer_by m byte → m ≡ Stuck why
is_stuck_by Going byte why e = absurd (cc)
is_stuck_by Halted byte why e = absurd (cc)
is_stuck_by (Stuck other) byte why e = cc

-- a step that ends a run sends nothing
unless_silent : (w : Option Why) (d : Step) (s : State) → d.after.mark ≡ Going → (unless_stuck w d s).after.mark ≢ Going → (unless_stuck w d s).byte ≡ None
unless_silent None d s going ended = absurd (ended going)
unless_silent (Some why) d s going ended = refl

silent_either : (b : Bool) (x y : State) → (cond b (silent x) (silent y)).byte ≡ None
silent_either true x y = refl
silent_either false x y = refl

silent_jump : (v : Value) (dest : ℕ) (s : State) → (jumps v dest s).byte ≡ None
silent_jump (Int word) dest s = refl
silent_jump (Code target) dest s = refl

silent_end : (p : Program) (st : Option Statement) (s : State) → s.mark ≡ Going → (execute p st s).after.mark ≢ Going → (execute p st s).byte ≡ None
silent_end p None s going ended = refl
silent_end p (Some (statement.Plain i)) s going ended = unless_silent (why_plain p i s.regs) (done p i s) s going ended
silent_end p (Some (statement.LaCode dest target)) s going ended = refl
silent_end p (Some (statement.Branch a b condition target)) s going ended = silent_either _ _ _
silent_end p (Some (statement.Call dest target)) s going ended = refl
silent_end p (Some (statement.CallReg a dest)) s going ended = silent_jump _ dest s
silent_end p (Some (statement.JumpReg a)) s going ended = silent_jump _ 0 s
silent_end p (Some statement.Halt) s going ended = refl

going_step : (p : Program) (s : State) → s.mark ≡ Going → step p s ≡ execute p (slice_get p.statements s.index) s
going_step p s going = ap (λ m. if_going m (execute p (slice_get p.statements s.index) s) s) going

pub ends_silently : (p : Program) (s : State) → s.mark ≡ Going → (step p s).after.mark ≢ Going → (step p s).byte ≡ None
ends_silently p s going ended =
    let e = going_step p s going in
    ap (λ (x : Step). x.byte) e ∙ silent_end p (slice_get p.statements s.index) s going (λ g. ended (ap (λ (x : Step). x.after.mark) e ∙ g))

-- a run that has ended stays as it is
stays_step : (m : Mark) (x : Step) (s : State) → m ≢ Going → if_going m x s ≡ silent s
stays_step Going x s ended = absurd (ended refl)
stays_step Halted x s ended = refl
stays_step (Stuck why) x s ended = refl

step_still : (p : Program) (r : Run) → r.state.mark ≢ Going → run_step p r ≡ r
step_still p r ended =
    ap (λ (x : Step). record { state = x.after; console = r.console ++ option_to_list x.byte })
    (stays_step r.state.mark (execute p (slice_get p.statements r.state.index) r.state) r.state ended)
    ∙ ap (λ c. record { state = r.state; console = c }) (append-nil r.console)

pub run_still : (p : Program) (n : ℕ) (r : Run) → r.state.mark ≢ Going → run_for p n r ≡ r
run_still p zero r ended = refl
run_still p (suc n) r ended = ap (run_for p n) (step_still p r ended) ∙ run_still p n r ended

went_still : (m after : Mark) → m ≢ Going → went m after ≡ 0
went_still Going after ended = absurd (ended refl)
went_still Halted after ended = refl
went_still (Stuck why) after ended = refl

pub steps_still : (p : Program) (n : ℕ) (r : Run) → r.state.mark ≢ Going → steps_in p n r ≡ 0
steps_still p zero r ended = refl
steps_still p (suc n) r ended =
    let first : went r.state.mark (run_step p r).state.mark ≡ 0 = went_still r.state.mark (run_step p r).state.mark ended in
    let rest : steps_in p n (run_step p r) ≡ 0 = ap (steps_in p n) (step_still p r ended) ∙ steps_still p n r ended in
    rw (first, rest) refl

-- a step of the next n + 1
pub next_steps : (p : Program) (n : ℕ) (r : Run) → steps_in p (suc n) r ≡ went r.state.mark (run_step p r).state.mark + steps_in p n (run_step p r)
next_steps p n r = refl

-- once a run that goes on has taken a step, what is left of those that it may take, and how many of them count
pub record Left (p : Program) (to n : ℕ) (now new : Run) : Type 0 where
  pub run : run_for p (to - (n + 1)) new ≡ run_for p (to - n) now
  pub steps : steps_in p (to - n) now ≡ went Going new.state.mark + steps_in p (to - (n + 1)) new

pub left_after :
    (p q : Program) (to n : ℕ) (now new : Run) → q ≡ p → new ≡ run_step q now → n < to → now.state.mark ≡ Going → Left p to n now new
left_after p q to n now new same stepped lt going =
    let took : new ≡ run_step p now = stepped ∙ ap (λ (x : Program). run_step x now) same in
    let left : to - n ≡ suc (to - (n + 1)) = omega (arith, lt) in
    record {
      run = ap (run_for p (to - (n + 1))) took ∙ ap (λ k. run_for p k now) (sym left);
      steps = ap (λ k. steps_in p k now) left
          ∙ next_steps p (to - (n + 1)) now
          ∙ ap (λ m. went m (run_step p now).state.mark + steps_in p (to - (n + 1)) (run_step p now)) going
          ∙ ap (λ (r : Run). went Going r.state.mark + steps_in p (to - (n + 1)) r) (sym took);
    }
