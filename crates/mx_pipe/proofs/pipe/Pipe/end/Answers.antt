use Rattle.std.proofs.Common.{◌≡◌, Bool, true, false, ◌&&◌, cond, refl, sym, ◌∙◌, subst}
use Rattle.std.specs.Prelude.{is_some}
use Rattle.mx_delay.specs.Delay.{Code}
use Rattle.mx_turn.specs.Cycle.{MachineState, is_taken, entered, decided}
use Rattle.mx_pipe.specs.Kept.{Holds}
use Rattle.mx_pipe.proofs.pipe.Pipe.end.Goals as goal
use Rattle.mx_pipe.proofs.pipe.Pipe.end.Goals.{After-decide, then-self+else-may_enter, else-self}
use Rattle.mx_pipe.proofs.pipe.Pipe.end.Given as given

-- without a request none is taken
no_request : (on holds : Bool) → (on && (false && holds)) ≡ false
no_request true holds = refl
no_request false holds = refl

not_taken : (g : given.Over) (c : After-decide g) (code : Code) (m : MachineState) → Holds code c.args.self.now m → is_taken m ≡ false
not_taken g c code m h = elim c.if-self.branch [
  | then-self+else-may_enter w ↦ sym (w.may_enter.ensures code m h w.if-self.true) ∙ w.if-may_enter.false
  | else-self w ↦
      (λ k. m.psw.current.interrupts && ((sym h.rest.asked ∙ w.if-self.false) k && is_some m.alu))
      ∙ no_request m.psw.current.interrupts (is_some m.alu)
]

pub returns-clause-state : goal.returns-clause-state
returns-clause-state g c = λ code m h leads.
    subst (λ b. Holds code c.decide.new.self (cond b (entered m) (decided code m))) (sym (not_taken g c code m h)) (c.decide.ensures.state code m h leads)
