use Rattle.std.proofs.Common.{◌≡◌, ◌≢◌, Bool, false, cond, not, ◌&&◌, refl, sym, ◌∙◌, subst}
use Rattle.mx_turn.specs.Counted.{after_turn}
use Rattle.mx_turn.specs.Cycle.{is_taken, decision, turned}
use Rattle.mx_pipe.specs.declared.memory.Signal.{Signal}
use Rattle.mx_pipe.specs.declared.memory.Signal.TheVariants.{Nothing, Byte, Halt}
use Rattle.mx_pipe.specs.Made.{halts}
use Rattle.mx_pipe.specs.Kept.{Holds, has_missed}
use Rattle.mx_pipe.proofs.Decides.{leads_anew}
use Rattle.mx_pipe.proofs.pipe.Pipe.end_apart.Goals as goal

no_halt : (s : Signal) → s ≢ Halt → halts s ≡ false
no_halt Nothing other = refl
no_halt (Byte byte) other = refl
no_halt Halt other = absurd (other refl)

pub returns-in_default-clause-taken : goal.returns-in_default-clause-taken
returns-in_default-clause-taken g c = λ code m h on.
    let off : false ≡ m.halted = sym (no_halt c.args.signal c.in_default.not-Halt) ∙ on in
    c.end.ensures.taken code m h ∙ (λ k. not (off k) && is_taken m)

pub returns-in_default-clause-state : goal.returns-in_default-clause-state
returns-in_default-clause-state g c = λ code m h on leads.
    let off : false ≡ m.halted = sym (no_halt c.args.signal c.in_default.not-Halt) ∙ on in
    subst (λ (b : Bool). Holds code c.end.new.self (cond b m (turned code m))) off
    (c.end.ensures.state code m h (leads_anew code c.args.self.now m h c.args.target leads c.course_at-course.result c.course_at-course.ensures.course))

pub returns-in_default-clause-counts : goal.returns-in_default-clause-counts
returns-in_default-clause-counts g c = λ code m h on leads.
    let off : false ≡ m.halted = sym (no_halt c.args.signal c.in_default.not-Halt) ∙ on in
    let before = c.args.self.now in
    c.end.ensures.counts code m h (leads_anew code before m h c.args.target leads c.course_at-course.result c.course_at-course.ensures.course)
    ∙ (λ k. after_turn (has_missed before.wait) (not (off k) && (not (is_taken m) && (decision code m).cancels)) (not (off k) && is_taken m) before.counts)
