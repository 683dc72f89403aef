use Rattle.std.proofs.Common.{false, refl, sym, ap, ◌∙◌, subst}
use Rattle.mx_turn.specs.Counted.{after_turn}
use Rattle.mx_turn.specs.Cycle.{decided}
use Rattle.mx_pipe.specs.declared.alu.Course.TheVariants.{To}
use Rattle.mx_pipe.specs.Kept.{Holds, has_missed}
use Rattle.mx_pipe.proofs.Decides.{tells_cancels, decides_so}
use Rattle.mx_pipe.proofs.pipe.Pipe.decide.Goals as goal

pub returns-in-To-clause-state : goal.returns-in-To-clause-state
returns-in-To-clause-state g c = λ code m h leads.
    let p = c.args.self.now in
    subst (λ x. Holds code x (decided code m)) (sym c.go.ensures)
    (decides_so code p m h (To c.in-To.target) (sym c.in-To.is ∙ leads) _ _ c.fetch_of.ensures)

pub returns-in_default-clause-state : goal.returns-in_default-clause-state
returns-in_default-clause-state g c = λ code m h leads.
    let p = c.args.self.now in
    subst (λ x. Holds code x (decided code m)) (sym c.turn_aside.ensures) (decides_so code p m h c.args.course leads _ _ refl)

pub returns-in_default-clause-counts : goal.returns-in_default-clause-counts
returns-in_default-clause-counts g c = λ code m leads.
    (λ k. (c.turn_aside.ensures k).counts)
    ∙ ap (λ b. after_turn (has_missed c.args.self.now.wait) b false c.args.self.now.counts) (tells_cancels code m c.args.course leads)
