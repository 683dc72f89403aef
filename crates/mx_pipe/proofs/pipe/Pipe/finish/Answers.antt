use Rattle.std.proofs.Common.{sym, ap, ◌∙◌, subst}
use Rattle.mx_turn.specs.Counted.{after_turn}
use Rattle.mx_turn.specs.Cycle.{MachineState, showing, squashes, takes}
use Rattle.mx_pipe.specs.Kept.{code_of_pipe, Holds, Commits, has_missed}
use Rattle.mx_pipe.proofs.Lanes.{shown_anew}
use Rattle.mx_pipe.proofs.pipe.Pipe.finish.Goals as goal
use Rattle.mx_pipe.proofs.pipe.Pipe.finish.Goals.{After-end_apart}
use Rattle.mx_pipe.proofs.pipe.Pipe.finish.Given as given

module _ (g : given.Over) (c : After-end_apart g) (m : MachineState) (h : Commits (code_of_pipe c.args.self.now) c.args.self.now m) where
  shows : Holds (code_of_pipe c.args.self.now) c.show_anew.new.self (showing (code_of_pipe c.args.self.now) m)
  shows =
      let code = code_of_pipe c.args.self.now in
      subst (λ x. Holds code x (showing code m)) (sym c.show_anew.ensures)
      (shown_anew code c.move_on-target.new.self m (c.move_on-target.ensures.state m h))

pub returns-clause-state : goal.returns-clause-state
returns-clause-state g c = λ m h on.
    let code = code_of_pipe c.args.self.now in
    c.end_apart.ensures.state code (showing code m) (shows g c m h) (sym on) (c.move_on-target.ensures.target code m h)

pub returns-clause-counts : goal.returns-clause-counts
returns-clause-counts g c = λ m h on.
    let code = code_of_pipe c.args.self.now in
    let r : MachineState = showing code m in
    let missed = ap (λ x. has_missed x.wait) c.show_anew.ensures ∙ ap has_missed c.move_on-target.ensures.wait in
    let counts = ap (λ x. x.counts) c.show_anew.ensures ∙ c.move_on-target.ensures.counts in
    c.end_apart.ensures.counts code r (shows g c m h) (sym on) (c.move_on-target.ensures.target code m h)
    ∙ (λ k. after_turn (missed k) (squashes code r) (takes r) (counts k))
