use Rattle.std.proofs.Common.{◌≡◌, sym, subst}
use Rattle.mx_delay.specs.Delay.{Code}
use Rattle.mx_turn.specs.Cycle.{MachineState, shifted, committed}
use Rattle.mx_pipe.specs.declared.pipe.Pipe.{Pipe}
use Rattle.mx_pipe.specs.Kept.{code_of_pipe, Holds, Commits}
use Rattle.mx_pipe.proofs.Stands.{same_code}
use Rattle.mx_pipe.proofs.pipe.Pipe.step.Goals as goal
use Rattle.mx_pipe.proofs.pipe.Pipe.step.Goals.{After-show}
use Rattle.mx_pipe.proofs.pipe.Pipe.step.Given as given

module _ (g : given.Over) (c : After-show g) (m : MachineState) (h : Holds (code_of_pipe c.args.self.now) c.args.self.now m) where
  abbrev p : Pipe g.row.C.Denot
  p = c.args.self.now

  abbrev code : Code
  code = code_of_pipe p

  -- once the word in MEM has committed
  abbrev n : MachineState
  n = committed code p.board.input (shifted m)

  same : code_of_pipe c.commit-reached.new.self ≡ code
  same = same_code p c.commit-reached.new.self c.commit-reached.ensures.program

  commits : Commits code c.commit-reached.new.self n
  commits = c.commit-reached.ensures.state code m h

  moved : Holds code c.move_on-target.new.self n
  moved =
      subst (λ x. Holds x c.move_on-target.new.self n) same
      (c.move_on-target.ensures.state n (subst (λ x. Commits x c.commit-reached.new.self n) (sym same) commits))

pub returns-clause-state : goal.returns-clause-state
returns-clause-state g c = λ m h shows.
    c.show.ensures.state (code g c m h) (n g c m h) (moved g c m h)
    (c.move_on-target.ensures.live (code g c m h) (n g c m h) (commits g c m h)) (record { older = shows.older; younger = shows.younger })

pub returns-clause-target : goal.returns-clause-target
returns-clause-target g c = λ m h. c.move_on-target.ensures.target (code g c m h) (n g c m h) (commits g c m h)
