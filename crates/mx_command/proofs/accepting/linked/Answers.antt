use Rattle.std.proofs.Common.{Result, Ok, Err, IfOk, subst}
use Rattle.mx_isa.specs.Board.{board}
use Rattle.mx_source.specs.SourceValue.{SourceValue}
use Rattle.mx_reorg.specs.Greedy.{IsGreedy}
use Rattle.mx_link.specs.declared.Linked.{Linked}
use Rattle.mx_link.specs.Origins.{from_target}
use Rattle.mx_link.specs.Linked.{IsLinked}
use Rattle.cmd_answer.specs.declared.Failure.{Failure}
use Rattle.mx_command.proofs.accepting.linked.Goals as goal

known : (r : Result Linked Failure) (P : Type 0) → P → IfOk r (λ _. P)
known (Ok linked) P holds = holds
known (Err failure) P holds = tt

pub returns-clause-faultless : goal.returns-clause-faultless
returns-clause-faultless c = known c.linked_source.result _ c.in_ok-source.ensures.source.0

pub returns-clause-linked : goal.returns-clause-linked
returns-clause-linked c =
    subst (λ (source : SourceValue). IfOk c.linked_source.result (IsLinked IsGreedy from_target source board))
    c.in_ok-source.ensures.source.1 c.linked_source.ensures.linked
