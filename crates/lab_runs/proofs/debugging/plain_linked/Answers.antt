use Rattle.std.proofs.Common.{List, sym, subst}
use Rattle.mx_isa.specs.Board.{board}
use Rattle.mx_layout.specs.Overlong.{IsRefusal}
use Rattle.mx_link.specs.Origins.{from_nowhere}
use Rattle.mx_link.specs.Linked.{IsLinked}
use Rattle.mx_plans.specs.declared.Mark.{Mark}
use Rattle.mx_plans.specs.Files.{lines_said, marks_of}
use Rattle.mx_plans.specs.Says.{IsProposed}
use Rattle.mx_plans.proofs.Picked.{marks_said}
use Rattle.lab_sources.proofs.TooFar.{too_far}
use Rattle.lab_runs.proofs.debugging.plain_linked.Goals as goal

pub returns-in-Ok-clause-linked : goal.returns-in-Ok-clause-linked
returns-in-Ok-clause-linked c =
    let source = c.args.source.now in
    subst (λ (marks : List (List Mark)). IsLinked (IsProposed source marks) from_nowhere source board c.in-Ok.linked)
    (sym (marks_said c.args.lines.now)) c.in-Ok.ensures.linked

pub returns-in-Err-clause-refused : goal.returns-in-Err-clause-refused
returns-in-Err-clause-refused c =
    let source = c.args.source.now in
    let refusal = subst (λ (marks : List (List Mark)). IsRefusal (IsProposed source marks) source board c.in-Err.error)
    (sym (marks_said c.args.lines.now)) c.in-Err.ensures.refused in
    too_far (IsProposed source (marks_of (lines_said c.args.lines.now))) c.args.name.now source c.in-Err.error c.unlinked.result refusal
    c.unlinked.ensures
