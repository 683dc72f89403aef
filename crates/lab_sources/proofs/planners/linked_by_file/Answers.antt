-- What is told of the plans that are rejected is said of the lines as a list.
use Rattle.std.proofs.Common.{List, subst}
use Rattle.mx_plans.specs.declared.PlanLine.{PlanLine}
use Rattle.mx_plans.specs.Files.{lines_said}
use Rattle.lab_plans.specs.Linking.{IsLinkedTold}
use Rattle.lab_sources.proofs.planners.linked_by_file.Goals as goal

pub returns-in-Ok-clause-linked : goal.returns-in-Ok-clause-linked
returns-in-Ok-clause-linked c =
    let t = subst (λ (lines : List PlanLine). IsLinkedTold c.args.program.source (lines_said lines) c.in-Ok.told) c.as_slice.ensures.value
    c.in-Ok.ensures.told in
    record { is = t.is; told = t.told }
