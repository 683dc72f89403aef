use Rattle.mx_link.specs.Origins.{from_nowhere}
use Rattle.mx_plans.specs.Files.{marks_of_lines}
use Rattle.mx_plans.specs.Says.{IsProposed}
use Rattle.mx_plans.proofs.Laid.{linked_from}
use Rattle.mx_plans.proofs.linking.link_planned_plain.Goals as goal

pub returns-clause-linked : goal.returns-clause-linked
returns-clause-linked c =
    let source = c.args.source.now in
    linked_from (IsProposed source (marks_of_lines c.args.lines.now)) from_nowhere source c.args.place c.in_ok-layout.layout c.in_ok-linked.linked
    c.in_ok-layout.ensures.laid c.in_ok-layout.ensures.kept c.in_ok-linked.ensures.linked
