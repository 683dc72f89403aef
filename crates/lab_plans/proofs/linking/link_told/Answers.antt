use Rattle.mx_plans.specs.Files.{lines_said, marks_of}
use Rattle.mx_plans.specs.Says.{IsProposed}
use Rattle.lab_plans.proofs.Laid.{proposals_count, linked_told}
use Rattle.lab_plans.proofs.linking.link_told.Goals as goal

pub told-requires-clause-count : goal.told-requires-clause-count
told-requires-clause-count c =
    let source = c.args.source.now in
    proposals_count (IsProposed source (marks_of (lines_said c.args.plans.now))) source c.in_ok-layout.layout c.in_ok-layout.ensures.laid
    c.in_ok-layout.ensures.kept

pub returns-clause-told : goal.returns-clause-told
returns-clause-told c =
    linked_told c.args.source.now (lines_said c.args.plans.now) c.in_ok-layout.layout _
    c.in_ok-layout.ensures.laid c.in_ok-layout.ensures.kept c.in_ok-linked.ensures.linked c.in_ok-rejections.ensures
