use Rattle.mx_plans.specs.Files.{lines_said, marks_of}
use Rattle.mx_plans.specs.Says.{IsProposed}
use Rattle.lab_plans.specs.Runs.{report_of}
use Rattle.lab_plans.proofs.Means.{runs, means}
use Rattle.lab_plans.proofs.planned.planned_reply.Goals as goal

pub returns-clause-planned : goal.returns-clause-planned
returns-clause-planned g c =
    let source = c.args.source.now in
    let requests = c.args.requests.now in
    let bytes = c.args.input.now in
    let budget = c.args.budget in
    let lines = lines_said c.args.plans.now in
    let proposes = IsProposed source (marks_of lines) in
    let planned = c.in_ok-planned.planned in
    let linked = planned.linked in
    let t = c.in_ok-planned.ensures.told in
    record {
      linked = linked;
      is = t.is;
      lines = planned.rejections.items;
      told = t.told;
      answers = c.in_ok-behind.ensures _ (report_of source linked requests bytes budget) c.in_ok-run.ensures;
      runs = runs proposes lines source linked t.is requests bytes budget;
      means = means proposes lines source linked t.is requests bytes budget c.link_told.ensures.source c.in_ok-planned.ensures.registers;
    }
