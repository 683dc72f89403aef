use Rattle.std.proofs.Common.{ap, ◌∙◌}
use Rattle.mx_plans.specs.Files.{lines_said}
use Rattle.mx_plans.specs.Copies.{choices_of}
use Rattle.mx_plans.proofs.Laid.{if_planned}
use Rattle.mx_plans.proofs.linking.link_lines.Goals as goal

pub returns-clause-linked : goal.returns-clause-linked
returns-clause-linked c =
    let lines = lines_said c.args.lines.now in
    if_planned lines c.args.source.now c.args.place c.args.layout c.as_slice-2.result.now c.requires
    (c.as_slice-2.ensures.value ∙ c.in_ok-choices.ensures ∙ ap (λ bs. choices_of bs lines) c.as_slice.ensures.value)
    c.link_laid.result c.link_laid.ensures.linked
