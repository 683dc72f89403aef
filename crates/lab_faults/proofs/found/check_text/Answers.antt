use Rattle.std.specs.Prelude.{map, take}
use Rattle.std.proofs.Common.{ap, ◌∙◌}
use Rattle.mx_lines.specs.Words.{texts}
use Rattle.lab_faults.specs.Checked.{as_shown}
use Rattle.lab_faults.proofs.Marks.{shown_are}
use Rattle.lab_faults.proofs.found.check_text.Goals as goal

pub returns-in-Ok-shown_of-clause-shown : goal.returns-in-Ok-shown_of-clause-shown
returns-in-Ok-shown_of-clause-shown c =
    let lines = ap texts c.deref.ensures.value ∙ c.in-Ok.ensures.lines in
    let first = c.first_of.ensures ∙ ap (take c.args.at_most) c.deref-2.ensures.value in
    shown_are c.args.at_most c.args.text.now (texts c.deref.result.now) c.in_ok-found.found.items
    c.first_of.result.now (map as_shown c.in-Ok-shown_of.shown.items) c.requires.most lines
    c.in_ok-found.ensures.faults c.in_ok-found.ensures.spans first c.in-Ok-shown_of.ensures
