use Rattle.std.proofs.Common.{refl, ap, ◌∙◌}
use Rattle.cmd_answer.specs.declared.Status.TheVariants.{Done}
use Rattle.cmd_answer.specs.Answer.{prints}
use Rattle.cmd_source.proofs.Readings.{program_fails}
use Rattle.mx_command.specs.Protocols.{list_protocol}
use Rattle.mx_command.proofs.Laid.{listing_linked}
use Rattle.mx_command.proofs.from_source.list_reply.Goals as goal

pub returns-in_err-listed-clause-performed : goal.returns-in_err-listed-clause-performed
returns-in_err-listed-clause-performed g c = λ layout_of is.
    program_fails (g.S.Shelf.told c.args.shelf.now) _ _ _ _ c.from_residual.ensures.1 c.args.source.now
    layout_of is list_protocol c.in_err-listed.ensures.refused

pub returns-clause-performed : goal.returns-clause-performed
returns-clause-performed g c = λ layout_of is.
    let program = c.in_ok-listed.listed in
    c.in_ok-listed.ensures.given layout_of is list_protocol _ (prints Done c.in_ok-output.output.items)
    (refl, ap (prints Done) (c.in_ok-output.ensures ∙ listing_linked layout_of is program.source program.linked c.in_ok-listed.ensures.linked))
