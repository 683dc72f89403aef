use Rattle.std.proofs.Common.{◌≡◌, ap, ◌∙◌}
use Rattle.std.specs.Prelude.{is_some}
use Rattle.cmd_answer.specs.declared.FileKind.TheVariants.{Source}
use Rattle.cmd_answer.specs.Protocol.{Protocol, Reads}
use Rattle.cmd_answer.proofs.Replies.{reply_goes}
use Rattle.cmd_options.specs.Options.{seen_files}
use Rattle.cmd_simulate.specs.Machines.{machine_protocol}
use Rattle.cmd_source.specs.Protocols.{AfterLayout, linked_protocol}
use Rattle.cmd_source.proofs.Readings.{program_fails}
use Rattle.mx_command.specs.Protocols.{run_protocol}
use Rattle.mx_command.proofs.Laid.{run_linked}
use Rattle.mx_command.proofs.from_source.run_reply.Goals as goal

pub returns-in_err-program-clause-performed : goal.returns-in_err-program-clause-performed
returns-in_err-program-clause-performed g c = λ layout_of is.
    program_fails (g.S.Shelf.told c.args.shelf.now) _ _ _ _ c.from_residual.ensures.1 c.args.source.now
    layout_of is (run_protocol (seen_files c.args.files.now) c.args.limits.now) c.in_err-program.ensures.refused

pub returns-clause-performed : goal.returns-clause-performed
returns-clause-performed g c = λ layout_of is.
    let files = seen_files c.args.files.now in
    let limits = c.args.limits.now in
    let program = c.in_ok-program.program in
    let image = program.linked.image in
    let next : AfterLayout = run_protocol files limits in
    let own : Protocol = machine_protocol files limits image.code.items image.user_data.items c.is_some-asks.result in
    let same : own ≡ next program.source (layout_of program.source) =
    ap (machine_protocol files limits image.code.items image.user_data.items) (c.is_some-asks.ensures ∙ ap is_some c.input.ensures)
    ∙ run_linked layout_of is program.source program.linked c.in_ok-program.ensures.linked files limits in
    reply_goes _ _ (Reads Source c.args.source.now (linked_protocol layout_of next)) (next program.source (layout_of program.source)) own _ _ _ _
    c.in_ok-program.ensures.told_stays same (c.in_ok-program.ensures.given layout_of is next _) c.run_image.ensures.performed
