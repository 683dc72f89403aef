use Rattle.std.proofs.Common.{[], subst, sym}
use Rattle.cmd_line.specs.Command.{texts}
use Rattle.mx_io.specs.Shelves.{Told, Counts}
use Rattle.cmd_answer.specs.Answer.{Answer}
use Rattle.cmd_answer.specs.Protocol.{Protocol, Performed}
use Rattle.cmd_answer.proofs.Replies.{reply_fails}
use Rattle.mx_command.specs.Protocols.{modules_protocol}
use Rattle.mx_command.proofs.join.join_reply.Goals as goal

pub returns-in_err-joiner-clause-performed : goal.returns-in_err-joiner-clause-performed
returns-in_err-joiner-clause-performed g c =
    let told : Told = g.S.Shelf.told c.args.shelf.now in
    let before : Counts = g.S.Shelf.counts c.args.shelf.now in
    let after : Counts = g.S.Shelf.counts c.read_modules.new.shelf in
    let all : Protocol = modules_protocol (texts c.args.names.now) [] in
    reply_fails c.from_residual.result c.in_err-joiner.field-0.0 (Performed told all before after) (Performed told all before after)
    c.from_residual.ensures.1 c.in_err-joiner.ensures.refused (λ answer performed. performed)

pub returns-clause-performed : goal.returns-clause-performed
returns-clause-performed g c =
    let told : Told = g.S.Shelf.told c.args.shelf.now in
    let before : Counts = g.S.Shelf.counts c.args.shelf.now in
    let after : Counts = g.S.Shelf.counts c.read_modules.new.shelf in
    subst (λ (a : Answer). Performed told (modules_protocol (texts c.args.names.now) []) before after a) (sym c.in_ok-reply.ensures)
    c.in_ok-joiner.ensures.given
