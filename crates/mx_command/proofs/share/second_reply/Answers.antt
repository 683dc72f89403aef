use Rattle.std.proofs.Common.{refl, option_map}
use Rattle.mx_source.specs.SourceValue.{SourceValue}
use Rattle.cmd_answer.specs.declared.FileKind.TheVariants.{Second}
use Rattle.cmd_answer.specs.Protocol.{Protocol, Reads}
use Rattle.cmd_answer.proofs.Replies.{reply_goes}
use Rattle.mx_tasks.specs.Places.{upper}
use Rattle.mx_command.specs.Protocols.{assembled_protocol, pair_protocol}
use Rattle.mx_command.proofs.Readings.{one_fails}
use Rattle.mx_command.proofs.share.second_reply.Goals as goal

pub returns-in_err-source-clause-performed : goal.returns-in_err-source-clause-performed
returns-in_err-source-clause-performed g c = λ layout_of is.
    one_fails (g.S.Shelf.told c.args.shelf.now) _ _ _ _ c.from_residual.ensures.1 Second c.args.second.now 2 upper
    (pair_protocol layout_of (option_map (λ s. s.now) c.args.interrupts) c.args.budget c.args.first.now) c.in_err-source.ensures.refused

pub returns-clause-performed : goal.returns-clause-performed
returns-clause-performed g c = λ layout_of is.
    let next : SourceValue → Protocol = pair_protocol layout_of (option_map (λ s. s.now) c.args.interrupts) c.args.budget c.args.first.now in
    let source = c.in_ok-source.source in
    reply_goes _ _ (Reads Second c.args.second.now (assembled_protocol 2 upper next)) (next source) (next source) _ _ _ _
    c.in_ok-source.ensures.told_stays refl (c.in_ok-source.ensures.given next _) (c.pair_reply.ensures.performed layout_of is)
