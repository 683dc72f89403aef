use Rattle.std.proofs.Common.{refl}
use Rattle.mx_source.specs.SourceValue.{SourceValue}
use Rattle.cmd_answer.specs.declared.FileKind.TheVariants.{Source}
use Rattle.cmd_answer.specs.Protocol.{Protocol, Reads}
use Rattle.cmd_answer.proofs.Replies.{reply_goes}
use Rattle.cmd_options.specs.Options.{seen_files}
use Rattle.cmd_source.specs.Protocols.{source_protocol}
use Rattle.cmd_source.proofs.Readings.{source_fails}
use Rattle.mx_command.specs.Protocols.{labelled_protocol}
use Rattle.mx_command.proofs.debug.debug_reply.Goals as goal

pub returns-in_err-source-clause-performed : goal.returns-in_err-source-clause-performed
returns-in_err-source-clause-performed g c = λ layout_of is.
    source_fails (g.S.Shelf.told c.args.shelf.now) _ _ _ _ c.from_residual.ensures.1 c.args.source.now
    (labelled_protocol layout_of c.args.label.now (seen_files c.args.files.now) c.args.limits.now) c.in_err-source.ensures.refused

pub returns-clause-performed : goal.returns-clause-performed
returns-clause-performed g c = λ layout_of is.
    let next : SourceValue → Protocol = labelled_protocol layout_of c.args.label.now (seen_files c.args.files.now) c.args.limits.now in
    let source = c.in_ok-source.source in
    reply_goes _ _ (Reads Source c.args.source.now (source_protocol next)) (next source) (next source) _ _ _ _ c.in_ok-source.ensures.told_stays refl
    (c.in_ok-source.ensures.given next _) (c.labelled_reply.ensures.performed layout_of is)
