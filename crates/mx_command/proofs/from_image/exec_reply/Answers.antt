use Rattle.std.proofs.Common.{ℕ, List, ap}
use Rattle.cmd_answer.specs.declared.FileKind.TheVariants.{Image}
use Rattle.cmd_answer.specs.Protocol.{Protocol, Reads}
use Rattle.cmd_answer.proofs.Replies.{reply_goes}
use Rattle.cmd_options.specs.Options.{seen_files}
use Rattle.mx_command.specs.Protocols.{exec_protocol}
use Rattle.cmd_source.proofs.Readings.{file_fails}
use Rattle.mx_command.proofs.from_image.exec_reply.Goals as goal

pub returns-in_err-bytes-clause-performed : goal.returns-in_err-bytes-clause-performed
returns-in_err-bytes-clause-performed g c =
    file_fails (g.S.Shelf.told c.args.shelf.now) _ _ _ _ c.from_residual.ensures.1
    Image c.args.image.now (exec_protocol (seen_files c.args.files.now) c.args.limits.now) c.in_err-bytes.ensures.refused

pub returns-clause-performed : goal.returns-clause-performed
returns-clause-performed g c =
    let next : List ℕ → Protocol = exec_protocol (seen_files c.args.files.now) c.args.limits.now in
    reply_goes _ _ (Reads Image c.args.image.now next) (next c.in_ok-bytes.bytes.items) (next c.as_slice.result.now) _ _ _ _
    c.in_ok-bytes.ensures.told_stays (ap next c.as_slice.ensures.value) (c.in_ok-bytes.ensures.given next _) c.exec_bytes.ensures.performed
