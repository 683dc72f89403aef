use Rattle.std.proofs.Common.{ℕ, List, refl, ap, ◌∙◌}
use Rattle.cmd_answer.specs.declared.FileKind.TheVariants.{Image}
use Rattle.cmd_answer.specs.Protocol.{Answers}
use Rattle.cmd_answer.specs.Replies.{reply_answer}
use Rattle.mx_command.specs.Protocols.{migrate_answer}
use Rattle.cmd_source.proofs.Readings.{file_fails}
use Rattle.mx_command.proofs.from_image.migrate_reply.Goals as goal

pub returns-in_err-bytes-clause-performed : goal.returns-in_err-bytes-clause-performed
returns-in_err-bytes-clause-performed g c =
    file_fails (g.S.Shelf.told c.args.shelf.now) _ _ _ _ c.from_residual.ensures.1
    Image c.args.image.now (λ bytes. Answers (migrate_answer c.args.target.now bytes)) c.in_err-bytes.ensures.refused

pub returns-clause-performed : goal.returns-clause-performed
returns-clause-performed g c =
    c.in_ok-bytes.ensures.given (λ bytes. Answers (migrate_answer c.args.target.now bytes)) _ (reply_answer c.in_ok-reply.reply)
    (refl, c.in_ok-reply.ensures ∙ ap (λ (bytes : List ℕ). migrate_answer c.args.target.now bytes) c.as_slice.ensures.value)
