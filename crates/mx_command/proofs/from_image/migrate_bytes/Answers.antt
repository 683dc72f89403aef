use Rattle.std.proofs.Common.{◌≡◌, IfOk, sym, ap, ◌∙◌, subst}
use Rattle.mx_image.specs.Contents.{Contents}
use Rattle.mx_image.specs.Files.{file_bytes}
use Rattle.cmd_answer.specs.Answer.{Answer, writes}
use Rattle.cmd_answer.specs.Replies.{reply_answer}
use Rattle.mx_command.specs.Protocols.{migrated}
use Rattle.mx_command.proofs.from_image.migrate_bytes.Goals as goal

pub returns-in-Ok : goal.returns-in-Ok
returns-in-Ok c =
    let target = c.args.target.now in
    let bytes = c.args.bytes.now in
    subst (λ (a : Answer). IfOk c.written_reply.result (λ r. reply_answer r ≡ a))
    (ap (λ (f : Contents). writes target (file_bytes f)) c.in-Ok.ensures.answer.1 ∙ sym (ap (migrated target bytes) c.in-Ok.ensures.answer.0))
    c.written_reply.ensures
