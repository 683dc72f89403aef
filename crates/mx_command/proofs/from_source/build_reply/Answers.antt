use Rattle.std.proofs.Common.{refl, ap, ◌∙◌}
use Rattle.mx_image.specs.Contents.{Contents}
use Rattle.mx_image.specs.Files.{file_bytes}
use Rattle.cmd_answer.specs.Answer.{writes}
use Rattle.cmd_answer.specs.Replies.{reply_answer}
use Rattle.cmd_source.proofs.Readings.{program_fails}
use Rattle.mx_command.specs.Protocols.{build_protocol}
use Rattle.mx_command.proofs.Laid.{contents_linked}
use Rattle.mx_command.proofs.from_source.build_reply.Goals as goal

pub returns-in_err-built-clause-performed : goal.returns-in_err-built-clause-performed
returns-in_err-built-clause-performed g c = λ layout_of is.
    program_fails (g.S.Shelf.told c.args.shelf.now) _ _ _ _ c.from_residual.ensures.1 c.args.source.now
    layout_of is (build_protocol c.args.target.now) c.in_err-built.ensures.refused

pub returns-clause-performed : goal.returns-clause-performed
returns-clause-performed g c = λ layout_of is.
    let program = c.in_ok-built.built in
    c.in_ok-built.ensures.given layout_of is (build_protocol c.args.target.now) _ (reply_answer c.in_ok-reply.reply) (
      refl,
      c.in_ok-reply.ensures ∙ ap (λ (f : Contents). writes c.args.target.now (file_bytes f))
          (c.image_file-file.ensures.contents ∙ contents_linked layout_of is program.source program.linked c.in_ok-built.ensures.linked),
    )
