use Rattle.std.proofs.Common.{ℕ, List, option_map, refl, ap, ◌∙◌}
use Rattle.mx_isa.specs.Board.{board}
use Rattle.cmd_answer.specs.Protocol.{Protocol, Answers}
use Rattle.cmd_answer.specs.Replies.{reply_answer}
use Rattle.cmd_meaning.specs.Told.{meaning_answer}
use Rattle.mx_command.proofs.Readings.{input_fails}
use Rattle.mx_command.proofs.from_source.source_reply.Goals as goal

pub returns-in_err-bytes-clause-performed : goal.returns-in_err-bytes-clause-performed
returns-in_err-bytes-clause-performed g c =
    let next : List ℕ → Protocol = (λ bytes. Answers (meaning_answer c.args.source.now board bytes c.args.steps)) in
    input_fails _ _ _ _ _ c.from_residual.ensures.1 (option_map (λ s. s.now) c.args.input) next c.in_err-bytes.ensures.refused

pub returns-clause-performed : goal.returns-clause-performed
returns-clause-performed g c =
    let next : List ℕ → Protocol = (λ bytes. Answers (meaning_answer c.args.source.now board bytes c.args.steps)) in
    c.in_ok-bytes.ensures.given next (g.S.Shelf.counts c.read_input.new.shelf) (reply_answer c.in_ok-reply.reply)
    (refl, c.in_ok-reply.ensures ∙ ap (λ bytes. meaning_answer c.args.source.now board bytes c.args.steps) c.as_slice.ensures.value)
