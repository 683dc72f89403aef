use Rattle.std.proofs.Common.{ℕ, List, Option, option_map, refl}
use Rattle.mx_source.specs.SourceValue.{SourceValue}
use Rattle.mx_isa.specs.Board.{board}
use Rattle.cmd_answer.specs.declared.FileKind.TheVariants.{Source}
use Rattle.cmd_answer.specs.Protocol.{Protocol, Answers, Reads}
use Rattle.cmd_answer.proofs.Replies.{reply_goes}
use Rattle.cmd_meaning.specs.Told.{meaning_answer}
use Rattle.cmd_simulate.specs.Machines.{input_protocol}
use Rattle.cmd_source.specs.Protocols.{source_protocol}
use Rattle.cmd_source.proofs.Readings.{source_fails}
use Rattle.mx_command.proofs.from_source.told_reply.Goals as goal

-- what follows the source
abbrev told_from : ℕ → Option (List ℕ) → SourceValue → Protocol
told_from steps input source = input_protocol input (λ bytes. Answers (meaning_answer source board bytes steps))

pub returns-in_err-source-clause-performed : goal.returns-in_err-source-clause-performed
returns-in_err-source-clause-performed g c =
    source_fails (g.S.Shelf.told c.args.shelf.now) _ _ _ _ c.from_residual.ensures.1
    c.args.source.now (told_from c.args.steps (option_map (λ s. s.now) c.args.input)) c.in_err-source.ensures.refused

pub returns-clause-performed : goal.returns-clause-performed
returns-clause-performed g c =
    let next : SourceValue → Protocol = told_from c.args.steps (option_map (λ s. s.now) c.args.input) in
    let source = c.in_ok-source.source in
    reply_goes _ _ (Reads Source c.args.source.now (source_protocol next)) (next source) (next source) _ _ _ _ c.in_ok-source.ensures.told_stays refl
    (c.in_ok-source.ensures.given next _) c.source_reply.ensures.performed
