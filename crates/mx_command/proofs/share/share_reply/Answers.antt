use Rattle.std.proofs.Common.{ℕ, List, Option, refl, option_map}
use Rattle.mx_source.specs.SourceValue.{SourceValue}
use Rattle.cmd_answer.specs.declared.FileKind.TheVariants.{First, Second}
use Rattle.cmd_answer.specs.Protocol.{Protocol, Reads}
use Rattle.cmd_answer.proofs.Replies.{reply_goes}
use Rattle.cmd_source.specs.Protocols.{Layouts}
use Rattle.mx_tasks.specs.Places.{lower, upper}
use Rattle.mx_command.specs.Protocols.{assembled_protocol, pair_protocol}
use Rattle.mx_command.proofs.Readings.{one_fails}
use Rattle.mx_command.proofs.share.share_reply.Goals as goal

-- what follows the first source
abbrev with_second : Layouts → List ℕ → Option (List ℕ) → ℕ → SourceValue → Protocol
with_second layout_of second interrupts budget one = Reads Second second (assembled_protocol 2 upper (pair_protocol layout_of interrupts budget one))

pub returns-in_err-source-clause-performed : goal.returns-in_err-source-clause-performed
returns-in_err-source-clause-performed g c = λ layout_of is.
    one_fails (g.S.Shelf.told c.args.shelf.now) _ _ _ _ c.from_residual.ensures.1 First c.args.first.now 1 lower
    (with_second layout_of c.args.second.now (option_map (λ s. s.now) c.args.interrupts) c.args.budget) c.in_err-source.ensures.refused

pub returns-clause-performed : goal.returns-clause-performed
returns-clause-performed g c = λ layout_of is.
    let next : SourceValue → Protocol = with_second layout_of c.args.second.now (option_map (λ s. s.now) c.args.interrupts) c.args.budget in
    reply_goes _ _ (Reads First c.args.first.now (assembled_protocol 1 lower next)) (next c.in_ok-source.source) (next c.in_ok-source.source) _ _ _ _
    c.in_ok-source.ensures.told_stays refl (c.in_ok-source.ensures.given next _) (c.second_reply.ensures.performed layout_of is)
