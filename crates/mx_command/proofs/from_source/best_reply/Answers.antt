use Rattle.std.proofs.Common.{◌≡◌, ℕ, List, Option, Some, None, refl, subst}
use Rattle.mx_isa.specs.declared.board.TheConstants.{DATA_BASE, DATA_END}
use Rattle.mx_lines.specs.declared.Fault.{Fault}
use Rattle.mx_asm.specs.Texts.{source_of, text_fault}
use Rattle.mx_source.specs.SourceValue.{SourceValue}
use Rattle.mx_squash.specs.Copies.{Site}
use Rattle.mx_layout.specs.Layout.{blocks_in}
use Rattle.cmd_best.specs.Lengths.{lengths_text}
use Rattle.cmd_answer.specs.declared.FileKind.TheVariants.{Source}
use Rattle.cmd_answer.specs.declared.Status.TheVariants.{Done}
use Rattle.cmd_answer.specs.Answer.{prints}
use Rattle.mx_io.specs.Shelves.{Told, Counts}
use Rattle.cmd_answer.specs.Protocol.{Protocol, Answers, Reads, Performed}
use Rattle.cmd_answer.specs.Replies.{reply_answer, OnAnswer}
use Rattle.cmd_source.specs.Protocols.{Layouts, unless_faulty, source_protocol}
use Rattle.cmd_source.proofs.Readings.{source_fails}
use Rattle.mx_command.specs.Protocols.{measured, best_answer}
use Rattle.mx_command.proofs.from_source.best_reply.Goals as goal

-- what follows the source
abbrev measures : Layouts → SourceValue → Protocol
measures layout_of source = Answers (prints Done (lengths_text source (blocks_in (layout_of source))))

measured_is : (source : SourceValue) (sites : List Site) (found : Option (ℕ × Fault))
    → unless_faulty found (Answers (prints Done (lengths_text source (blocks_in sites)))) ≡ Answers (measured source sites found)
measured_is source sites (Some found) = refl
measured_is source sites None = refl

by_text : (layout_of : Layouts) → source_protocol (measures layout_of) ≡ (λ text. Answers (best_answer layout_of text))
by_text layout_of =
    λ i text. measured_is (source_of DATA_BASE text) (layout_of (source_of DATA_BASE text)) (text_fault DATA_BASE DATA_END text) i

pub returns-in_err-source-clause-performed : goal.returns-in_err-source-clause-performed
returns-in_err-source-clause-performed g c = λ layout_of is.
    let told : Told = g.S.Shelf.told c.args.shelf.now in
    let before : Counts = g.S.Shelf.counts c.args.shelf.now in
    let between : Counts = g.S.Shelf.counts c.read_source.new.shelf in
    subst (λ (n : List ℕ → Protocol). OnAnswer c.from_residual.result (Performed told (Reads Source c.args.source.now n) before between)) (by_text layout_of)
    (source_fails told before between c.in_err-source.field-0.0 c.from_residual.result c.from_residual.ensures.1 c.args.source.now (measures layout_of)
    c.in_err-source.ensures.refused)

pub returns-clause-performed : goal.returns-clause-performed
returns-clause-performed g c = λ layout_of is.
    let told : Told = g.S.Shelf.told c.args.shelf.now in
    let before : Counts = g.S.Shelf.counts c.args.shelf.now in
    let between : Counts = g.S.Shelf.counts c.read_source.new.shelf in
    let answer = reply_answer c.in_ok-reply.reply in
    subst (λ (n : List ℕ → Protocol). Performed told (Reads Source c.args.source.now n) before between answer) (by_text layout_of)
    (c.in_ok-source.ensures.given (measures layout_of) between answer (refl, c.in_ok-reply.ensures layout_of is))
