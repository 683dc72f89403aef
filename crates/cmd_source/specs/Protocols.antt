-- What follows a text that is assembled and linked, in the order in which it is refused.
use Rattle.std.specs.Prelude.{ℕ, List, Option, Some, None}
use Rattle.mx_isa.specs.declared.board.TheConstants.{DATA_BASE, DATA_END}
use Rattle.mx_source.specs.SourceValue.{SourceValue}
use Rattle.mx_squash.specs.Copies.{Site}
use Rattle.mx_layout.specs.Layout.{blocks_in}
use Rattle.mx_layout.specs.Overlong.{Overlong, overlong}
use Rattle.cmd_answer.specs.declared.Status.TheVariants.{Refused}
use Rattle.cmd_answer.specs.Answer.{prints}
use Rattle.cmd_answer.specs.Protocol.{Protocol, Answers}
use Rattle.mx_lines.specs.declared.Fault.{Fault}
use Rattle.mx_asm.specs.Texts.{source_of, text_fault}
use Rattle.mx_isa.specs.Board.{board}
use Rattle.cmd_source.specs.Refusals.{fault_line, overlong_line}

-- a source's text: refused by its first fault, or what follows
abbrev pub unless_faulty : Option (ℕ × Fault) → Protocol → Protocol
unless_faulty (Some found) next = Answers (prints Refused (fault_line found.0 found.1))
unless_faulty None next = next

-- a text, which is assembled: refused by its first fault, or what follows its source
abbrev pub source_protocol : (SourceValue → Protocol) → List ℕ → Protocol
source_protocol next text = unless_faulty (text_fault DATA_BASE DATA_END text) (next (source_of DATA_BASE text))

-- a source: refused by its first branch that does not reach its target, or what follows
abbrev pub unless_overlong : Option Overlong → Protocol → Protocol
unless_overlong (Some found) next = Answers (prints Refused (overlong_line found.line found.from found.to))
unless_overlong None next = next

-- which layout each source has
abbrev pub Layouts : Type 0
Layouts = SourceValue → List Site

-- what follows a source and its layout
abbrev pub AfterLayout : Type 0
AfterLayout = SourceValue → List Site → Protocol

-- a text, which is assembled and linked: refused by its first fault, then by a displacement, or what follows
abbrev pub linked_protocol : Layouts → AfterLayout → List ℕ → Protocol
linked_protocol layout_of next text =
    let source = source_of DATA_BASE text in
    let sites = layout_of source in
    unless_faulty (text_fault DATA_BASE DATA_END text) (unless_overlong (overlong source board (blocks_in sites)) (next source sites))
