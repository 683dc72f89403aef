-- Texts that are translations.
use Rattle.std.specs.Prelude.{◌≡◌, ℕ, ◌^◌, ◌<◌, true, List}
use Rattle.std.specs.List.{list_all}
use Rattle.cc_program.specs.declared.program.Program.{Program}
use Rattle.cc_emit.specs.declared.line.Line.{Line}
use Rattle.cc_emit.specs.declared.line.Routine.{Routine}
use Rattle.cc_emit.specs.declared.output.Output.{Output}
use Rattle.cc_emit.specs.Routines.{Adds, routines_text}
use Rattle.cc_emit.specs.Sources.{source_text}
use Rattle.cc_fits.specs.Fits.{line_fits, data_fits}

-- the lines of an output are lines that fit, and after them those of the routines that are called
pub record HasLines (p : Program) (out : Output) : Type 0 where
  pub lines : List Line
  pub called : List Routine
  pub fit : list_all (line_fits p) lines ≡ true
  pub added : Adds lines out.lines.items (routines_text called)

-- the text is the source of a program and an output, whose data fit. Those of the program end before the byte `behind`
pub record IsPrinted (p : Program) (out : Output) (behind : ℕ) (text : List ℕ) : Type 0 where
  pub end : ℕ
  pub source : text ≡ source_text p out behind end
  pub fit : data_fits p out ≡ true
  pub last : end < 2 ^ 32

-- the text is the source of some program and some output, whose lines and data fit
pub record IsTranslation (text : List ℕ) : Type 0 where
  pub program : Program
  pub out : Output
  pub behind : ℕ
  pub lines : HasLines program out
  pub printed : IsPrinted program out behind text
