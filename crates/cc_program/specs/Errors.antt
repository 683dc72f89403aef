-- Why texts are not read.
use Rattle.std.specs.Prelude.{ℕ, None}
use Rattle.cc_lines.specs.declared.refusal.LineError.{LineError}
use Rattle.cc_lines.specs.declared.refusal.LineError.TheVariants.{Refused, Memory as LineMemory}
use Rattle.cc_program.specs.declared.error.ReadError.{ReadError}
use Rattle.cc_program.specs.declared.error.ReadError.TheVariants.{Fault, Memory}

-- a statement of a line of a text is refused, or memory ran out
abbrev pub error_at : ℕ → ℕ → ℕ → LineError → ReadError
error_at unit line statement (Refused refusal) =
    Fault (record { unit = unit; line = line; statement = statement; refusal = refusal; symbol = None })
error_at unit line statement LineMemory = Memory
