-- The lines of routines as texts.
use Rattle.std.specs.Prelude.{ℕ, cond, List, [], replicate, Option, Some, None}
use Rattle.std.specs.List.{flat_map}
use Rattle.std.specs.Borrow.{Bor}
use Rattle.cc_emit.specs.declared.line.Line.{Line}
use Rattle.cc_emit.specs.declared.line.Line.TheVariants.{Written}
use Rattle.cc_emit.specs.declared.line.Routine.{Routine}
use Rattle.cc_emit.specs.Needs.{has_routine}
use Rattle.cc_emit.specs.Routines.{assembly_of, shifts_lines, all_routines}

-- a text, wherever it is
abbrev pub lent : List ℕ → Bor (List ℕ)
lent text = record { ref_ptr = (0, 0); now = text }

-- the lines of assembly: each so often as its number says
abbrev pub assembly_lines : List (ℕ × List ℕ) → List Line
assembly_lines rows = flat_map (λ row. replicate row.0 (Written (lent row.1))) rows

abbrev pub lines_by : Routine → Option (List (ℕ × List ℕ)) → List Line
lines_by which (Some rows) = assembly_lines rows
lines_by which None = shifts_lines which 32

-- the lines of a routine that is called
abbrev pub called_lines : List Routine → Routine → List Line
called_lines called which = cond (has_routine which called) (lines_by which (assembly_of which)) []

-- the lines of all routines that are called
abbrev pub routine_lines : List Routine → List Line
routine_lines called = flat_map (called_lines called) all_routines
