-- The labels of a text as the assembler keeps them.
use Rattle.std.specs.Prelude.{ℕ, ◌≤◌, List}
use Rattle.mx_source.specs.declared.statement.Label.{Label}
use Rattle.mx_source.specs.declared.statement.Label.TheVariants.{Code, Data}
use Rattle.mx_source.specs.Names.{named_labels}
use Rattle.mx_lines.specs.declared.labels.Labels.TheInside.{Inside}
use Rattle.mx_lines.specs.declared.labels.TheConstants.{PAST_END}

-- the labels that are kept, in order
abbrev pub labels_view : Inside → List (List ℕ × Label)
labels_view inside = named_labels inside.table.entries

-- no address above the one that stands for all past the end
abbrev pub IsNear : Label → Type 0
IsNear (Code i) = Unit {0}
IsNear (Data a) = a ≤ PAST_END
