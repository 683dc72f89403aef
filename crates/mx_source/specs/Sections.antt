-- The places of a section, counted from its first.
use Rattle.std.specs.Prelude.{ℕ, ◌+◌, ◌==◌, Bool, false, Option, Some, None}
use Rattle.mx_isa.specs.declared.board.TheConstants.{DATA_BASE}
use Rattle.mx_source.specs.declared.statement.Label.{Label}
use Rattle.mx_source.specs.declared.group.Section.{Section}
use Rattle.mx_source.specs.declared.group.Section.TheVariants.{Code, Data}
use Rattle.mx_source.specs.Labels.{names_index, names_address}

-- the label names the place of this number
abbrev pub names_at : Section → ℕ → Label → Bool
names_at Code k = names_index k
names_at Data k = names_address (DATA_BASE + k)

abbrev pub is_place : Option ℕ → ℕ → Bool
is_place None k = false
is_place (Some j) k = j == k
