-- The labels that name one place, as text.
use Rattle.std.specs.Prelude.{◌≡◌, ℕ, Bool, List, take, slice_get, Some}
use Rattle.mx_source.specs.declared.statement.Label.{Label}
use Rattle.mx_source.specs.declared.group.Group.{Group}
use Rattle.mx_source.specs.declared.group.Section.{Section}
use Rattle.mx_source.specs.Printed.{Labels, label_lines, first_name}
use Rattle.mx_source.specs.Sections.{names_at}

-- a group has the lines of the labels that name a place, and the length of the first one's name
pub record IsGroup (names : Label → Bool) (labels : Labels) (g : Group) : Type 0 where
  pub lines : g.lines.items ≡ label_lines names labels
  pub first : take g.first g.lines.items ≡ first_name names labels

-- the group of each number is that of its place
abbrev pub AreGroups : Section → Labels → List Group → Type 0
AreGroups section labels groups = (k : ℕ) (g : Group) → slice_get groups k ≡ Some g → IsGroup (names_at section k) labels g
