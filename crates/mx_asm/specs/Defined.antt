-- What a line adds to the definitions before it.
use Rattle.std.specs.Prelude.{◌≡◌, ℕ, ◌+◌, ◌≤◌, List}
use Rattle.mx_asm.specs.declared.definitions.Definitions.{Definitions}
use Rattle.mx_lines.specs.Words.{Word}
use Rattle.mx_lines.specs.declared.labels.TheConstants.{PAST_END}
use Rattle.mx_asm.specs.Positions.{after, with_labels}
use Rattle.mx_asm.specs.Faults.{repeats, earlier_line}

-- definitions with those of a line of these words
pub record Defines (old new : Definitions) (number : ℕ) (words : List Word) : Type 0 where
  pub labels : new.labels ≡ with_labels old.last old.labels words
  pub repeated : new.repeated ≡ earlier_line old.repeated (repeats old.last old.labels words) number
  pub last : new.last ≡ after old.last words
  pub index : new.last.index ≤ old.last.index + 1
  pub near : new.last.address ≤ PAST_END
