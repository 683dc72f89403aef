-- The place for which sources are generated.
use Rattle.std.specs.Prelude.{◌≡◌, ℕ, ◌≤◌, List, false}
use Rattle.mx_isa.specs.declared.board.TheConstants.{DATA_BASE, DATA_END, CONSOLE}
use Rattle.mx_isa.specs.declared.place.Place.{Place}
use Rattle.mx_source.specs.SourceValue.{SourceValue}
use Rattle.mx_source.specs.Meaning.{HaltsIn, meaning, is_stuck}

-- user data are the words 256 to 65535, and the console is 255
pub record IsBoard (place : Place) : Type 0 where
  pub user_data : place.user_data ≡ DATA_BASE
  pub end : place.end ≡ DATA_END
  pub console : place.console ≡ CONSOLE

-- the meaning halts in so many instructions at most
abbrev pub HaltsWithin : ℕ → SourceValue → Place → List ℕ → Type 0
HaltsWithin most source place input = (n : ℕ) × (n ≤ most) × HaltsIn source place input n

-- the meaning is not stuck after any number of steps
abbrev pub IsNeverStuck : SourceValue → Place → List ℕ → Type 0
IsNeverStuck source place input = (m : ℕ) → is_stuck (meaning source place input m).state.mark ≡ false
