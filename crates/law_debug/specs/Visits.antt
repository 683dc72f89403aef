-- How often the meaning of a source has come to a statement.
use Rattle.std.specs.Prelude.{◌≡◌, ℕ, zero, suc, ◌+◌, Bool, false, cond, eqb, List}
use Rattle.mx_source.specs.SourceValue.{SourceValue}
use Rattle.mx_source.specs.Meaning.{Mark, Going, State, meaning}
use Rattle.mx_isa.specs.Board.{board}

-- how many numbers below a number pass a test
abbrev pub count_below : (ℕ → Bool) → ℕ → ℕ
count_below test zero = 0
count_below test (suc n) = count_below test n + cond (test n) 1 0

-- a run that stands so and is at a statement is going on with this one
abbrev pub comes_to : ℕ → Mark → ℕ → Bool
comes_to i Going index = eqb index i
comes_to i _ index = false

-- after m statements the meaning, with these bytes as its input, goes on with statement i
abbrev pub is_visit : SourceValue → List ℕ → ℕ → ℕ → Bool
is_visit source bytes i m = let s : State = (meaning source board bytes m).state in comes_to i s.mark s.index

-- it does so after m statements, and did so j times before
pub record IsVisit (source : SourceValue) (bytes : List ℕ) (i j m : ℕ) : Type 0 where
  pub going : (meaning source board bytes m).state.mark ≡ Going
  pub index : (meaning source board bytes m).state.index ≡ i
  pub before : count_below (is_visit source bytes i) m ≡ j
