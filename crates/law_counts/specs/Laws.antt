-- Linked code executes the words of a statement as often as its source's meaning is at that statement.
use Rattle.std.specs.Prelude.{◌≡◌, ℕ, ◌+◌, ◌≤◌, true}
use Rattle.mx_source.specs.Meaning.{HaltsIn}
use Rattle.mx_link.specs.Origins.{from_nowhere}
use Rattle.law_link.specs.Runs.{Linking, IsLinking, linked_run}
use Rattle.law_link.specs.Matches.{block_ahead}
use Rattle.law_link.specs.Laws.{IsSafe, IsBlockStart, planned_words}
use Rattle.law_counts.specs.Counts.{statement_executed, visits}

-- the meaning halts in at most j steps, and the first j steps of linked code count as these do
pub record CountsAsMeant (l : Linking) (j : ℕ) : Type 0 where
  pub statements : ℕ
  pub few : statements ≤ j
  pub halts : HaltsIn l.source l.place l.bytes statements
  pub counts : (i : ℕ) → statement_executed l i j ≡ visits l i statements

-- so it is where linked code has halted
abbrev pub LinkedCodeCounts : Type 0
LinkedCodeCounts =
    (l : Linking) (j : ℕ) → IsLinking l → IsSafe l (j + block_ahead) → (linked_run l j).halted ≡ true → CountsAsMeant l j

-- and without copies wherever a block starts
abbrev pub LinkedBlocksCount : Type 0
LinkedBlocksCount =
    (l : Linking) (m : ℕ) → IsLinking l → l.filling ≡ from_nowhere → IsBlockStart l m
    → (i : ℕ) → statement_executed l i (planned_words l m) ≡ visits l i m
