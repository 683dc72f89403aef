-- What a tally keeps while it grows, and when it and a profile are those of a run.
use Rattle.std.specs.Prelude.{◌≡◌, ℕ, ◌≤◌, List, length, slice_index}
use Rattle.mx_turn.specs.Program.{Program}
use Rattle.mx_turn.specs.Run.{run_of}
use Rattle.lab_profile.specs.declared.tally.Tally.{Tally}
use Rattle.lab_profile.specs.declared.tally.Profile.{Profile}
use Rattle.lab_profile.specs.Charges.{places, waiting, fetches_at, cycles_at, executed_at, cancelled_at, squashes_at, penalty_at}

-- each list has an entry a place
pub record HasPlaces (words : ℕ) (t : Tally) : Type 0 where
  pub fetches : length t.fetches.items ≡ places words
  pub cycles : length t.cycles.items ≡ places words
  pub executed : length t.executed.items ≡ places words
  pub cancelled : length t.cancelled.items ≡ places words
  pub squashes : length t.squashes.items ≡ places words
  pub penalty : length t.penalty.items ≡ places words

-- no entry is greater
pub record IsBelow (most : ℕ) (t : Tally) : Type 0 where
  pub fetches : (k : ℕ) → slice_index t.fetches.items k ≤ most
  pub cycles : (k : ℕ) → slice_index t.cycles.items k ≤ most
  pub executed : (k : ℕ) → slice_index t.executed.items k ≤ most
  pub cancelled : (k : ℕ) → slice_index t.cancelled.items k ≤ most
  pub squashes : (k : ℕ) → slice_index t.squashes.items k ≤ most
  pub penalty : (k : ℕ) → slice_index t.penalty.items k ≤ most

-- the entries are those of the first cycles of a program's run
pub record IsTally (p : Program) (requests : List ℕ) (words budget : ℕ) (t : Tally) : Type 0 where
  pub fetches : (k : ℕ) → slice_index t.fetches.items k ≡ fetches_at p requests words budget k
  pub cycles : (k : ℕ) → slice_index t.cycles.items k ≡ cycles_at p requests words budget k
  pub executed : (k : ℕ) → slice_index t.executed.items k ≡ executed_at p requests words budget k
  pub cancelled : (k : ℕ) → slice_index t.cancelled.items k ≡ cancelled_at p requests words budget k
  pub squashes : (k : ℕ) → slice_index t.squashes.items k ≡ squashes_at p requests words budget k
  pub penalty : (k : ℕ) → slice_index t.penalty.items k ≡ penalty_at p requests words budget k

-- the profile is that of a program's run within a budget, charged to the places of a code of so many words
pub record IsProfile (p : Program) (requests : List ℕ) (words budget : ℕ) (r : Profile) : Type 0 where
  pub tally : IsTally p requests words budget r.tally
  pub waiting : r.waiting ≡ waiting p requests words budget
  pub counts : r.counts ≡ (run_of p requests budget).counts
  pub halted : r.halted ≡ (run_of p requests budget).halted
