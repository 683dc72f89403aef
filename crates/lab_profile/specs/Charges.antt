-- To which place of the code each cycle, fetch and squash of a run is charged: it is what the machine counts in a cycle, by the stages that the cycle shows.
use Rattle.std.specs.Prelude.{◌≡◌, ℕ, zero, suc, ◌+◌, ◌-◌, Bool, true, false, cond, leb, ltb, eqb, ◌&&◌, List}
use Rattle.mx_turn.specs.declared.latches.Stage.{Stage}
use Rattle.mx_turn.specs.declared.latches.Stage.TheVariants.{Empty, Live, Squashed}
use Rattle.mx_turn.specs.Counted.{Counted, one}
use Rattle.mx_turn.specs.Cycle.{MachineState}
use Rattle.mx_turn.specs.Program.{Program, state_after}
use Rattle.mx_turn.specs.Run.{bits, run_of}

-- the sum of f below n
abbrev pub sum_below : (ℕ → ℕ) → ℕ → ℕ
sum_below f zero = 0
sum_below f (suc n) = sum_below f n + f n

-- the place of an address in a code of so many words: the number of its word, then one place for the handler, and one for what lies behind the code
abbrev pub place_of : ℕ → ℕ → ℕ
place_of words address = cond (leb 4096 address) (cond (ltb (address - 4096) words) (address - 4096) (words + 1)) words

abbrev pub place_in : ℕ → Stage → ℕ
place_in words Empty = words + 1
place_in words (Live address) = place_of words address
place_in words (Squashed address) = place_of words address

-- there are so many places
abbrev pub places : ℕ → ℕ
places words = words + 2

abbrev pub is_live : Stage → Bool
is_live (Live address) = true
is_live _ = false

abbrev pub is_squashed : Stage → Bool
is_squashed (Squashed address) = true
is_squashed _ = false

module _ (p : Program) (requests : List ℕ) (words : ℕ) where
  -- the machine before cycle n
  abbrev pub before : ℕ → MachineState
  before n = state_after p (bits requests n)

  -- the machine counts one in cycle n
  abbrev pub counts_one : (Counted → ℕ) → ℕ → Bool
  counts_one field n = ltb (field (before n).counts) (field (before (suc n)).counts)

  abbrev pub counts_cycle : ℕ → Bool
  counts_cycle n = counts_one (λ c. c.cycles) n

  abbrev pub counts_fetch : ℕ → Bool
  counts_fetch n = counts_one (λ c. c.fetches) n

  abbrev pub counts_squash : ℕ → Bool
  counts_squash n = counts_one (λ c. c.squashes) n

  -- the cycles that were counted since the last fetch
  abbrev pub waiting : ℕ → ℕ
  waiting zero = 0
  waiting (suc n) = cond (counts_fetch n) 0 (waiting n + one (counts_cycle n))

  -- the stage is that of an address at the place
  abbrev pub is_at : ℕ → Stage → Bool
  is_at k stage = eqb (place_in words stage) k

  -- a fetch of place k is counted in cycle n
  abbrev pub fetches_there : ℕ → ℕ → Bool
  fetches_there k n = counts_fetch n && is_at k (before (suc n)).shown.fetch

  -- how many fetches of the place were counted in the first cycles
  abbrev pub fetches_at : ℕ → ℕ → ℕ
  fetches_at budget k = sum_below (λ n. one (fetches_there k n)) budget

  -- how many cycles these fetches took, those included that were stalled before them
  abbrev pub cycles_at : ℕ → ℕ → ℕ
  cycles_at budget k = sum_below (λ n. cond (fetches_there k n) (waiting n + one (counts_cycle n)) 0) budget

  -- how often a word of the place, not squashed, was in MEM
  abbrev pub executed_at : ℕ → ℕ → ℕ
  executed_at budget k =
      sum_below (λ n. one ((counts_fetch n && is_live (before (suc n)).shown.mem) && is_at k (before (suc n)).shown.mem)) budget

  -- how often a squashed one was
  abbrev pub cancelled_at : ℕ → ℕ → ℕ
  cancelled_at budget k =
      sum_below (λ n. one ((counts_fetch n && is_squashed (before (suc n)).shown.mem) && is_at k (before (suc n)).shown.mem)) budget

  -- how often a branch of the place squashed
  abbrev pub squashes_at : ℕ → ℕ → ℕ
  squashes_at budget k = sum_below (λ n. one (counts_squash n && is_at k (before (suc n)).shown.alu)) budget

  -- the place of the branch that squashed last before cycle n; before the first one, what lies behind the code
  abbrev pub squasher : ℕ → ℕ
  squasher zero = words + 1
  squasher (suc n) = cond (counts_squash n) (place_in words (before (suc n)).shown.alu) (squasher n)

  -- the penalty of a place: how many squashed words were in MEM that a branch of the place had squashed
  abbrev pub penalty_at : ℕ → ℕ → ℕ
  penalty_at budget k =
      sum_below (λ n. one ((counts_fetch n && is_squashed (before (suc n)).shown.mem) && eqb (squasher n) k)) budget

  -- how many cycles the place causes: those of its fetches, but each that ends squashed is one of the branch that squashed it
  abbrev pub caused_at : ℕ → ℕ → ℕ
  caused_at budget k = (cycles_at budget k - cancelled_at budget k) + penalty_at budget k

-- the sums over all places are the counts of the run
pub record SumsAreCounts (p : Program) (requests : List ℕ) (words budget : ℕ) : Type 0 where
  pub fetches : sum_below (fetches_at p requests words budget) (places words) ≡ (run_of p requests budget).counts.fetches
  -- the cycles that were stalled before a fetch that the budget cut off are waiting
  pub cycles : sum_below (cycles_at p requests words budget) (places words) + waiting p requests words budget ≡ (run_of p requests budget).counts.cycles
  pub caused : sum_below (caused_at p requests words budget) (places words) + waiting p requests words budget ≡ (run_of p requests budget).counts.cycles
  pub squashes : sum_below (squashes_at p requests words budget) (places words) ≡ (run_of p requests budget).counts.squashes

abbrev pub EachSumIsItsCount : Type 0
EachSumIsItsCount = (p : Program) (requests : List ℕ) (words budget : ℕ) → SumsAreCounts p requests words budget
