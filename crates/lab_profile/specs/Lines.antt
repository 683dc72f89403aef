-- What the words of a code cost, by the statements that they come from.
use Rattle.std.specs.Prelude.{◌≡◌, ℕ, suc, ◌+◌, ◌-◌, ◌^◌, ◌<◌, min, cond, eqb, List, [], ◌∷◌, length, slice_index, slice_index_or}
use Rattle.mx_link.specs.declared.linked.Origin.{Origin}
use Rattle.mx_link.specs.declared.linked.Origin.TheVariants.{Own, Copy, Pad}
use Rattle.mx_link.specs.Gathered.{gathered}
use Rattle.lab_profile.specs.declared.lines.LineCost.{LineCost}
use Rattle.lab_profile.specs.declared.tally.Tally.{Tally}
use Rattle.lab_profile.specs.Charges.{sum_below}

-- a number, as far as 64 bits hold it
abbrev pub saturated : ℕ → ℕ
saturated n = min n (2 ^ 64 - 1)

abbrev pub no_cost : LineCost
no_cost = record { executed = 0; cycles = 0; stalls = 0; noops = 0; cancelled = 0; killed = 0; squashes = 0; penalty = 0 }

-- the cycles that a cost causes: those of its words but the squashed ones, and the penalty of its branches
abbrev pub caused_in : LineCost → ℕ
caused_in c = saturated ((c.cycles - c.cancelled) + c.penalty)

-- how often the words of statement i were executed, as its cost says
abbrev pub executed_of : List LineCost → ℕ → ℕ
executed_of costs i = (slice_index_or costs i no_cost).executed

-- the penalty of the branch that is statement i, as its cost says
abbrev pub penalty_of : List LineCost → ℕ → ℕ
penalty_of costs i = (slice_index_or costs i no_cost).penalty

-- so many statements were executed as often as a tally has it of the words that come from them
abbrev pub CountsStatements : ℕ → List Origin → Tally → List LineCost → Type 0
CountsStatements statements origins t costs =
    (i : ℕ) → i < statements → executed_of costs i ≡ saturated (gathered (slice_index t.executed.items) i 0 origins)

-- so is the penalty of each of them that of the words that come from it
abbrev pub ChargesStatements : ℕ → List Origin → Tally → List LineCost → Type 0
ChargesStatements statements origins t costs =
    (i : ℕ) → i < statements → penalty_of costs i ≡ saturated (gathered (slice_index t.penalty.items) i 0 origins)

-- how often the first statements were executed at line n together, by the line and the cost of each
abbrev pub executed_on : ℕ → List ℕ → List LineCost → ℕ → ℕ
executed_on n lines costs count = sum_below (λ k. cond (eqb (slice_index lines k) n) (executed_of costs k) 0) count

-- each line was executed as often as its statements together
abbrev pub CountsLines : List ℕ → List LineCost → List LineCost → Type 0
CountsLines lines costs sums = (n : ℕ) → n < length sums → executed_of sums n ≡ saturated (executed_on n lines costs (length costs))

-- so is the penalty of each line that of its statements together
abbrev pub penalty_on : ℕ → List ℕ → List LineCost → ℕ → ℕ
penalty_on n lines costs count = sum_below (λ k. cond (eqb (slice_index lines k) n) (penalty_of costs k) 0) count

abbrev pub ChargesLines : List ℕ → List LineCost → List LineCost → Type 0
ChargesLines lines costs sums = (n : ℕ) → n < length sums → penalty_of sums n ≡ saturated (penalty_on n lines costs (length costs))

-- how often all statements were executed
abbrev pub executed_together : List LineCost → ℕ
executed_together costs = sum_below (executed_of costs) (length costs)

-- the penalty of all statements
abbrev pub penalty_together : List LineCost → ℕ
penalty_together costs = sum_below (penalty_of costs) (length costs)

-- so are lines as often as f has it of their statements together, where the statements were executed as often as f has it
abbrev pub LinesFollowStatements : Type 0
LinesFollowStatements =
    (lines : List ℕ) (costs sums : List LineCost) (f : ℕ → ℕ) → CountsLines lines costs sums
    → ((k : ℕ) → k < length costs → executed_of costs k ≡ f k)
    → (n : ℕ) → n < length sums → executed_of sums n ≡ saturated (sum_below (λ k. cond (eqb (slice_index lines k) n) (f k) 0) (length costs))

-- the sum of two costs, column by column
abbrev pub plus : LineCost → LineCost → LineCost
plus a b = record {
  executed = saturated (a.executed + b.executed);
  cycles = saturated (a.cycles + b.cycles);
  stalls = saturated (a.stalls + b.stalls);
  noops = saturated (a.noops + b.noops);
  cancelled = saturated (a.cancelled + b.cancelled);
  killed = saturated (a.killed + b.killed);
  squashes = saturated (a.squashes + b.squashes);
  penalty = saturated (a.penalty + b.penalty);
}

-- a cost of a list, by its number
abbrev pub cost_of : List LineCost → ℕ → LineCost
cost_of costs i = slice_index_or costs i no_cost

-- what a place cost: its stalls are the cycles without a fetch, and killed are the fetches whose word came to MEM neither executed nor squashed
abbrev pub place_cost : Tally → ℕ → LineCost
place_cost t k = record {
  executed = slice_index t.executed.items k;
  cycles = slice_index t.cycles.items k;
  stalls = slice_index t.cycles.items k - slice_index t.fetches.items k;
  noops = 0;
  cancelled = slice_index t.cancelled.items k;
  killed = (slice_index t.fetches.items k - slice_index t.executed.items k) - slice_index t.cancelled.items k;
  squashes = slice_index t.squashes.items k;
  penalty = slice_index t.penalty.items k;
}

-- what a word of the code cost: an executed no-op is no executed statement, and no branch
abbrev pub word_cost : Tally → ℕ → Origin → LineCost
word_cost t k Pad = record {
  executed = 0;
  cycles = (place_cost t k).cycles;
  stalls = (place_cost t k).stalls;
  noops = (place_cost t k).executed;
  cancelled = (place_cost t k).cancelled;
  killed = (place_cost t k).killed;
  squashes = (place_cost t k).squashes;
  penalty = 0;
}
word_cost t k _ = place_cost t k

-- the last statement whose own word is not after a word; before that word it was this one
abbrev pub owner_at : ℕ → Origin → ℕ
owner_at before (Own i) = i
owner_at before _ = before

-- the statement that a word is charged to: the one that it comes from, and for a no-op this owner
abbrev pub payer : ℕ → Origin → ℕ
payer owner (Own i) = i
payer owner (Copy i) = i
payer owner Pad = owner

-- what is charged to statement i in a column, for words with these origins that have numbers from k on; the last own word before them is that of
-- this statement
abbrev pub charged : (LineCost → ℕ) → Tally → ℕ → ℕ → ℕ → List Origin → ℕ
charged column t i k before [] = 0
charged column t i k before (from ∷ origins) =
    cond (eqb (payer (owner_at before from) from) i) (column (word_cost t k from)) 0 + charged column t i (suc k) (owner_at before from) origins

-- each column of a cost is what this function gives for the column
pub record HasColumns (sum_in : (LineCost → ℕ) → ℕ) (c : LineCost) : Type 0 where
  pub executed : c.executed ≡ saturated (sum_in (λ x. x.executed))
  pub cycles : c.cycles ≡ saturated (sum_in (λ x. x.cycles))
  pub stalls : c.stalls ≡ saturated (sum_in (λ x. x.stalls))
  pub noops : c.noops ≡ saturated (sum_in (λ x. x.noops))
  pub cancelled : c.cancelled ≡ saturated (sum_in (λ x. x.cancelled))
  pub killed : c.killed ≡ saturated (sum_in (λ x. x.killed))
  pub squashes : c.squashes ≡ saturated (sum_in (λ x. x.squashes))
  pub penalty : c.penalty ≡ saturated (sum_in (λ x. x.penalty))

-- each column of so many statements is that of the words charged to them
abbrev pub AreStatementCosts : ℕ → List Origin → Tally → List LineCost → Type 0
AreStatementCosts statements origins t costs =
    (i : ℕ) → i < statements → HasColumns (λ column. charged column t i 0 0 origins) (cost_of costs i)

-- each column of each line is that of its statements together
abbrev pub on_line : (LineCost → ℕ) → ℕ → List ℕ → List LineCost → ℕ → ℕ
on_line column n lines costs count = sum_below (λ k. cond (eqb (slice_index lines k) n) (column (cost_of costs k)) 0) count

abbrev pub AreLineCosts : List ℕ → List LineCost → List LineCost → Type 0
AreLineCosts lines costs sums = (n : ℕ) → n < length sums → HasColumns (λ column. on_line column n lines costs (length costs)) (cost_of sums n)

-- each column is that of all of them together
abbrev pub IsTotal : List LineCost → LineCost → Type 0
IsTotal costs sum = HasColumns (λ column. sum_below (λ i. column (cost_of costs i)) (length costs)) sum
