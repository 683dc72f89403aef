-- What a run cost: its statements, the handler, and what lies behind the code.
use Rattle.std.specs.Prelude.{◌≡◌, ℕ, ◌+◌, ◌-◌, List, [], ◌∷◌, length}
use Rattle.lab_profile.specs.declared.lines.LineCost.{LineCost}
use Rattle.lab_profile.specs.declared.spent.Spent.{Spent}
use Rattle.lab_profile.specs.declared.tally.Tally.{Tally}
use Rattle.lab_profile.specs.Charges.{sum_below}
use Rattle.lab_profile.specs.Lines.{saturated, caused_in, cost_of, place_cost, HasColumns}

-- a column of these costs together
abbrev pub column_of_all : (LineCost → ℕ) → List LineCost → ℕ
column_of_all column costs = sum_below (λ i. column (cost_of costs i)) (length costs)

-- the handler's place is the one after so many words of the code
abbrev pub handler_cost : Tally → ℕ → LineCost
handler_cost t words = place_cost t words

-- the place after that is charged with the words behind the code
abbrev pub behind_cost : Tally → ℕ → LineCost
behind_cost t words = place_cost t (words + 1)

-- each column is that of the statements, of the handler and of what lies behind the code together
abbrev pub IsTogether : List LineCost → Tally → ℕ → LineCost → Type 0
IsTogether costs t words sum =
    HasColumns (λ column. column_of_all column costs + column (handler_cost t words) + column (behind_cost t words)) sum

-- a column of the statements and of what lies behind the code: all but the handler
abbrev pub column_of_code : (LineCost → ℕ) → List LineCost → Tally → ℕ → ℕ
column_of_code column costs t words = column_of_all column costs + column (behind_cost t words)

-- the cycles by what they were spent on. Those of the handler, but for its stalls, are one part; all stalls, with the cycles that a fetch that never came
-- was waited for, are another
pub record IsSpent (costs : List LineCost) (t : Tally) (words waiting : ℕ) (s : Spent) : Type 0 where
  pub instructions : s.instructions ≡ saturated (column_of_code (λ c. c.executed) costs t words)
  pub noops : s.noops ≡ saturated (column_of_code (λ c. c.noops) costs t words)
  pub squashed : s.squashed ≡ saturated (column_of_code (λ c. c.cancelled) costs t words)
  pub killed : s.killed ≡ saturated (column_of_code (λ c. c.killed) costs t words)
  pub handler : s.handler ≡ (handler_cost t words).cycles - (handler_cost t words).stalls
  pub misses : s.misses ≡ saturated (column_of_code (λ c. c.stalls) costs t words + (handler_cost t words).stalls + waiting)

-- the columns of a cost in the order of the line `events: Cycles Executed Stalls Noops Squashed Killed Caused`
abbrev pub events_of : LineCost → List ℕ
events_of c = c.cycles ∷ c.executed ∷ c.stalls ∷ c.noops ∷ c.cancelled ∷ c.killed ∷ caused_in c ∷ []
