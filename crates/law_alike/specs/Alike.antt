-- States of the machine that go on alike.
use Rattle.std.specs.Prelude.{◌≡◌, ℕ, ◌+◌, Bool, List, ◌∷◌, ◌++◌}
use Rattle.mx_icache.specs.Residency.{resident}
use Rattle.mx_turn.specs.Counted.{Counted}
use Rattle.mx_turn.specs.Cycle.{MachineState, after_bits}
use Rattle.mx_turn.specs.Program.{Program, code_of}

-- whatever is fetched next, the same addresses are resident
abbrev pub AnswerAlike : List ℕ → List ℕ → Type 0
AnswerAlike past past' = (coming : List ℕ) (a : ℕ) → resident (coming ++ past) a ≡ resident (coming ++ past') a

-- two states differ only in what was fetched, counted and shown; the coming fetch is resident in both or in neither, and behind it they answer
-- alike. A cache that was already asked for that fetch tells of no other one.
pub record GoOnLike (m m' : MachineState) : Type 0 where
  pub same : record m { past = m'.past; counts = m'.counts; shown = m'.shown } ≡ m'
  pub coming : resident m.past m.next.address ≡ resident m'.past m.next.address
  pub behind : AnswerAlike (m.next.address ∷ m.past) (m.next.address ∷ m'.past)

-- as much was counted from c to d as from c' to d'
pub record CountAsMuch (c d c' d' : Counted) : Type 0 where
  pub cycles : d.cycles + c'.cycles ≡ d'.cycles + c.cycles
  pub fetches : d.fetches + c'.fetches ≡ d'.fetches + c.fetches
  pub misses : d.misses + c'.misses ≡ d'.misses + c.misses
  pub squashes : d.squashes + c'.squashes ≡ d'.squashes + c.squashes
  pub interrupts : d.interrupts + c'.interrupts ≡ d'.interrupts + c.interrupts

-- the state after these request bits
abbrev pub later : Program → MachineState → List Bool → MachineState
later p m requests = after_bits resident (code_of p) p.input m requests
