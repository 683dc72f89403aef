-- How the last request of a run became an interrupt, by what each cycle of the run shows.
use Rattle.std.specs.Prelude.{◌≡◌, ℕ, suc, ◌<◌, ◌≤◌, Bool, true, false, List, Option, Some, None}
use Rattle.mx_turn.specs.declared.latches.Stage.{Stage}
use Rattle.mx_turn.specs.Program.{Program, state_after, answer_after}
use Rattle.mx_turn.specs.Run.{is_requested, bits}
use Rattle.lab_measures.specs.declared.observed.Entry.{Entry}

-- what the cycles of a run show: whether a request comes, whether an interrupt is taken, whether the cycle is stalled, and what is in ALU
pub record Signals : Type 0 where
  pub asked : ℕ → Bool
  pub taken : ℕ → Bool
  pub stalled : ℕ → Bool
  pub alu : ℕ → Stage

-- of the requests before cycle n this is the last
pub record IsLast (s : Signals) (n last : ℕ) : Type 0 where
  pub within : last < n
  pub comes : s.asked last ≡ true
  pub alone : (k : ℕ) → last < k → k < n → s.asked k ≡ false

-- the first interrupt from a cycle on is taken in this one
pub record IsTaken (s : Signals) (from taken : ℕ) : Type 0 where
  pub order : from ≤ taken
  pub is : s.taken taken ≡ true
  pub first : (k : ℕ) → from ≤ k → k < taken → s.taken k ≡ false

-- the first cycle after one that is not stalled is this one
pub record IsActing (s : Signals) (after acts : ℕ) : Type 0 where
  pub order : after < acts
  pub is : s.stalled acts ≡ false
  pub first : (k : ℕ) → after < k → k < acts → s.stalled k ≡ true

-- So the last request before cycle n became an interrupt. The turn after it fetches the first word of the handler.
pub record IsEntry (s : Signals) (n : ℕ) (e : Entry) : Type 0 where
  pub last : ℕ
  pub asked : IsLast s n last
  pub taken : IsTaken s last e.taken
  pub fetched : IsActing s e.taken e.fetched
  pub within : e.fetched < n
  pub killed : e.killed ≡ s.alu e.taken

-- those of the run of a program with requests in these cycles
abbrev pub signals_of : Program → List ℕ → Signals
signals_of p requests = record {
  asked = is_requested requests;
  taken = λ n. (answer_after p (bits requests n) (is_requested requests n)).taken;
  stalled = λ n. (answer_after p (bits requests n) (is_requested requests n)).stalled;
  alu = λ n. (state_after p (bits requests (suc n))).shown.alu;
}

-- the run ends after so many cycles: the machine halts, or the budget is spent
pub record EndsAfter (p : Program) (requests : List ℕ) (budget n : ℕ) : Type 0 where
  pub within : n ≤ budget
  pub going : (k : ℕ) → k < n → (state_after p (bits requests k)).halted ≡ false
  pub whole : (state_after p (bits requests n)).halted ≡ false → n ≡ budget

-- so the last request in the first n cycles became an interrupt; there is no such entry where it did not, or the handler was not entered in them
abbrev pub IsEntryOf : Signals → ℕ → Option Entry → Type 0
IsEntryOf s n None = (e : Entry) → IsEntry s n e → ⊥
IsEntryOf s n (Some e) = IsEntry s n e

-- so the last request of a run did, within the cycles of the run
pub record EntersBy (p : Program) (requests : List ℕ) (budget : ℕ) (told : Option Entry) : Type 0 where
  pub cycles : ℕ
  pub ends : EndsAfter p requests budget cycles
  pub entry : IsEntryOf (signals_of p requests) cycles told
