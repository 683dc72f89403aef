-- Runs that go on from a cycle that another run came to.
use Rattle.std.specs.Prelude.{◌≡◌, ◌<◌, ◌++◌, ℕ, false, List}
use Rattle.mx_turn.specs.Program.{Program, state_after}
use Rattle.mx_turn.specs.Run.{is_requested, bits, console_after, run_of}
use Rattle.lab_measures.specs.declared.observed.Run.{Run}
use Rattle.lab_measures.specs.Entries.{EntersBy}

-- a run comes to cycle n without a request and does not halt before; this then is its console
pub record ComesTo (p : Program) (requests : List ℕ) (n : ℕ) (console : List ℕ) : Type 0 where
  pub quiet : (k : ℕ) → k < n → is_requested requests k ≡ false
  pub going : (state_after p (bits requests n)).halted ≡ false
  pub sent : console ≡ console_after p (bits requests n)

-- what is told of a run of a program; its console has this in front of it
pub record IsTold (p : Program) (requests : List ℕ) (budget : ℕ) (before : List ℕ) (r : Run) : Type 0 where
  pub halted : r.halted ≡ (run_of p requests budget).halted
  pub counts : r.counts ≡ (run_of p requests budget).counts
  pub console : before ++ r.console.items ≡ (run_of p requests budget).console
  pub entry : EntersBy p requests budget r.entry
