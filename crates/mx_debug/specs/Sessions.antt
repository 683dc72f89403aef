-- Sessions: the stops of a run up to a number of them, a halt, or the end of its budget.
use Rattle.std.specs.Prelude.{ℕ, suc, ◌-◌, leb, Bool, cond, List, length, map, take, slice_index}
use Rattle.mx_turn.specs.Cycle.{MachineState}
use Rattle.mx_turn.specs.Program.{Program, state_after}
use Rattle.mx_turn.specs.Run.{bits, console_after}
use Rattle.mx_debug.specs.declared.stop.Stop.{Stop}
use Rattle.mx_debug.specs.declared.stop.Ending.{Ending}
use Rattle.mx_debug.specs.declared.stop.Ending.TheVariants.{Stopped, Halted, OutOfBudget}
use Rattle.mx_debug.specs.Stops.{stop_cycles, stop_at}

-- what runs, with requests at these cycles, and what is asked of it: how many stops at which address, the data word that
-- is watched, and the budget of cycles
pub record Session : Type 0 where
  pub program : Program
  pub requests : List ℕ
  pub address : ℕ
  pub limit : ℕ
  pub watch : ℕ
  pub budget : ℕ

abbrev pub session : Program → List ℕ → ℕ → ℕ → ℕ → ℕ → Session
session p requests address limit watch budget = record {
  program = p;
  requests = requests;
  address = address;
  limit = limit;
  watch = watch;
  budget = budget;
}

-- the stops within the budget
abbrev pub all_stops : Session → List ℕ
all_stops s = stop_cycles s.program s.requests s.address s.budget

-- as many of them come as are asked for
abbrev pub is_stopped : Session → Bool
is_stopped s = leb s.limit (length (all_stops s))

-- the stops of the session
abbrev pub stops_of : Session → List Stop
stops_of s = map (stop_at s.program s.requests s.watch) (take s.limit (all_stops s))

-- its number of cycles: it ends with the last stop that is asked for, where that comes within the budget; a machine that has
-- halted does nothing more
abbrev pub cycles_of : Session → ℕ
cycles_of s = cond (is_stopped s) (suc (slice_index (all_stops s) (s.limit - 1))) s.budget

-- how it ends
abbrev pub ending_of : Session → Ending
ending_of s = cond (is_stopped s) Stopped (cond (state_after s.program (bits s.requests s.budget)).halted Halted OutOfBudget)

-- the console up to its end
abbrev pub console_of : Session → List ℕ
console_of s = console_after s.program (bits s.requests (cycles_of s))

-- the machine at its end
abbrev pub last_of : Session → MachineState
last_of s = state_after s.program (bits s.requests (cycles_of s))
