-- A run within a budget of cycles, and the bound on a run of compiled code.
use Rattle.std.specs.Prelude.{ℕ, zero, suc, ◌+◌, ◌*◌, Bool, false, eqb, leb, not, ◌==◌, ◌&&◌, List, [], ◌∷◌, ◌++◌, Option, Some, None, option_to_list}
use Rattle.std.specs.List.{list_any}
use Rattle.std.specs.Borrow.{Bor}
use Rattle.mx_isa.specs.declared.board.TheConstants.{CODE_BASE}
use Rattle.mx_code.specs.declared.image.Image.{Image}
use Rattle.mx_pcchain.specs.Fetch.{Fetch}
use Rattle.mx_icache.specs.Residency.{resident}
use Rattle.mx_turn.specs.Counted.{Counted, one}
use Rattle.mx_turn.specs.Cycle.{MachineState, cycled, answer, start}
use Rattle.mx_turn.specs.Program.{Program, code_of, image_program, memory_of, state_after}

-- a request comes in this cycle
abbrev pub is_requested : List ℕ → ℕ → Bool
is_requested requests cycle = list_any (λ r. r == cycle) requests

-- the request bits of the first n cycles
abbrev pub bits : List ℕ → ℕ → List Bool
bits requests zero = []
bits requests (suc n) = bits requests n ++ is_requested requests n ∷ []

-- the bytes that a machine sends over these request bits
abbrev pub bytes_on : Program → MachineState → List Bool → List ℕ
bytes_on p m [] = []
bytes_on p m (request ∷ requests) =
    option_to_list (answer (code_of p) p.input m request).byte ++ bytes_on p (cycled resident (code_of p) p.input m request) requests

-- the console after these request bits
abbrev pub console_after : Program → List Bool → List ℕ
console_after p h = bytes_on p (start (memory_of p)) h

-- a fetch of user code, squashed or not, which no interrupt killed
abbrev pub is_users : Option Fetch → Bool
is_users None = false
is_users (Some f) = leb CODE_BASE f.address

-- the coming cycle acts, and a fetch of user code then reaches MEM
abbrev pub passes : MachineState → Bool
passes m = not m.halted && (eqb m.stall 0 && is_users m.alu)

-- how many fetches of user code reach MEM over these request bits
abbrev pub passed_on : Program → MachineState → List Bool → ℕ
passed_on p m [] = 0
passed_on p m (request ∷ requests) = one (passes m) + passed_on p (cycled resident (code_of p) p.input m request) requests

pub record MachineRun : Type 0 where
  pub halted : Bool
  pub counts : Counted
  pub console : List ℕ
  pub passed : ℕ
  pub last : MachineState

-- what a program does with requests at these cycles, until it halts or the budget of cycles is spent; a machine that has halted stays as it is
abbrev pub run_of : Program → List ℕ → ℕ → MachineRun
run_of p requests budget =
    let h = bits requests budget in
    record {
      halted = (state_after p h).halted;
      counts = (state_after p h).counts;
      console = console_after p h;
      passed = passed_on p (start (memory_of p)) h;
      last = state_after p h;
    }

-- the run of an image with the shipped handler, and with an input or none
abbrev pub image_run : Image → Option (Bor (List ℕ)) → List ℕ → ℕ → MachineRun
image_run image input requests budget = run_of (image_program image input) requests budget

-- cycles within which linked code halts under k requests, where its source's meaning halts after n executed statements
abbrev pub bound : ℕ → ℕ → ℕ
bound n k = 9 * n + 96 * k + 16
