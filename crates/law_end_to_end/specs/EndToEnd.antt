-- What the pipelined machine does on the compiled code of a source, told by what the source means.
use Rattle.std.specs.Prelude.{◌≡◌, ℕ, false, List}
use Rattle.mx_source.specs.SourceValue.{SourceValue}
use Rattle.mx_source.specs.Meaning.{given, meaning, is_stuck, HaltsIn}
use Rattle.mx_squash.specs.Copies.{Site}
use Rattle.mx_link.specs.Origins.{Filling, from_target}
use Rattle.mx_link.specs.Linked.{linked_code, linked_data}
use Rattle.mx_turn.specs.Handler.{shipped}
use Rattle.mx_turn.specs.Program.{Program, program_of}
use Rattle.mx_turn.specs.Run.{MachineRun, run_of}
use Rattle.law_link.specs.Matches.{Matches}
use Rattle.mx_isa.specs.Board.{board}

-- a source that is linked by a layout, with its slots so filled, under the shipped handler, with these bytes as its input
abbrev pub filled_program : Filling → SourceValue → List Site → List ℕ → Program
filled_program filling source sites bytes =
    program_of shipped (linked_code filling source board sites) (linked_data source board sites) (given source.input bytes)

-- with its slots filled from the target
abbrev pub source_program : SourceValue → List Site → List ℕ → Program
source_program = filled_program from_target

-- its run with requests at these cycles
abbrev pub source_run : SourceValue → List Site → List ℕ → List ℕ → ℕ → MachineRun
source_run source sites requests bytes budget = run_of (source_program source sites bytes) requests budget

abbrev pub filled_run : Filling → SourceValue → List Site → List ℕ → List ℕ → ℕ → MachineRun
filled_run filling source sites requests bytes budget = run_of (filled_program filling source sites bytes) requests budget

-- the meaning is not stuck within n steps
abbrev pub IsUnstuck : SourceValue → List ℕ → ℕ → Type 0
IsUnstuck source bytes n = is_stuck (meaning source board bytes n).state.mark ≡ false

-- the meaning halts after n steps, and the run ends with its console and its state
pub record EndsAsMeant (source : SourceValue) (sites : List Site) (bytes : List ℕ) (run : MachineRun) (n : ℕ) : Type 0 where
  pub halts : HaltsIn source board bytes n
  pub console : run.console ≡ (meaning source board bytes n).console
  pub state : Matches board sites run.last.core (meaning source board bytes n).state
