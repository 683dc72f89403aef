-- Runs of a program.
use Rattle.std.specs.Prelude.{ℕ, zero, suc, List, [], ◌++◌, option_to_list}
use Rattle.cc_program.specs.declared.program.Program.{Program}
use Rattle.cc_meaning.specs.declared.running.Ending.{Ending}
use Rattle.cc_meaning.specs.declared.running.Ending.TheVariants as ending
use Rattle.cc_meaning.specs.declared.layout.Layout.{Layout}
use Rattle.cc_meaning.specs.States.{State, Outcome, Next, Halted, Stuck}
use Rattle.cc_meaning.specs.Steps.{step}
use Rattle.cc_meaning.specs.Start.{start}

-- the last state, all that was sent to the console, and how the run stands
pub record Run : Type 0 where
  pub state : State
  pub console : List ℕ
  pub ending : Ending

-- a run after a step, which goes on as `rest` says
abbrev pub after : Outcome → State → List ℕ → (State → List ℕ → Run) → Run
after (Next new sent) s console rest = rest new (console ++ option_to_list sent)
after (Halted status) s console rest = record { state = s; console = console; ending = ending.Halted status }
after (Stuck why) s console rest = record { state = s; console = console; ending = ending.Stuck why }

-- at most n steps from a state, after this was sent
abbrev pub run_for : Program → Layout → List ℕ → ℕ → State → List ℕ → Run
run_for p l input zero s console = record { state = s; console = console; ending = ending.Running }
run_for p l input (suc n) s console = after (step p l input s) s console (run_for p l input n)

-- what a program means that starts at a symbol, in n steps
abbrev pub meaning : Program → Layout → ℕ → List ℕ → ℕ → Run
meaning p l symbol input n = run_for p l input n (start p l symbol) []
