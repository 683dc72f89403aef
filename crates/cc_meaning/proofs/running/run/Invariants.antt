use Rattle.std.proofs.Common.{◌≡◌, ◌-◌}
use Rattle.cc_meaning.specs.Machines.{state_of}
use Rattle.cc_meaning.specs.Runs.{run_for}
use Rattle.cc_meaning.proofs.running.run.Given as goal

-- the steps that are left give what all give
abbrev pub invariant-loop-done : goal.invariant-loop-done
invariant-loop-done l =
    run_for l.program l.layout l.input (l.steps - l._done) (state_of l.machine) l.console.items
    ≡ run_for l.program l.layout l.input l.steps (state_of l.initial.machine) l.initial.console.items
