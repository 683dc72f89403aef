use Rattle.std.proofs.Common.{◌≡◌, ◌+◌, ◌-◌}
use Rattle.mx_source.specs.Meaning.{Going, run_for}
use Rattle.mx_seq.specs.Seqs.{program_of, state_of}
use Rattle.cmd_meaning.specs.Told.{steps_in}
use Rattle.cmd_meaning.proofs.steps.run_steps.Given as goal

-- the run of what is left from now is the whole run, and so with the steps that count
abbrev pub invariant-loop-done : goal.invariant-loop-done
invariant-loop-done l = record {
  program : program_of l.seq ≡ program_of l.fn.seq;
  going : (state_of l.seq).mark ≡ Going;
  run : run_for (program_of l.fn.seq) (l.steps - l.done) (record { state = state_of l.seq; console = l.console.items })
      ≡ run_for (program_of l.fn.seq) l.steps (record { state = state_of l.fn.seq; console = l.fn.console.items });
  counted : l.done + steps_in (program_of l.fn.seq) (l.steps - l.done) (record { state = state_of l.seq; console = l.console.items })
      ≡ steps_in (program_of l.fn.seq) l.steps (record { state = state_of l.fn.seq; console = l.fn.console.items });
}
