-- The machine stands for the program that is loaded, so its run is that program's.
use Rattle.lab_sources.specs.Runs.{loaded}
use Rattle.lab_runs.proofs.explain.source_run.Goals as goal

pub returns-clause-cycles : goal.returns-clause-cycles
returns-clause-cycles g c = c.in_ok-ran.ensures.cycles (loaded c.args.run.now) c.in_ok-machine.ensures

pub returns-clause-halted : goal.returns-clause-halted
returns-clause-halted g c = c.in_ok-ran.ensures.halted (loaded c.args.run.now) c.in_ok-machine.ensures
