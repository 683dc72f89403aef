-- The machine stands for the program that is loaded, and no request comes.
use Rattle.std.proofs.Common.{ℕ, List, ap, ◌∙◌}
use Rattle.mx_turn.specs.Counted.{Counted}
use Rattle.mx_turn.specs.Run.{run_of}
use Rattle.lab_sources.specs.Runs.{loaded}
use Rattle.lab_runs.proofs.interrupts.undisturbed_run.Goals as goal

pub returns-clause-halted : goal.returns-clause-halted
returns-clause-halted g c =
    let run = c.args.run.now in
    c.in_ok-driven.ensures.halted (loaded run) c.in_ok-machine.ensures
    ∙ ap (λ (requests : List ℕ). (run_of (loaded run) requests run.budget).halted) c.none-requests.ensures

pub returns-clause-cycles : goal.returns-clause-cycles
returns-clause-cycles g c =
    let run = c.args.run.now in
    ap (λ (x : Counted). x.cycles) (c.in_ok-driven.ensures.counts (loaded run) c.in_ok-machine.ensures)
    ∙ ap (λ (requests : List ℕ). (run_of (loaded run) requests run.budget).counts.cycles) c.none-requests.ensures

pub returns-clause-console : goal.returns-clause-console
returns-clause-console g c =
    let run = c.args.run.now in
    c.in_ok-driven.ensures.console (loaded run) c.in_ok-machine.ensures
    ∙ ap (λ (requests : List ℕ). (run_of (loaded run) requests run.budget).console) c.none-requests.ensures
