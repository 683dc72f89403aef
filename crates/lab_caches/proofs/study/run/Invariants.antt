use Rattle.std.proofs.Common.{◌≡◌, ◌≤◌, List, [], false}
use Rattle.lab_terms.specs.declared.geometry.Geometry.{Geometry}
use Rattle.lab_cache.specs.All.{AllHold}
use Rattle.mx_turn.specs.Program.{Program, state_after}
use Rattle.mx_turn.specs.Run.{bits}
use Rattle.lab_caches.proofs.study.run.Given as goal

-- no more cycles are counted than there were, the machine is after them and has not halted, and each cache has fetched what it fetched
abbrev pub invariant-loop-cycle : goal.invariant-loop-cycle
invariant-loop-cycle g l = record {
  counted : g.M.Machine.cycles l.machine ≤ l.cycle;
  within : l.cycle ≤ l.budget;
  run : (p : Program) → g.M.Machine.stands l.fn.machine p [] →
      g.M.Machine.stands l.machine p (bits l.requests l.cycle)
      × ((state_after p (bits l.requests l.cycle)).halted ≡ false)
      × ((gs : List Geometry) → AllHold l.fn.all.groups.items gs [] → AllHold l.all.groups.items gs (state_after p (bits l.requests l.cycle)).past);
}
