use Rattle.std.proofs.Common.{◌≡◌, ◌≤◌, ◌-◌, false}
use Rattle.mx_turn.specs.Program.{Program, state_after}
use Rattle.mx_turn.specs.Run.{bits}
use Rattle.mx_report.specs.Cursor.{IsAt}
use Rattle.mx_report.proofs.observing.observe.Given as goal

-- the cursor has met the requests so far, the machine stands for the bits so far and has not halted, and the notes are theirs and not enough
abbrev pub invariant-loop-cycle : goal.invariant-loop-cycle
invariant-loop-cycle g l = record {
  onward : l.from ≤ l.cycle;
  within : l.cycle ≤ l.to;
  before : IsAt l.list l.cursor l.cycle;
  counted : g.M.Machine.cycles l.machine ≤ l.cycle;
  fits : g.O.Observer.fits l.observer l.notes l.cycle;
  more : g.O.Observer.enough l.observer l.notes ≡ false;
  run : (p : Program) → g.M.Machine.stands l.fn.machine p (bits l.list l.from) → (state_after p (bits l.list l.from)).halted ≡ false →
      g.M.Machine.stands l.machine p (bits l.list l.cycle)
      × ((state_after p (bits l.list l.cycle)).halted ≡ false)
      × (g.O.Observer.saw l.observer l.fn.notes p l.list l.from → g.O.Observer.saw l.observer l.notes p l.list l.cycle);
}

abbrev pub decreases-loop-cycle : goal.decreases-loop-cycle
decreases-loop-cycle g l = l.to - l.cycle
