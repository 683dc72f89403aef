use Rattle.std.proofs.Common.{◌≡◌, All, take, None}
use Rattle.lab_measures.specs.Forward.{ComesFor}
use Rattle.lab_measures.specs.Sweeps.{IsRowOf, firsts}
use Rattle.lab_measures.proofs.sweep.singles.Given as goal

-- the rows so far are those of the cycles so far
abbrev pub invariant-loop-first : goal.invariant-loop-first
invariant-loop-first g l = record {
  come : ComesFor l.swept l.forward;
  rows : All (IsRowOf l.swept) l.rows.items;
  firsts : firsts l.rows.items ≡ take l.first-index l.swept.cycles.now;
  alone : All (λ row. row.second ≡ None) l.rows.items;
}
