use Rattle.std.proofs.Common.{◌≡◌, ◌++◌, All, drop, map}
use Rattle.lab_measures.specs.Spans.{rising_pairs}
use Rattle.lab_measures.specs.Forward.{ComesFor}
use Rattle.lab_measures.specs.Sweeps.{IsRowOf, requests_of}
use Rattle.lab_measures.proofs.sweep.pairs.Given as goal

-- the rows so far are those of the pairs with the first cycles
abbrev pub invariant-loop-at : goal.invariant-loop-at
invariant-loop-at g l = record {
  come : ComesFor l.swept l.forward;
  rows : All (IsRowOf l.swept) l.rows.items;
  pairs : map requests_of l.rows.items ++ rising_pairs (drop l.at l.swept.cycles.now) ≡ rising_pairs l.swept.cycles.now;
}
