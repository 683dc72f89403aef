use Rattle.std.proofs.Common.{◌≡◌, ◌++◌, All, take, map}
use Rattle.lab_measures.specs.Spans.{pairs_with}
use Rattle.lab_measures.specs.Forward.{ComesFor}
use Rattle.lab_measures.specs.Sweeps.{IsRowOf, requests_of}
use Rattle.lab_measures.proofs.sweep.add_pairs.Given as goal

-- the rows that are added so far are those of the pairs with the first of the others
abbrev pub invariant-loop-second : goal.invariant-loop-second
invariant-loop-second g l = record {
  rows : ComesFor l.swept l.forward → All (IsRowOf l.swept) l.fn.rows.items → All (IsRowOf l.swept) l.rows.items;
  pairs : map requests_of l.rows.items ≡ map requests_of l.fn.rows.items ++ pairs_with l.fn.first (take l.second-index l.fn.others);
}
