use Rattle.std.proofs.Common.{◌≡◌, ◌≤◌, ◌+◌, ◌++◌, [], take, drop, map, length}
use Rattle.std.specs.Prelude.{All}
use Rattle.mx_lines.specs.Words.{texts}
use Rattle.mx_asm.specs.Positions.{start, position_at_end, labels_from}
use Rattle.mx_faults.specs.Found.{numbered}
use Rattle.mx_faults.specs.Walking.{IsShown, walked}
use Rattle.mx_faults.proofs.walk.walk.Given as goal

-- what is found so far and what is found in the rest is what is found in all lines
abbrev pub invariant-loop-line : goal.invariant-loop-line
invariant-loop-line l = record {
  number : l.number ≡ l.line-index + 1;
  index : l.position.index ≤ l.line-index;
  near : l.position.address ≤ 65537;
  few : length l.found.items ≤ l.at_most;
  before : l.position ≡ position_at_end (start l.bounds.data_start) (take l.line-index (texts l.lines));
  earlier : l.earlier ≡ labels_from (start l.bounds.data_start) [] (take l.line-index (texts l.lines));
  spans : All (IsShown l.labels l.bounds.data_start (texts l.lines)) l.found.items;
  found : map numbered l.found.items ++ walked l.labels l.bounds.end l.position l.earlier l.number (texts (drop l.line-index l.lines))
      ≡ walked l.labels l.bounds.end (start l.bounds.data_start) [] 1 (texts l.lines);
}
