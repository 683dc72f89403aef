use Rattle.std.proofs.Common.{◌≡◌, ◌≤◌, ◌*◌, ◌++◌, take}
use Rattle.std.specs.List.{flat_map, sum_by}
use Rattle.cmd_best.specs.Lengths.{block_line, padded_length, greedy_length, best_length}
use Rattle.cmd_best.proofs.lines.push_blocks.Given as goal

abbrev pub invariant-loop-i : goal.invariant-loop-i
invariant-loop-i l = record {
  text : l.text.items ≡ l.fn.text.items ++ flat_map (block_line l.lines) (take l.i l.blocks);
  padded : l.sums.padded ≡ sum_by padded_length (take l.i l.blocks);
  greedy : l.sums.greedy ≡ sum_by greedy_length (take l.i l.blocks);
  best : l.sums.best ≡ sum_by best_length (take l.i l.blocks);
  few_padded : l.sums.padded ≤ 131 * l.i;
  few_greedy : l.sums.greedy ≤ 131 * l.i;
  few_best : l.sums.best ≤ 131 * l.i;
}
