use Rattle.std.proofs.Common.{◌≡◌, ◌+◌, sum, take, drop}
use Rattle.mx_layout.specs.Overlong.{overlong_from, padded_link}
use Rattle.mx_layout.proofs.reaching.check_branches.Given as goal

abbrev pub invariant-loop-k : goal.invariant-loop-k
invariant-loop-k l = record {
  at : l.at ≡ l.first + sum (take l.k l.sizes);
  rest :
      overlong_from l.source (padded_link l.first l.blocks) l.at (drop l.k l.blocks) ≡ overlong_from l.source (padded_link l.first l.blocks) l.first l.blocks;
}
