use Rattle.std.proofs.Common.{◌≡◌, ◌+◌, ◌++◌, sum, take, drop}
use Rattle.mx_layout.specs.Addresses.{statement_starts}
use Rattle.mx_layout.proofs.addresses.links_of.Given as goal

abbrev pub invariant-loop-k : goal.invariant-loop-k
invariant-loop-k l = record {
  at : l.at ≡ l.first + sum (take l.k l.sizes);
  rest : l.links.items ++ statement_starts l.at (drop l.k l.blocks) (drop l.k l.sizes) ≡ statement_starts l.first l.blocks l.sizes;
}
