use Rattle.std.proofs.Common.{◌≡◌, ◌+◌, ◌++◌, sum, take, drop}
use Rattle.mx_layout.specs.Addresses.{starts_from}
use Rattle.mx_layout.proofs.addresses.starts_of.Given as goal

abbrev pub invariant-loop-size : goal.invariant-loop-size
invariant-loop-size l = record {
  at : l.at ≡ l.first + sum (take l.size-index l.sizes);
  rest : l.starts.items ++ starts_from l.at (drop l.size-index l.sizes) ≡ starts_from l.first l.sizes;
}
