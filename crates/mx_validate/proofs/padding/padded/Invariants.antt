use Rattle.std.proofs.Common.{◌≡◌, take}
use Rattle.mx_validate.specs.Padded.{padded_from}
use Rattle.mx_validate.proofs.padding.padded.Given as goal

abbrev pub invariant-loop-k : goal.invariant-loop-k
invariant-loop-k l = l.items.items ≡ padded_from 0 (take l.k l.block.insts.items)
