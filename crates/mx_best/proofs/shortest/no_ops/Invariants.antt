use Rattle.std.proofs.Common.{◌≡◌, replicate}
use Rattle.mx_blocks.specs.declared.block.Item.TheVariants.{Nop}
use Rattle.mx_best.proofs.shortest.no_ops.Given as goal

abbrev pub invariant-loop-i : goal.invariant-loop-i
invariant-loop-i l = l.items.items ≡ replicate l._i Nop
