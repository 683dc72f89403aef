use Rattle.std.proofs.Common.{◌≡◌, map, take}
use Rattle.mx_blocks.specs.declared.Block.{Block}
use Rattle.mx_plans.proofs.linking.firsts_of.Given as goal

abbrev pub invariant-loop-block : goal.invariant-loop-block
invariant-loop-block l = l.firsts.items ≡ map (λ (b : Block). b.first) (take l.block-index l.blocks)
