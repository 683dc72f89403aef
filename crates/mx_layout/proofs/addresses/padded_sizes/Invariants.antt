use Rattle.std.proofs.Common.{◌≡◌, map, take}
use Rattle.mx_layout.specs.Overlong.{padded_size}
use Rattle.mx_layout.proofs.addresses.padded_sizes.Given as goal

abbrev pub invariant-loop-block : goal.invariant-loop-block
invariant-loop-block l = l.sizes.items ≡ map padded_size (take l.block-index l.blocks)
