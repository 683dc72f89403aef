use Rattle.std.proofs.Common.{◌≡◌, ◌++◌, take}
use Rattle.std.specs.List.{flat_map}
use Rattle.cc_emit.specs.Data.{mask_table}
use Rattle.cc_emit.proofs.words.put_masks.Given as goal

abbrev pub invariant-loop-mask : goal.invariant-loop-mask
invariant-loop-mask l = l.text ≡ l.initial.text ++ flat_map (mask_table l.out.masks.items) (take l.mask-index l.masks)
