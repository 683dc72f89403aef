use Rattle.std.proofs.Common.{◌≡◌, All, map, take}
use Rattle.mx_turn.specs.Decoded.{what_of, ShiftFits}
use Rattle.mx_turn.proofs.decoded.all_of.Given as goal

abbrev pub invariant-loop-word : goal.invariant-loop-word
invariant-loop-word l = (l.insts.items ≡ map what_of (take l.word-index l.words)) × All ShiftFits l.insts.items
