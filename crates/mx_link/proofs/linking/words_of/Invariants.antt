use Rattle.std.proofs.Common.{◌≡◌, slice_index, take}
use Rattle.mx_link.specs.Words.{words_of}
use Rattle.mx_link.proofs.linking.words_of.Given as goal

abbrev pub invariant-loop-value : goal.invariant-loop-value
invariant-loop-value l = l.words.items ≡ words_of (slice_index l.links) (take l.value-index l.values)
