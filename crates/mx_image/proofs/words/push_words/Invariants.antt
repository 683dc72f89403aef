use Rattle.std.proofs.Common.{◌≡◌, ◌++◌, take}
use Rattle.mx_image.specs.Bytes.{words_bytes}
use Rattle.mx_image.proofs.words.push_words.Given as goal

abbrev pub invariant-loop-word : goal.invariant-loop-word
invariant-loop-word l = l.out.items ≡ l.initial.out.items ++ words_bytes (take l.word-index l.words)
