use Rattle.std.proofs.Common.{◌≡◌, ◌++◌, take}
use Rattle.std.specs.List.{flat_map}
use Rattle.cc_emit.specs.Data.{word_line}
use Rattle.cc_emit.proofs.words.put_lines.Given as goal

abbrev pub invariant-loop-word : goal.invariant-loop-word
invariant-loop-word l = l.text ≡ l.initial.text ++ flat_map word_line (take l.word-index l.words)
