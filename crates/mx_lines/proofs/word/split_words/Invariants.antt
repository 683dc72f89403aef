use Rattle.std.proofs.Common.{◌≡◌, ◌-◌, length, drop, map}
use Rattle.mx_lines.specs.Shapes.{word}
use Rattle.mx_lines.specs.Words.{has_bad_byte}
use Rattle.mx_lines.proofs.LineWords.{Reads}
use Rattle.mx_lines.proofs.word.split_words.Given as goal

abbrev pub invariant-tokens : goal.invariant-tokens
invariant-tokens l = record {
  line : l.lexer.line ≡ l.line;
  reads : Reads l.line (map word l.words.items) l.lexer.at;
  clean : has_bad_byte (drop l.lexer.at l.line) ≡ has_bad_byte l.line;
}

abbrev pub decreases-tokens : goal.decreases-tokens
decreases-tokens l = length l.line - l.lexer.at
