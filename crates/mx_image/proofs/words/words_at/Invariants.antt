use Rattle.std.proofs.Common.{◌≡◌, drop, vec_len}
use Rattle.mx_image.specs.Bytes.{numbers}
use Rattle.mx_image.proofs.words.words_at.Given as goal

abbrev pub invariant-loop-k : goal.invariant-loop-k
invariant-loop-k l = record {
  words : l.words.items ≡ numbers l.k (drop l.at l.bytes);
  len : vec_len l.words ≡ l.k;
}
