use Rattle.std.proofs.Common.{◌≡◌, ℕ, ◌<◌, length, drop}
use Rattle.std.specs.Option.{option_or}
use Rattle.lab_words.specs.Tables.{entry, first_from}
use Rattle.lab_words.proofs.names.first_at.Given as goal

-- what is kept at k, or else the first of the offsets that are left, is the first of all
abbrev pub invariant-loop-index : goal.invariant-loop-index
invariant-loop-index l = record {
  long : length l.table.items ≡ l.fn.count;
  first : (k : ℕ) → k < l.fn.count → option_or (entry l.table.items k) (first_from k l.index (drop l.index l.offsets)) ≡ first_from k 0 l.offsets;
}
