use Rattle.std.proofs.Common.{◌≡◌, ◌+◌, ◌-◌, ◌≤◌, vec_len, min}
use Rattle.mx_io.specs.Counts.{last_count}
use Rattle.mx_io.proofs.real.read_file.Given as goal

abbrev pub invariant-loop-count : goal.invariant-loop-count
invariant-loop-count g l = record {
  within : vec_len l.bytes ≤ l.limit;
  whole : l.came.bytes ≡ l.bytes.items;
  took : min (l.fn.taken + vec_len l.bytes) last_count ≤ l.taken;
  bounded : l.taken ≤ l.fn.taken + vec_len l.bytes;
  grown : l.fn.taken ≤ l.taken;
}

abbrev pub decreases-loop-count : goal.decreases-loop-count
decreases-loop-count g l = l.limit - vec_len l.bytes
