use Rattle.std.proofs.Common.{◌≡◌, ◌<◌, ℕ, false, ◌||◌, length, drop}
use Rattle.std.specs.Prelude.{slice_index_or}
use Rattle.lab_costs.specs.Rows.{has_statements}
use Rattle.lab_costs.proofs.rows.with_statements.Given as goal

-- a part has a statement before or after
abbrev pub invariant-loop-key : goal.invariant-loop-key
invariant-loop-key l = record {
  size : length l.has.items ≡ l.fn.parts;
  each : (k : ℕ) → k < l.fn.parts
      → slice_index_or l.has.items k false || has_statements (drop l.key-index l.fn.keys) k ≡ has_statements l.fn.keys k;
}
