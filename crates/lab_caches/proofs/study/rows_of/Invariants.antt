use Rattle.std.proofs.Common.{◌≡◌, ◌<◌, ◌^◌, ℕ, Some, take, map, slice_get}
use Rattle.lab_cache.specs.declared.all.Counted.{Counted}
use Rattle.lab_caches.specs.Rows.{row_for}
use Rattle.lab_caches.proofs.study.rows_of.Given as goal

abbrev pub invariant-loop-counted : goal.invariant-loop-counted
invariant-loop-counted l = record {
  rows : l.rows.items ≡ map (row_for l.fetches) (take l.counted-index l.all);
  small : (k : ℕ) (c : Counted) → k < l.counted-index → slice_get l.all k ≡ Some c → c.geometry.penalty < 2 ^ 32;
}
