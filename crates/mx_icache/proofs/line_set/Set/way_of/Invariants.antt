use Rattle.std.proofs.Common.{ℕ, ◌<◌, ◌≢◌, Some}
use Rattle.mx_icache.specs.LineSets.{line_in}
use Rattle.mx_icache.proofs.line_set.Set.way_of.Given as goal

abbrev pub invariant-loop-way : goal.invariant-loop-way
invariant-loop-way l = (w : ℕ) → w < l.way → line_in l.self w ≢ Some l.line
