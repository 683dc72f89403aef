use Rattle.std.proofs.Common.{◌≡◌}
use Rattle.lab_measures.specs.Spans.{cycles_among}
use Rattle.lab_measures.proofs.cycles.cycles_in.Given as goal

-- the cycles of the span among those that were looked at
abbrev pub invariant-loop-behind : goal.invariant-loop-behind
invariant-loop-behind l = l.cycles.items ≡ cycles_among l.span l.behind
