-- What the cycles of a run were spent on.
use Rattle.std.specs.Prelude.{ℕ, ◌+◌}
use Rattle.lab_profile.specs.Lines.{saturated}
use Rattle.lab_profile.specs.declared.spent.Spent.{Spent}

-- all of them
abbrev pub spent_together : Spent → ℕ
spent_together s = saturated (s.instructions + s.noops + s.squashed + s.killed + s.handler + s.misses)
