use Rattle.std.proofs.Common.{◌≡◌, ℕ, ◌+◌, ◌<◌, ◌≤◌}
use Rattle.mx_source.specs.Labels.{is_labelled}
use Rattle.mx_blocks.specs.Leaders.{gap}
use Rattle.mx_blocks.proofs.splitting.end_from.Given as goal

abbrev pub invariant-loop-i : goal.invariant-loop-i
invariant-loop-i l = (t : ℕ) → l.first ≤ t → t < l.i → gap (is_labelled l.source.labels) l.source.statements t + l.first ≡ t
