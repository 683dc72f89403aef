use Rattle.std.proofs.Common.{◌≡◌, ◌-◌, ◌⊎◌, ◌≤◌, true, length}
use Rattle.mx_blocks.specs.Leaders.{BlocksFrom, is_leader}
use Rattle.mx_blocks.proofs.splitting.blocks.Given as goal

abbrev pub invariant-loop-first : goal.invariant-loop-first
invariant-loop-first l = record {
  within : l.first ≤ length l.source.statements;
  leader : (is_leader l.source l.first ≡ true) ⊎ (l.first ≡ length l.source.statements);
  split : BlocksFrom l.source 0 l.first l.found.items;
}

abbrev pub decreases-loop-first : goal.decreases-loop-first
decreases-loop-first l = l.count - l.first
