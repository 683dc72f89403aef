use Rattle.std.proofs.Common.{◌+◌, ◌-◌, suc, length}
use Rattle.lab_draw.specs.Coming.{HaveCome}
use Rattle.lab_draw.proofs.rows.push_rows.Given as goal

abbrev pub invariant-rows : goal.invariant-rows
invariant-rows l = HaveCome l.frames l.first l.begins l.rows.items

abbrev pub decreases-rows : goal.decreases-rows
decreases-rows l = suc l.turn - (l.first + length l.rows.items)
