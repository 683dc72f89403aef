use Rattle.lab_draw.specs.Coming.{HaveCome}
use Rattle.lab_draw.proofs.rows.rows_from.Given as goal

abbrev pub invariant-loop-begins : goal.invariant-loop-begins
invariant-loop-begins l = HaveCome l.frames l.first l.begins l.rows.items
