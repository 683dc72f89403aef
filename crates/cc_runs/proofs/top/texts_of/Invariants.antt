use Rattle.std.proofs.Common.{◌≡◌}
use Rattle.cc_runs.proofs.top.texts_of.Given as goal

-- what the shelf tells stays
abbrev pub invariant-loop-name : goal.invariant-loop-name
invariant-loop-name g l = g.S.Shelf.told l.shelf ≡ g.S.Shelf.told l.fn.shelf
