use Rattle.std.proofs.Common.{◌≡◌, ◌++◌, map, drop}
use Rattle.mx_lines.specs.Words.{texts}
use Rattle.lab_faults.specs.Checked.{as_shown, shown_among}
use Rattle.lab_faults.proofs.found.shown_of.Given as goal

-- the lines so far and those that are left are all that were found
abbrev pub invariant-loop-one : goal.invariant-loop-one
invariant-loop-one l = map as_shown l.shown.items ++ map (shown_among (texts l.lines)) (drop l.one-index l.found) ≡ map (shown_among (texts l.lines)) l.found
