use Rattle.std.proofs.Common.{◌≡◌, take}
use Rattle.mx_source.specs.Names.{named_labels}
use Rattle.mx_lines.proofs.labels.Labels.copied.Given as goal

-- the labels so far
abbrev pub invariant-loop-i : goal.invariant-loop-i
invariant-loop-i l = named_labels l.table.entries ≡ take l.i (named_labels l.self-inside.table.entries)
