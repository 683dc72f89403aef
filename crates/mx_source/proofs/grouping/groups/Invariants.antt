use Rattle.std.proofs.Common.{◌≡◌, length, take}
use Rattle.mx_source.specs.Names.{named_labels}
use Rattle.mx_source.specs.Groups.{AreGroups}
use Rattle.mx_source.proofs.grouping.groups.Given as goal

abbrev pub invariant-loop-i : goal.invariant-loop-i
invariant-loop-i l = record { len : length l.groups.items ≡ l.fn.count; groups : AreGroups l.section (take l.i (named_labels l.labels.entries)) l.groups.items }
