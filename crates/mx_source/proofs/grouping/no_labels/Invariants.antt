use Rattle.std.proofs.Common.{◌≡◌, length, []}
use Rattle.mx_source.specs.Groups.{AreGroups}
use Rattle.mx_source.proofs.grouping.no_labels.Given as goal

abbrev pub invariant-loop : goal.invariant-loop
invariant-loop l = record { len : length l.groups.items ≡ l.counter; groups : AreGroups l.fn.section [] l.groups.items }
