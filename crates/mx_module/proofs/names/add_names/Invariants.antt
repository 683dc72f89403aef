use Rattle.std.proofs.Common.{◌≡◌, ◌++◌, map, take}
use Rattle.mx_source.specs.Names.{named_labels}
use Rattle.mx_module.specs.Joined.{renamed}
use Rattle.mx_module.proofs.names.add_names.Given as goal

-- the labels so far, under their names in the program
abbrev pub invariant-loop-i : goal.invariant-loop-i
invariant-loop-i l = record {
  own : named_labels l.labels.entries ≡ l.own.labels;
  named : named_labels l.named.entries ≡ named_labels l.fn.named.entries ++ map (renamed l.own l.place) (take l.i (named_labels l.labels.entries));
}
