use Rattle.std.proofs.Common.{◌≡◌, ◌++◌, take}
use Rattle.mx_source.specs.Names.{named_labels}
use Rattle.cmd_list.specs.Listing.{label_lines}
use Rattle.cmd_list.proofs.lines.push_labels.Given as goal

abbrev pub invariant-loop-i : goal.invariant-loop-i
invariant-loop-i l = l.text.items ≡ l.fn.text.items ++ label_lines l.links (take l.i (named_labels l.labels.entries))
