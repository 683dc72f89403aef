use Rattle.std.proofs.Common.{◌≡◌, ◌++◌, length, take}
use Rattle.mx_text.specs.Parts.{joined}
use Rattle.mx_text.proofs.text.push_parts.Given as goal

abbrev pub invariant-loop-part : goal.invariant-loop-part
invariant-loop-part l = (l.text.items ≡ l.fn.text.items ++ joined (take l.part-index l.parts)) × (l.before ≡ length l.fn.text.items)
