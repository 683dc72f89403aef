use Rattle.std.proofs.Common.{◌≡◌, ◌++◌, drop}
use Rattle.mx_source.specs.declared.group.Section.TheVariants.{Code}
use Rattle.mx_source.specs.Printed.{Labels, code_text}
use Rattle.mx_source.specs.Groups.{AreGroups}
use Rattle.mx_source.proofs.print.code.Given as goal

abbrev pub invariant-loop-i : goal.invariant-loop-i
invariant-loop-i l = (labels : Labels) → AreGroups Code labels l.places
    → l.text ++ code_text labels l.i (drop l.i l.statements) ≡ l.initial.text ++ code_text labels 0 l.statements
