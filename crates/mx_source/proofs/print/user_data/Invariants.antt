use Rattle.std.proofs.Common.{◌≡◌, ◌+◌, ◌++◌, drop}
use Rattle.mx_source.specs.declared.group.Section.TheVariants.{Code, Data}
use Rattle.mx_source.specs.Printed.{Labels, words_text}
use Rattle.mx_source.specs.Groups.{AreGroups}
use Rattle.mx_source.proofs.print.user_data.Given as goal

abbrev pub invariant-loop-i : goal.invariant-loop-i
invariant-loop-i l = (labels : Labels) → AreGroups Code labels l.places → AreGroups Data labels l.at →
    l.text ++ words_text labels (256 + l.i) (drop l.i l.words) ≡ l.initial.text ++ words_text labels 256 l.words
