use Rattle.std.proofs.Common.{⊎_elim, arith, sym, ap, ◌∙◌}
use Rattle.mx_source.specs.Sections.{names_at}
use Rattle.mx_source.proofs.Grouped.{slice_get-push_cases, group_empty}
use Rattle.std.specs.List.{slice_get}
use Rattle.std.proofs.lemmas.Grind.{common_steps}
use Rattle.mx_source.proofs.grouping.no_labels.Goals as goal

pub loop-preserved : goal.loop-preserved
loop-preserved c = record {
  len = grind (arith, common_steps);
  groups = λ k g e.
      ⊎_elim (λ h. c.loop.invariant.groups k g h)
      (λ h. group_empty (names_at c.args.section k) g (ap (λ x. x.lines.items) (sym h) ∙ c.new.ensures.lines)
      (ap (λ x. x.first) (sym h) ∙ c.new.ensures.first))
      (slice_get-push_cases c.loop.groups.items k c.new.result g (ap (λ xs. slice_get xs k) (sym c.in_ok-push.ensures.items) ∙ e));
}
