use Rattle.std.proofs.Common.{◌≡◌, arith, subst, take, length, Some, sym, ap, ◌∙◌}
use Rattle.std.specs.List.{slice_get}
use Rattle.std.specs.Option.{option_map}
use Rattle.std.proofs.lemmas.Grind.{common_steps}
use Rattle.std.proofs.lemmas.Option.{slice_get-map}
use Rattle.std.proofs.lemmas.List.{take_all, length-map}
use Rattle.mx_source.specs.Names.{name_bytes, named_labels}
use Rattle.mx_source.specs.Groups.{AreGroups}
use Rattle.mx_source.proofs.Grouped.{take-one_more}
use Rattle.mx_source.proofs.grouping.groups.Goals as goal

pub loop-i-preserved : goal.loop-i-preserved
loop-i-preserved c =
    let entries = c.args.labels.now.entries in
    let i = c.loop-i.i in
    let there : slice_get (named_labels entries) i ≡ Some (name_bytes c.in-Some.name.now, c.in-Some.label.now) =
    slice_get-map (λ p. (name_bytes p.0, p.1)) entries i ∙ ap (option_map (λ p. (name_bytes p.0, p.1))) (sym c.in-Some.ensures.entry) in
    record {
      len = grind (arith, common_steps);
      groups = subst (λ ls. AreGroups c.args.section ls c.add_label.new.groups.items)
          (sym (take-one_more (named_labels entries) i (name_bytes c.in-Some.name.now, c.in-Some.label.now) there))
          (c.in_ok-add_label.ensures.groups (take i (named_labels entries)) c.loop-i.invariant.groups);
    }

pub returns-clause-groups : goal.returns-clause-groups
returns-clause-groups c = let e : take c.loop-i.i (named_labels c.args.labels.now.entries) ≡ named_labels c.args.labels.now.entries =
    take_all c.loop-i.i (named_labels c.args.labels.now.entries)
    (let n : length (named_labels c.args.labels.now.entries) ≡ length c.args.labels.now.entries =
    length-map c.args.labels.now.entries (λ p. (name_bytes p.0, p.1))
    in omega (arith, c.len-i-end.ensures.len, c.loop-i-test.false)) in
    subst (λ ls. AreGroups c.args.section ls c.loop-i.groups.items) e c.loop-i.invariant.groups
