use Rattle.std.proofs.Common.{◌≡◌, ℕ, ⊎_elim, arith, subst, [], Some, sym, ap, ◌∙◌, refl, ◌==◌, false, true, cond, length, ◌<◌, ◌++◌, ◌∷◌, codes}
use Rattle.std.specs.List.{slice_get}
use Rattle.std.proofs.lemmas.Bool.Decides.{nat_tests}
use Rattle.std.proofs.lemmas.Option.{slice_get_within, slice_get_read}
use Rattle.mx_source.specs.Names.{name_bytes}
use Rattle.mx_source.specs.Sections.{names_at}
use Rattle.mx_source.specs.Groups.{IsGroup}
use Rattle.mx_source.proofs.Grouped.{slice_get-set_cases, group_added, group_kept}
use Rattle.mx_source.proofs.grouping.add_label.Goals as goal

same : (j k : ℕ) → k ≡ j → (j == k) ≡ true
same j k e = grind (arith, nat_tests)

other : (j k : ℕ) → (k ≡ j → ⊥) → (j == k) ≡ false
other j k e = grind (arith, nat_tests)

pub returns-in_ok-add-clause-groups : goal.returns-in_ok-add-clause-groups
returns-in_ok-add-clause-groups c = λ labels was k g e.
    let j = c.in-Some.k in
    let groups = c.args.groups.now.items in
    let names = names_at c.args.section k in
    let label = c.args.label.now in
    let name = name_bytes c.args.name.now in
    let old = c.index_mut.result.now in
    let short : j < length groups = omega (arith, c.len.ensures, c.args.groups.now.ok) in
    let value = c.index_mut.ensures.value in
    let here : slice_get groups j ≡ Some old = slice_get_read groups (length groups) j old refl short value in
    ⊎_elim
    (λ h. let named : names label ≡ true = sym (c.in-Some.ensures k) ∙ same j k h.0 in
    let bytes : c.add.new.self.lines.items ≡ old.lines.items ++ (name ++ codes ":\n") =
    c.in_ok-add.ensures.lines ∙ ap (λ t. old.lines.items ++ (t ++ codes ":\n")) c.bytes.ensures in
    let first : c.add.new.self.first ≡ cond (length old.lines.items == 0) (length name) old.first =
    c.in_ok-add.ensures.first ∙ ap (λ t. cond (length old.lines.items == 0) (length t) old.first) c.bytes.ensures in
    subst (IsGroup names (labels ++ (name, label) ∷ [])) h.1
    (group_added names labels name label old c.add.new.self named (was k old (ap (slice_get groups) h.0 ∙ here)) bytes first))
    (λ h. group_kept names labels name label g (sym (c.in-Some.ensures k) ∙ other j k h.0) (was k g h.1))
    (slice_get-set_cases groups j k c.add.new.self g e)

pub returns-else-k-len-clause-groups : goal.returns-else-k-len-clause-groups
returns-else-k-len-clause-groups c = λ labels was k g e.
    let j = c.in-Some.k in
    let short = slice_get_within c.args.groups.now.items k g e in
    let apart : k ≡ j → ⊥ = λ q. omega (arith, c.len.ensures, c.args.groups.now.ok) in
    group_kept (names_at c.args.section k) labels (name_bytes c.args.name.now) c.args.label.now g (sym (c.in-Some.ensures k) ∙ other j k apart) (was k g e)

pub returns-in_default-clause-groups : goal.returns-in_default-clause-groups
returns-in_default-clause-groups c = λ labels was k g e.
    group_kept (names_at c.args.section k) labels (name_bytes c.args.name.now) c.args.label.now g (sym (c.in_default.ensures k)) (was k g e)
