use Rattle.std.proofs.Common.{refl, sym, ap, ◌∙◌}
use Rattle.mx_link.proofs.Wanted.{asked_at}
use Rattle.mx_link.specs.Parts.{sites_of}
use Rattle.mx_squash.specs.declared.Copied.{Copied}
use Rattle.lab_certify.specs.Verified.{goal_in}
use Rattle.mx_plans.proofs.Asked.{ok_asked}
use Rattle.lab_certify.proofs.Same.{alike_same, alike_other}
use Rattle.lab_certify.proofs.checking.check_copy.Goals as goal

pub returns-then-are_alike-clause-may : goal.returns-then-are_alike-clause-may
returns-then-are_alike-clause-may c = λ s e.
    let l = c.args.layout.now in
    let n = c.args.head.now.copies in
    let asked = asked_at l c.as_slice.result.now c.as_slice-2.result.now c.as_slice-3.result.now c.as_slice.ensures.value c.as_slice-2.ensures.value
    c.as_slice-3.ensures.value c.args.k c.copies_asked-asked.result n c.copies_asked-asked.ensures s e in
    let granted = ok_asked n s (goal_in (sites_of l) s) c.in-Ok.copied (sym c.in-Ok.is ∙ asked) in (
      granted.allowed,
      alike_same c.in-Ok.copied.squash c.args.head.now.squashes c.are_alike.result c.are_alike.ensures c.if-are_alike.true
          ∙ ap (λ (x : Copied). x.squash) granted.is,
    )

pub returns-else-are_alike-clause-rejected : goal.returns-else-are_alike-clause-rejected
returns-else-are_alike-clause-rejected c = λ s e.
    let l = c.args.layout.now in
    let n = c.args.head.now.copies in
    let asked = asked_at l c.as_slice.result.now c.as_slice-2.result.now c.as_slice-3.result.now c.as_slice.ensures.value c.as_slice-2.ensures.value
    c.as_slice-3.ensures.value c.args.k c.copies_asked-asked.result n c.copies_asked-asked.ensures s e in
    let granted = ok_asked n s (goal_in (sites_of l) s) c.in-Ok.copied (sym c.in-Ok.is ∙ asked) in (
      refl,
      granted.allowed,
      λ same. alike_other c.in-Ok.copied.squash c.args.head.now.squashes c.are_alike.result c.are_alike.ensures
          c.if-are_alike.false (same ∙ sym (ap (λ (x : Copied). x.squash) granted.is)),
    )
