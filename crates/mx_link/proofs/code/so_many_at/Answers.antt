use Rattle.std.proofs.Common.{sym, ◌∙◌}
use Rattle.mx_squash.specs.Copies.{site_of, is_target}
use Rattle.mx_link.specs.Parts.{sites_of}
use Rattle.mx_link.proofs.Chosen.{asked_wanted, refused_wanted}
use Rattle.mx_link.proofs.Wanted.{asked_at}
use Rattle.mx_link.proofs.code.so_many_at.Goals as goal

pub returns-in-Ok : goal.returns-in-Ok
returns-in-Ok c = λ s e.
    let l = c.args.layout.now in
    let goal_site = site_of (is_target s.block.end) (sites_of l) in
    let asked = asked_at l c.as_slice.result.now c.as_slice-2.result.now c.as_slice-3.result.now c.as_slice.ensures.value c.as_slice-2.ensures.value
    c.as_slice-3.ensures.value c.args.k c.copies_asked-asked.result c.args.count c.copies_asked-asked.ensures s e in
    asked_wanted c.args.count s goal_site c.in-Ok.copied (sym c.in-Ok.is ∙ asked)

pub returns-in-Err : goal.returns-in-Err
returns-in-Err c = λ s e.
    let l = c.args.layout.now in
    let goal_site = site_of (is_target s.block.end) (sites_of l) in
    let asked = asked_at l c.as_slice.result.now c.as_slice-2.result.now c.as_slice-3.result.now c.as_slice.ensures.value c.as_slice-2.ensures.value
    c.as_slice-3.ensures.value c.args.k c.copies_asked-asked.result c.args.count c.copies_asked-asked.ensures s e in
    c.no_copies.ensures ∙ refused_wanted c.args.count s goal_site c.in-Err.field-0 (sym c.in-Err.is ∙ asked)
