use Rattle.std.proofs.Common.{sym, ◌∙◌}
use Rattle.mx_squash.specs.Copies.{site_of, is_target}
use Rattle.mx_link.specs.Parts.{sites_of}
use Rattle.mx_link.proofs.Wanted.{asked_at}
use Rattle.mx_plans.proofs.Asked.{none_asked, err_asked}
use Rattle.mx_plans.proofs.copies.fault_of.Goals as goal

pub returns-in-Ok : goal.returns-in-Ok
returns-in-Ok c = λ s e.
    let l = c.args.layout.now in
    let asked = asked_at l c.as_slice.result.now c.as_slice-2.result.now c.as_slice-3.result.now c.as_slice.ensures.value c.as_slice-2.ensures.value
    c.as_slice-3.ensures.value c.args.k c.copies_asked-asked.result c.args.count c.copies_asked-asked.ensures s e in
    sym (none_asked c.args.count s (site_of (is_target s.block.end) (sites_of l)) c.in-Ok.field-0 (sym c.in-Ok.is ∙ asked))

pub returns-in-Err : goal.returns-in-Err
returns-in-Err c = λ s e.
    let l = c.args.layout.now in
    let asked = asked_at l c.as_slice.result.now c.as_slice-2.result.now c.as_slice-3.result.now c.as_slice.ensures.value c.as_slice-2.ensures.value
    c.as_slice-3.ensures.value c.args.k c.copies_asked-asked.result c.args.count c.copies_asked-asked.ensures s e in
    sym (err_asked c.args.count s (site_of (is_target s.block.end) (sites_of l)) c.in-Err.rule (sym c.in-Err.is ∙ asked))
