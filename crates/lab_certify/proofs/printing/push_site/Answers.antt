use Rattle.std.proofs.Common.{◌++◌, ◌<◌, refl, sym, ap, ◌∙◌, subst}
use Rattle.std.proofs.lemmas.Option.{slice_get_read, same_Some}
use Rattle.mx_squash.specs.declared.Copied.{Copied}
use Rattle.mx_squash.specs.Copies.{Site}
use Rattle.mx_squash.proofs.Targets.{site, sites_get}
use Rattle.mx_link.specs.Origins.{from_target}
use Rattle.mx_link.specs.Parts.{sites_of}
use Rattle.lab_certify.specs.declared.certificate.Head.{Head}
use Rattle.lab_certify.specs.Printed.{block_line, head_of}
use Rattle.lab_certify.proofs.Same.{on_ok}
use Rattle.lab_certify.proofs.printing.push_site.Goals as goal

pub returns : goal.returns
returns c =
    let l = c.args.layout.now in
    let all = sites_of l in
    let k = c.args.k in
    let text = c.args.text.now.items in
    let block = c.index-2.result.now in
    let plan = c.index-3.result.now in
    let start = c.index.result.now in
    let low = c.requires.within in
    let at = sites_get l.blocks.items l.plans.items l.starts.items k block plan start
    (slice_get_read l.blocks.items _ k block refl low c.index-2.ensures)
    (slice_get_read l.plans.items _ k plan refl (subst (λ n. k < n) (sym c.requires.ready.plans) low) c.index-3.ensures)
    (slice_get_read l.starts.items _ k start refl (subst (λ n. k < n) (sym c.requires.ready.starts) low) c.index.ensures) in
    on_ok c.push_line.result
    (λ h s e.
    h
    ∙ ap (λ (x : Head). text ++ block_line x block plan) c.head_of-head.ensures
    ∙ ap (λ (x : Copied). text ++ block_line (head_of start x) block plan) (c.copied_at-copied.ensures s e)
    ∙ ap (λ (x : Site). text ++ block_line (head_of x.start (from_target all s)) x.block x.plan) (same_Some (site block plan start) s (sym at ∙ e)))
    c.push_line.ensures
