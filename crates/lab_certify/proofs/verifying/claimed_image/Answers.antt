use Rattle.std.proofs.Common.{◌≡◌, ℕ, List, sym, ap, ◌∙◌, subst}
use Rattle.std.specs.Prelude.{IfOk}
use Rattle.mx_isa.specs.Board.{board}
use Rattle.mx_layout.proofs.Sited.{blocks_in-sites}
use Rattle.mx_link.specs.Origins.{as_wanted}
use Rattle.mx_link.specs.Linked.{linked_code}
use Rattle.mx_link.specs.Parts.{sites_of}
use Rattle.lab_certify.specs.Verified.{counts_of}
use Rattle.lab_certify.proofs.verifying.claimed_image.Goals as goal

pub returns-clause-code : goal.returns-clause-code
returns-clause-code c =
    let l = c.args.layout.now in
    let heads = c.args.heads.now in
    let blocks = blocks_in-sites l.blocks.items l.plans.items l.starts.items c.requires.laid.plans c.requires.laid.starts in
    subst (λ (counts : List ℕ). IfOk c.image_wanted.result
    (λ image. image.code.items ≡ linked_code (as_wanted counts) c.args.source.now board (sites_of l)))
    (c.as_slice-2.ensures.value ∙ c.in_ok-counts.ensures ∙ ap (λ bs. counts_of bs heads) (c.as_slice.ensures.value ∙ sym blocks))
    c.image_wanted.ensures.code
