use Rattle.std.proofs.Common.{◌≡◌, ℕ, suc, ◌+◌, List, length, sym, ap, ◌∙◌, subst, arith}
use Rattle.mx_blocks.specs.declared.Plan.{Plan}
use Rattle.mx_layout.specs.Kept.{AreKept}
use Rattle.mx_layout.specs.Overlong.{overlong}
use Rattle.mx_link.specs.Origins.{copies_in}
use Rattle.mx_code.specs.NoOps.{noops_in}
use Rattle.mx_link.specs.Linked.{link_map}
use Rattle.mx_link.specs.Parts.{filling_of, sites_of, link_in}
use Rattle.mx_layout.proofs.Sited.{blocks_in-sites}
use Rattle.mx_link.proofs.Relinked.{same_code, same_words, links_listed}
use Rattle.mx_link.proofs.linking.link_with.Goals as goal

pub returns-clause-linked : goal.returns-clause-linked
returns-clause-linked g c =
    let l = c.in_ok-layout.layout in
    let laid = c.in_ok-layout.ensures in
    let told = c.in_ok-linked.ensures in
    let source = c.args.source.now in
    let place = c.args.place in
    let all = sites_of l in
    let agree = laid.links in
    let is = told.source in
    let code = told.code ∙ same_code (filling_of c.args.slots) source (link_in l) (link_map place all) all is agree in record {
      sites = all;
      layout = laid.layout;
      kept = subst (λ (n : ℕ). AreKept g.P.Proposer.proposes n all c.in_ok-linked.field-0.proposals.items) (sym told.rejected)
          (subst (λ (xs : List Plan). AreKept g.P.Proposer.proposes l.rejected all xs) (sym (ap (λ v. v.items) told.proposals)) laid.kept);
      reach = ap (overlong source place) (blocks_in-sites l.blocks.items l.plans.items l.starts.items laid.plans laid.starts) ∙ laid.fits;
      code = code;
      user_data = told.user_data ∙ same_words source (link_in l) (link_map place all) is agree;
      links = ap (λ v. v.items) told.links ∙ links_listed (link_map place all) l.links.items 0 (suc (length source.statements))
          (omega (arith, laid.links_count)) (λ k low. let at : k ≡ 0 + k = omega arith in laid.links k (omega arith) ∙ ap (link_map place all) at);
      origin = told.origin;
      noops = told.noops ∙ ap noops_in code;
      copies = told.copies ∙ ap copies_in told.origin;
    }
