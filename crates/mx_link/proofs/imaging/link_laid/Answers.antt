use Rattle.std.proofs.Common.{suc, ◌+◌, ◌≡◌, length, ap, ◌∙◌, arith}
use Rattle.mx_link.specs.Linked.{link_map}
use Rattle.mx_link.specs.Parts.{filling_of, sites_of, link_in}
use Rattle.mx_link.proofs.Laid.{laid_out_at}
use Rattle.mx_link.proofs.Relinked.{same_code, same_words, links_listed}
use Rattle.mx_link.proofs.imaging.link_laid.Goals as goal

pub linked-requires : goal.linked-requires
linked-requires c = laid_out_at c.args.source.now c.args.place c.args.layout c.requires

pub returns-clause-linked : goal.returns-clause-linked
returns-clause-linked c =
    let l = c.args.layout in
    let source = c.args.source.now in
    let told = c.in_ok-program.ensures in
    let map = link_map c.args.place (sites_of l) in
    record {
      code = told.code ∙ same_code (filling_of c.args.slots) source (link_in l) map (sites_of l) told.source c.requires.links;
      user_data = told.user_data ∙ same_words source (link_in l) map told.source c.requires.links;
      links = ap (λ v. v.items) told.links ∙ links_listed map l.links.items 0 (suc (length source.statements))
          (omega (arith, c.requires.links_count)) (λ k low. let at : k ≡ 0 + k = omega arith in c.requires.links k (omega arith) ∙ ap map at);
      origin = told.origin;
      noops = told.noops;
      copies = told.copies;
      proposals = told.proposals;
      rejected = told.rejected;
    }
