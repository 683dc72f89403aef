use Rattle.std.proofs.Common.{ℕ, List, suc, length, ap, ◌∙◌, arith}
use Rattle.std.specs.Prelude.{slice_index_or}
use Rattle.mx_link.specs.Origins.{from_nowhere}
use Rattle.mx_link.specs.Linked.{link_map}
use Rattle.law_link.proofs.Results.{link_at}
use Rattle.mx_isa.specs.Board.{board}
use Rattle.mx_command.proofs.Links.{code_count, link_between, links_count}
use Rattle.mx_command.proofs.debug.address_of.Goals as goal

pub index-requires : goal.index-requires
index-requires c =
    let k = c.requires.linked in
    let source = c.args.source.now in
    let links = c.args.linked.now.links in
    let count = ap length k.links ∙ links_count (link_map board k.sites) 0 (suc (length source.statements)) in
    let long = links.ok in
    let low = c.requires.within in
    omega (arith, count, long, low)

pub returns-clause-address : goal.returns-clause-address
returns-clause-address c = λ k.
    let source = c.args.source.now in
    let i = c.args.index in
    let low = c.requires.within in
    c.index.ensures
    ∙ ap (λ (l : List ℕ). slice_index_or l i c.index.result.now) k.links
    ∙ link_at (link_map board k.sites) 0 (suc (length source.statements)) i c.index.result.now (omega (arith, low))
    ∙ ap (link_map board k.sites) (omega arith)

pub returns-clause-low : goal.returns-clause-low
returns-clause-low c =
    let k = c.requires.linked in
    let source = c.args.source.now in
    let image = c.args.linked.now.image in
    let here = returns-clause-address c k in
    let most = (link_between 4096 k.sites c.args.index).1 in
    let count = ap length k.code ∙ code_count from_nowhere source k.sites in
    let few = image.code_within in
    let long = image.code.ok in
    omega (arith, here, most, count, few, long)
