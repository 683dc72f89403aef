use Rattle.std.proofs.Common.{ℕ, List, length, subst, sym}
use Rattle.mx_link.specs.Origins.{from_target}
use Rattle.mx_link.specs.Linked.{linked_code}
use Rattle.mx_image.specs.Contents.{LinksFit}
use Rattle.mx_isa.specs.Board.{board}
use Rattle.mx_command.proofs.Links.{links_fit}
use Rattle.mx_command.proofs.from_source.image_file.Goals as goal

pub returns-clause-fit : goal.returns-clause-fit
returns-clause-fit c =
    let source = c.args.program.source in
    let linked = c.args.program.linked in
    let k = c.requires in
    subst (λ (code : List ℕ). LinksFit (length code) linked.links.items) (sym k.code)
    (subst (λ (links : List ℕ). LinksFit (length (linked_code from_target source board k.sites)) links) (sym k.links)
    (links_fit from_target source k.sites c.statements-statements.ensures.source))
