use Rattle.std.proofs.Common.{suc, List, sym, subst}
use Rattle.mx_blocks.specs.declared.block.Item.{Item}
use Rattle.mx_validate.specs.Padded.{items_of}
use Rattle.mx_best.proofs.Searching.{AreKnown, known_behind}
use Rattle.mx_best.proofs.search.may_stand.Goals as goal

pub may_precede-requires-clause-known : goal.may_precede-requires-clause-known
may_precede-requires-clause-known c =
    subst (λ (l : List Item). AreKnown c.args.block.now l) (sym c.behind.ensures)
    (known_behind c.args.block.now (items_of c.args.plan.now) (suc c.args.at) c.requires.known)
