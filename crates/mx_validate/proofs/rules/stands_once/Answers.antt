use Rattle.std.proofs.Common.{sym, ◌∙◌}
use Rattle.std.proofs.lemmas.Bool.{false≢true}
use Rattle.mx_validate.proofs.Listed.{once_from_parts, once_below, once_all}
use Rattle.mx_validate.proofs.rules.stands_once.Goals as goal

pub returns-then-are_below : goal.returns-then-are_below
returns-then-are_below c = (
  λ t. once_from_parts c.args.n c.args.items.now (c.are_below.ensures.0 c.if-are_below.true) (c.are_all_there.ensures.0 t),
  λ o. c.are_all_there.ensures.1 (once_all c.args.n c.args.items.now o),
)

pub returns-else-are_below : goal.returns-else-are_below
returns-else-are_below c = (
  λ t. absurd (false≢true (sym c.if-are_below.false ∙ t)),
  λ o. c.are_below.ensures.1 (once_below c.args.n c.args.items.now o),
)
