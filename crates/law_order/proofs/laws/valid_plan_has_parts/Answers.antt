use Rattle.law_order.proofs.Split.{has_parts}
use Rattle.law_order.proofs.laws.valid_plan_has_parts.Goals as goal

pub returns : goal.returns
returns c = has_parts
