use Rattle.law_order.proofs.Order.{keeps_effect}
use Rattle.law_order.proofs.laws.valid_order_keeps_effect.Goals as goal

pub returns : goal.returns
returns c = keeps_effect
