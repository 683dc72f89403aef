use Rattle.law_order.proofs.Order.{stays_clean}
use Rattle.law_order.proofs.laws.valid_order_stays_clean.Goals as goal

pub returns : goal.returns
returns c = stays_clean
