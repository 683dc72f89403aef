use Rattle.law_link.proofs.Shown.{sends}
use Rattle.law_link.proofs.laws.linked_code_sends.Goals as goal

pub returns : goal.returns
returns c = sends
