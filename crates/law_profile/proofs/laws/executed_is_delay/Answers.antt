use Rattle.law_profile.proofs.Executed.{executed_as}
use Rattle.law_profile.proofs.laws.executed_is_delay.Goals as goal

pub returns : goal.returns
returns c = executed_as
