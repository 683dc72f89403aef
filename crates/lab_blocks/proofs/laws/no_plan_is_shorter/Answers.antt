use Rattle.lab_blocks.proofs.Shorter.{no_plan_is_shorter}
use Rattle.lab_blocks.proofs.laws.no_plan_is_shorter.Goals as goal

pub returns : goal.returns
returns c = no_plan_is_shorter
