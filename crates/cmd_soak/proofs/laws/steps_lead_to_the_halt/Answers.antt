use Rattle.cmd_soak.proofs.Steps.{steps_within-halts}
use Rattle.cmd_soak.proofs.laws.steps_lead_to_the_halt.Goals as goal

pub returns : goal.returns
returns c = λ source n h l. steps_within-halts source n 40009 h l
