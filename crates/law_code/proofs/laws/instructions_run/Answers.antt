use Rattle.law_code.proofs.Running.{instructions_do}
use Rattle.law_code.proofs.laws.instructions_run.Goals as goal

pub returns : goal.returns
returns c = instructions_do
