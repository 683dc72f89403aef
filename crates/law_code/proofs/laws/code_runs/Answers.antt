use Rattle.law_code.proofs.Running.{code_goes}
use Rattle.law_code.proofs.laws.code_runs.Goals as goal

pub returns : goal.returns
returns c = code_goes
