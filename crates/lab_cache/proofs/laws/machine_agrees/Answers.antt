use Rattle.lab_cache.proofs.Machine.{machine_agrees}
use Rattle.lab_cache.proofs.laws.machine_agrees.Goals as goal

pub returns : goal.returns
returns c = machine_agrees
