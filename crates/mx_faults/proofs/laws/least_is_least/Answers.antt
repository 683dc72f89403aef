use Rattle.mx_faults.proofs.Least.{the_least}
use Rattle.mx_faults.proofs.laws.least_is_least.Goals as goal

pub returns : goal.returns
returns c = the_least
