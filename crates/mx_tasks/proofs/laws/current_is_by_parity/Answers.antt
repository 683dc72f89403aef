use Rattle.mx_tasks.proofs.Current.{by_parity, of_current}
use Rattle.mx_tasks.proofs.laws.current_is_by_parity.Goals as goal

pub returns-clause-current : goal.returns-clause-current
returns-clause-current c = by_parity

pub returns-clause-bytes : goal.returns-clause-bytes
returns-clause-bytes c = of_current
