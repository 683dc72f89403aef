use Rattle.mx_delay.specs.Clean.{watch_start}
use Rattle.mx_delay.proofs.Watched.{clean_for_fewer}
use Rattle.mx_delay.proofs.laws.clean_for_fewer.Goals as goal

pub returns : goal.returns
returns c = λ code inside p input data_words m n. clean_for_fewer code inside p input m n (watch_start p data_words)
