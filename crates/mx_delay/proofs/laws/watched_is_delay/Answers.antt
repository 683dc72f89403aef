use Rattle.mx_delay.specs.Clean.{watch_start}
use Rattle.mx_delay.proofs.Watched.{watched_at}
use Rattle.mx_delay.proofs.laws.watched_is_delay.Goals as goal

pub returns : goal.returns
returns c = λ code inside p input data_words n. watched_at code inside p input n (watch_start p data_words)
