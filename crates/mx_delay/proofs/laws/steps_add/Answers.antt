use Rattle.mx_delay.specs.Delay.{delay_start}
use Rattle.mx_delay.proofs.Steps.{for_add}
use Rattle.mx_delay.proofs.laws.steps_add.Goals as goal

pub returns : goal.returns
returns c = λ code p input data_words m n. for_add code p input m n (delay_start p data_words)
