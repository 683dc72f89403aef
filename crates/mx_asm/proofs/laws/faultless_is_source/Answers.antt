use Rattle.mx_asm.proofs.Sourced.{faultless_source}
use Rattle.mx_asm.proofs.laws.faultless_is_source.Goals as goal

pub returns : goal.returns
returns c = faultless_source
