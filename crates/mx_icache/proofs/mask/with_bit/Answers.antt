use Rattle.mx_icache.proofs.Bits.{is_set-set}
use Rattle.mx_icache.proofs.mask.with_bit.Goals as goal

pub returns : goal.returns
returns c = record { bits = λ j. is_set-set c.args.mask c.args.bit j c.requires }
