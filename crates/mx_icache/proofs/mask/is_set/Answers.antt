use Rattle.std.proofs.Common.{ap, nat_eq}
use Rattle.std.proofs.lemmas.Nat.Bits.{shr_and_one}
use Rattle.mx_icache.specs.LineSets.{is_set}
use Rattle.mx_icache.proofs.mask.is_set.Goals as goal

pub returns : goal.returns
unfolding is_set
returns c = ap (λ b. nat_eq b 1) (shr_and_one c.args.mask c.args.word)
