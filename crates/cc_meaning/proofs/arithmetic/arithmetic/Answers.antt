use Rattle.std.proofs.Common.{◌≡◌, ◌^◌, ◌-◌, ◌/◌, arith}
use Rattle.std.proofs.lemmas.Nat.Bits.{ones_shr}
use Rattle.std.proofs.lemmas.Nat.{pow_pos}
use Rattle.cc_meaning.proofs.arithmetic.arithmetic.Goals as goal

pub returns-else-a-lt2147483648 : goal.returns-else-a-lt2147483648
returns-else-a-lt2147483648 c =
    let e : 4294967295 / 2 ^ c.args.count ≡ 2 ^ (32 - c.args.count) - 1 = ones_shr 32 c.args.count (omega arith) in
    grind (arith, e, pow_pos (32 - c.args.count))
