use Rattle.std.proofs.Common.{◌+◌, ◌*◌, ◌/◌, ◌||◌, ◌∙◌, ap, true, eqb, arith, ◌≡◌}
use Rattle.std.proofs.lemmas.Bool.Decides.{nat_tests}
use Rattle.mx_icache.specs.LineSets.{is_set}
use Rattle.mx_icache.proofs.Bits.{is_set-some}
use Rattle.mx_icache.proofs.mask.with_pair.Goals as goal

pub returns-clause-some : goal.returns-clause-some
returns-clause-some c =
    is_set-some c.with_bit-2.result (c.args.word / 2 * 2 + 1)
    (c.with_bit-2.ensures.bits (c.args.word / 2 * 2 + 1)
    ∙ (let same : eqb (c.args.word / 2 * 2 + 1) (c.args.word / 2 * 2 + 1) ≡ true = grind (arith, nat_tests) in
    ap (λ t. t || is_set c.with_bit.result (c.args.word / 2 * 2 + 1)) same))
