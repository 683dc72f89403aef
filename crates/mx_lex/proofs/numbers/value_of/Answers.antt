use Rattle.std.proofs.Common.{◌^◌, ◌≤◌, take, get_or, arith}
use Rattle.std.specs.Str.Parse.{digits_value}
use Rattle.std.specs.Char.{digit_value}
use Rattle.std.proofs.lemmas.Int.Digits.{digits_value_more}
use Rattle.std.proofs.Math.Nat.{mul-le-mul}
use Rattle.mx_lex.proofs.Capped.{capped_more}
use Rattle.mx_lex.proofs.numbers.value_of.Goals as goal

pub overflow_mul-value : goal.overflow_mul-value
overflow_mul-value c =
    let small : c.loop-digit.value ≤ 2 ^ 33 = omega (arith, c.loop-digit.invariant) in
    omega (arith, mul-le-mul small c.requires.most)

pub overflow_add-value : goal.overflow_add-value
overflow_add-value c =
    let small : c.loop-digit.value ≤ 2 ^ 33 = omega (arith, c.loop-digit.invariant) in
    omega (arith, mul-le-mul small c.requires.most)

pub loop-digit-preserved : goal.loop-digit-preserved
loop-digit-preserved c =
    let v = digits_value c.args.base (take c.loop-digit.digit-index c.args.digits.now) in
    let more = digits_value_more c.args.base c.args.digits.now c.loop-digit.digit-index (omega arith) in
    let cut = capped_more v c.args.base (digit_value (get_or c.args.digits.now c.loop-digit.digit-index 0)) (2 ^ 33) (omega arith) in
    cc
