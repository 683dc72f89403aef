use Rattle.std.proofs.Common.{◌-◌, length, take, drop}
use Rattle.mx_board.proofs.Digits.{front_digits}
use Rattle.mx_board.proofs.requests.number_of.Goals as goal

pub number_of_digits-requires-clause-digits : goal.number_of_digits-requires-clause-digits
number_of_digits-requires-clause-digits c =
    let text = take (length c.args.line.now - c.blanks.result) (drop c.blanks.result c.args.line.now) in
    rw (c.split_at.ensures.front, c.digits.ensures.count) (front_digits text)
