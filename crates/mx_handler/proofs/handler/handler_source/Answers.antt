use Rattle.std.proofs.Common.{lit<}
use Rattle.std.proofs.lemmas.Fmt.{decimal_digit}
use Rattle.mx_handler.proofs.handler.handler_source.Goals as goal

pub returns : goal.returns
returns c =
    simp (
      decimal_digit 0 (lit< tt),
      decimal_digit 1 (lit< tt),
      decimal_digit 2 (lit< tt),
      decimal_digit 3 (lit< tt),
      decimal_digit 4 (lit< tt),
      decimal_digit 5 (lit< tt),
    )
