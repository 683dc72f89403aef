use Rattle.std.proofs.Common.{◌∙◌}
use Rattle.mx_board.proofs.Digits.{number_is, digits_are_text}
use Rattle.mx_board.proofs.requests.number_of_digits.Goals as goal

pub returns-in-Ok : goal.returns-in-Ok
returns-in-Ok c =
    c.ok.ensures.value ∙ number_is c.args.digits.now c.parse.result (rw c.in-Ok.ensures.cases.0 at c.parse.ensures.value.0) c.requires.some c.requires.digits

pub returns-in-Err : goal.returns-in-Err
returns-in-Err c = absurd (c.in-Err.ensures.cases.0 (digits_are_text c.args.digits.now c.requires.digits))
