use Rattle.cmd_table.proofs.Numerals.{number_is}
use Rattle.cmd_table.proofs.numbers.number.Goals as goal

pub returns-clause-number : goal.returns-clause-number
returns-clause-number c =
    let e = c.number_within.ensures in
    number_is c.args.low c.args.high c.args.text.now c.number_within.result e.numeral e.value e.range e.none
