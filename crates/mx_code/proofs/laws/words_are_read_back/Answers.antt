use Rattle.mx_code.proofs.Rows.{coded, read_back}
use Rattle.mx_code.proofs.laws.words_are_read_back.Goals as goal

pub returns-clause-back : goal.returns-clause-back
returns-clause-back c = read_back

pub returns-clause-codes : goal.returns-clause-codes
returns-clause-codes c = coded
