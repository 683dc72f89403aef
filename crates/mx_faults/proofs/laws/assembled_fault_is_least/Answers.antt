use Rattle.std.proofs.Common.{sym, subst}
use Rattle.mx_faults.specs.Found.{IsLeast, text_line}
use Rattle.mx_faults.proofs.Least.{the_least}
use Rattle.mx_faults.proofs.Lines.{assembled_is}
use Rattle.mx_faults.proofs.laws.assembled_fault_is_least.Goals as goal

pub returns : goal.returns
returns c = λ low end text place little within. subst (IsLeast (text_line low end text place)) (sym (assembled_is low end text place little within))
    (the_least (text_line low end text place))
