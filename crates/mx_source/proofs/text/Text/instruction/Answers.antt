use Rattle.mx_source.proofs.text.Text.instruction.Goals as goal

pub returns-in-MoveFrom : goal.returns-in-MoveFrom
returns-in-MoveFrom c = rw c.in-MoveFrom.is c.two-in-MoveFrom.ensures
