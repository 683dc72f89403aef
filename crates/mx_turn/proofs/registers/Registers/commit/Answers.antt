use Rattle.std.proofs.Common.{sym, ap, ◌∙◌}
use Rattle.std.specs.Prelude.{slice_index}
use Rattle.mx_isa.specs.declared.inst.Inst.{Inst}
use Rattle.mx_isa.specs.Words.{write}
use Rattle.mx_isa.specs.Effect.{Change}
use Rattle.mx_turn.specs.Commits.{change_of}
use Rattle.mx_turn.proofs.Moves.{moves_from}
use Rattle.mx_turn.proofs.registers.Registers.commit.Goals as goal

pub returns-in-MoveFrom-clause-regs : goal.returns-in-MoveFrom-clause-regs
returns-in-MoveFrom-clause-regs c =
    c.move_from.ensures.regs
    ∙ moves_from c.args.user c.args.self.now c.in-MoveFrom.dest c.in-MoveFrom.special c.args.at c.args.memory.now
    ∙ ap (λ (i : Inst). let x : Change = change_of c.args.user c.args.self.now i c.args.at c.args.memory.now in
    write (slice_index c.args.self.now.file) x.dest x.value)
    (sym c.in-MoveFrom.is)
