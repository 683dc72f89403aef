use Rattle.std.proofs.Common.{◌≡◌, ◌+◌, length, drop}
use Rattle.cmd_line.specs.Command.{texts}
use Rattle.mx_command.proofs.Modules.{Continues}
use Rattle.mx_command.proofs.join.read_modules.Given as goal

-- the texts so far are those of the names so far, and what the names that are left perform behind them, all names perform
abbrev pub invariant-loop-name : goal.invariant-loop-name
invariant-loop-name g l = record {
  number : l.number ≡ l.name-index + 1;
  behind : l.number ≡ length l.joiner + 1;
  goes : Continues (g.S.Shelf.told l.fn.shelf) (texts l.names) (texts (drop l.name-index l.names)) l.joiner
      (g.S.Shelf.counts l.fn.shelf)
      (g.S.Shelf.counts l.shelf);
  stays : g.S.Shelf.told l.shelf ≡ g.S.Shelf.told l.fn.shelf;
  writes : g.S.Shelf.write_faults l.shelf ≡ g.S.Shelf.write_faults l.fn.shelf;
}
