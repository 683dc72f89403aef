use Rattle.std.proofs.Common.{◌≡◌, ◌<◌, ℕ, List, Bool, get_or, length}
use Rattle.mx_isa.specs.Words.{reg}
use Rattle.mx_turn.specs.Program.{Program, state_after}
use Rattle.mx_report.proofs.registers.registers_of.Given as goal

-- the registers below n are in their places
abbrev pub invariant-loop-n : goal.invariant-loop-n
invariant-loop-n g l = record {
  many : length l.registers ≡ 32;
  read : (p : Program) (h : List Bool) → g.M.Machine.stands l.machine p h → (k : ℕ) → k < l.n → get_or l.registers k 0 ≡ reg (state_after p h).core.regs k;
}
