use Rattle.std.proofs.Common.{◌≡◌, ◌-◌, ◌++◌, List, Bool}
use Rattle.mx_isa.specs.Words.{reg}
use Rattle.mx_text.specs.Text.{word_text, register_line, lines_from}
use Rattle.mx_turn.specs.Program.{Program, state_after}
use Rattle.mx_report.proofs.reports.push_registers.Given as goal

abbrev pub invariant-loop-n : goal.invariant-loop-n
invariant-loop-n g l =
    (p : Program) (h : List Bool) → g.M.Machine.stands l.machine p h →
    l.text.items ++ lines_from (λ n. register_line n (word_text (reg (state_after p h).core.regs n))) (32 - l.n) l.n
    ≡ l.fn.text.items ++ lines_from (λ n. register_line n (word_text (reg (state_after p h).core.regs n))) 31 1
