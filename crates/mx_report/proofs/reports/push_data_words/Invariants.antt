use Rattle.std.proofs.Common.{◌≡◌, ◌-◌, ◌++◌, List, Bool}
use Rattle.mx_text.specs.Text.{word_line, lines_from}
use Rattle.mx_turn.specs.Program.{Program, state_after}
use Rattle.mx_report.proofs.reports.push_data_words.Given as goal

abbrev pub invariant-loop-address : goal.invariant-loop-address
invariant-loop-address g l =
    (p : Program) (h : List Bool) → g.M.Machine.stands l.machine p h →
    l.text.items ++ lines_from (λ a. word_line a ((state_after p h).core.mem a)) (l.to - l.address) l.address
    ≡ l.fn.text.items ++ lines_from (λ a. word_line a ((state_after p h).core.mem a)) (l.to - l.from) l.from
