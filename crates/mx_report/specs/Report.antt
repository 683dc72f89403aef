-- The report of a run.
use Rattle.std.specs.Prelude.{ℕ, ◌-◌, min, Bool, cond, List, [], ◌++◌, length, codes, Option, Some, None}
use Rattle.mx_isa.specs.declared.board.TheConstants.{DATA_END}
use Rattle.mx_isa.specs.Words.{Words, reg}
use Rattle.mx_isa.specs.Effect.{Core}
use Rattle.mx_code.specs.NoOps.{noops_in}
use Rattle.mx_text.specs.Text.{word_text, line, named_line, count_line, register_line, lines_from, word_line, console_lines}
use Rattle.mx_turn.specs.Counted.{Counted}
use Rattle.mx_report.specs.declared.reports.Dump.{Dump}

abbrev pub counts_text : Counted → List ℕ
counts_text c =
    (((count_line (codes "cycles") c.cycles ++ count_line (codes "fetches") c.fetches) ++ count_line (codes "misses") c.misses)
    ++ count_line (codes "squashes") c.squashes) ++ count_line (codes "interrupts") c.interrupts

abbrev pub words_text : List ℕ → List ℕ
words_text code = count_line (codes "words") (length code) ++ count_line (codes "noops") (noops_in code)

abbrev pub registers_text : Core → List ℕ
registers_text core =
    (line (codes "registers") ++ lines_from (λ n. register_line n (word_text (reg core.regs n))) 31 1)
    ++ named_line (codes "md") (word_text core.md)

-- the words of a dump, which end at 65535
abbrev pub dump_text : Words → Option Dump → List ℕ
dump_text mem None = []
dump_text mem (Some dump) = line (codes "data") ++ lines_from (λ a. word_line a (mem a)) (min dump.count (DATA_END - dump.at)) dump.at

-- what a halt adds
abbrev pub last_text : Bool → Core → Option Dump → List ℕ
last_text halted core dump = cond halted (registers_text core ++ dump_text core.mem dump) []

-- how the run ended, its counts, those of the image's code, and its console
abbrev pub head_text : Bool → Counted → List ℕ → List ℕ → List ℕ
head_text halted counts console code =
    ((line (cond halted (codes "halted") (codes "out of budget")) ++ counts_text counts) ++ words_text code) ++ console_lines console

-- the report of a run; registers, MD and the words of a dump come at a halt alone
unfoldable pub report_text : Bool → Counted → List ℕ → List ℕ → Core → Option Dump → List ℕ
report_text halted counts console code core dump = head_text halted counts console code ++ last_text halted core dump
