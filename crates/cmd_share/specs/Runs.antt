-- The answer of a run of two programs that share the machine.
use Rattle.std.specs.Prelude.{ℕ, ◌++◌, Bool, true, false, cond, codes, length, List, Option}
use Rattle.cmd_answer.specs.declared.Status.TheVariants.{Halted, OutOfBudget}
use Rattle.cmd_answer.specs.Answer.{Answer, prints}
use Rattle.cmd_answer.specs.Protocol.{Protocol, Answers}
use Rattle.mx_text.specs.Text.{line, count_line}
use Rattle.mx_turn.specs.Counted.{Counted}
use Rattle.mx_turn.specs.Program.{Program}
use Rattle.mx_turn.specs.Run.{run_of}
use Rattle.mx_report.specs.Report.{counts_text}
use Rattle.cmd_simulate.specs.Machines.{requests_protocol}
use Rattle.mx_tasks.specs.Sharing.{shared, task_console}

-- `NAME N`, the N bytes of a console, and the end of the line
abbrev pub console_of : List ℕ → List ℕ → List ℕ
console_of name bytes = count_line name (length bytes) ++ line bytes

-- how the run ended, its counts, and the console of each program
unfoldable pub shared_text : Bool → Counted → List ℕ → List ℕ → List ℕ
shared_text halted counts first second =
    ((line (cond halted (codes "halted") (codes "out of budget")) ++ counts_text counts) ++ console_of (codes "first") first)
    ++ console_of (codes "second") second

-- the answer of a program that shares the machine among two, with requests at these cycles
unfoldable pub shared_answer : Program → List ℕ → ℕ → Answer
shared_answer q requests budget =
    let r = run_of q requests budget in
    prints (cond r.halted Halted OutOfBudget) (shared_text r.halted r.counts (task_console q requests true budget) (task_console q requests false budget))

-- an image of two programs, with the interrupt file that is named
abbrev pub sharing_protocol : Option (List ℕ) → ℕ → List ℕ → List ℕ → Protocol
sharing_protocol interrupts budget code_words data_words =
    requests_protocol interrupts (λ requests. Answers (shared_answer (shared code_words data_words) requests budget))
