-- The answer of a run of a machine.
use Rattle.std.specs.Prelude.{ℕ, ◌++◌, cond, min, List, Option, option_map}
use Rattle.cmd_answer.specs.declared.Status.TheVariants.{Halted, OutOfBudget}
use Rattle.cmd_answer.specs.Answer.{Answer, prints}
use Rattle.mx_turn.specs.Handler.{shipped}
use Rattle.mx_turn.specs.Program.{Program, program_of}
use Rattle.mx_turn.specs.Run.{MachineRun, run_of}
use Rattle.mx_report.specs.declared.Dump.{Dump}
use Rattle.cmd_options.specs.declared.Limits.{Limits}
use Rattle.mx_report.specs.Driving.{trace_text}
use Rattle.mx_report.specs.Report.{report_text}

-- the data words that the report shows: none where no first word is asked for
abbrev pub dump_of : Limits → Option Dump
dump_of limits = option_map (λ at. record { at = at; count = limits.count }) limits.dump

-- the trace and the report of a run
abbrev pub run_text : MachineRun → List ℕ → List ℕ → Option Dump → List ℕ
run_text r trace code dump = trace ++ report_text r.halted r.counts r.console code r.last.core dump

-- the answer of a program whose image has these code words, with requests at these cycles
unfoldable pub program_answer : Program → List ℕ → List ℕ → Limits → Answer
program_answer p code requests limits =
    let r = run_of p requests limits.budget in
    prints (cond r.halted Halted OutOfBudget) (run_text r (trace_text p requests (min limits.trace limits.budget)) code (dump_of limits))

-- the answer of an image, with an input or none, under the shipped handler
abbrev pub image_answer : List ℕ → List ℕ → Option (List ℕ) → List ℕ → Limits → Answer
image_answer code user_data input requests limits = program_answer (program_of shipped code user_data input) code requests limits
