-- The trace of a run, a line for each of its first cycles.
use Rattle.std.specs.Prelude.{ℕ, zero, suc, cond, List, [], ◌++◌}
use Rattle.mx_turn.specs.Program.{Program, state_after, answer_after}
use Rattle.mx_turn.specs.Run.{is_requested, bits}
pub use Rattle.mx_report.specs.Trace.{trace_line}

-- the line of cycle n; none once the machine has halted
abbrev pub cycle_line : Program → List ℕ → ℕ → List ℕ
cycle_line p requests n =
    cond (state_after p (bits requests n)).halted []
    (trace_line n (answer_after p (bits requests n) (is_requested requests n)) (state_after p (bits requests (suc n))).shown)

-- the lines of the first n cycles
abbrev pub trace_text : Program → List ℕ → ℕ → List ℕ
trace_text p requests zero = []
trace_text p requests (suc n) = trace_text p requests n ++ cycle_line p requests n
