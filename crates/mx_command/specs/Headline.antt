-- The headline: what `run` promises of a source that is accepted, whatever interrupts come.
use Rattle.std.specs.Prelude.{◌≡◌, ◌++◌, ◌≢◌, ℕ, ◌+◌, ◌≤◌, cond, min, true, List, length, Option}
use Rattle.mx_isa.specs.declared.board.TheConstants.{DATA_BASE}
use Rattle.mx_io.specs.Counts.{Rose}
use Rattle.mx_io.specs.Shelves.{Counts}
use Rattle.mx_source.specs.SourceValue.{SourceValue}
use Rattle.mx_source.specs.Meaning.{Run, meaning, HaltsIn}
use Rattle.mx_delay.specs.Prefixes.{IsPrefix}
use Rattle.mx_link.specs.Origins.{from_target}
use Rattle.mx_link.specs.Linked.{linked_code}
use Rattle.mx_turn.specs.Run.{MachineRun, bound}
use Rattle.mx_report.specs.Driving.{trace_text}
use Rattle.cmd_simulate.specs.Simulated.{dump_of, run_text}
use Rattle.cmd_answer.specs.declared.Status.{Status}
use Rattle.cmd_answer.specs.declared.Status.TheVariants.{Halted, OutOfBudget, ReadFault, WriteFault}
use Rattle.mx_asm.specs.Texts.{source_of}
use Rattle.mx_isa.specs.Board.{board}
use Rattle.law_end_to_end.specs.EndToEnd.{source_program, source_run, IsUnstuck, EndsAsMeant}
use Rattle.cmd_table.specs.Commands.{Command}
use Rattle.mx_command.specs.Accepted.{Held, Accepted}
use Rattle.law_link.specs.Matches.{block_ahead}

-- no count of faults rose: of the shelf in reading and in writing, and of the sink
pub record AreQuiet (counts counts' : Counts) (writes writes' puts puts' : ℕ) : Type 0 where
  pub reading : ¬ Rose counts.faults counts'.faults
  pub writing : ¬ Rose writes writes'
  pub putting : ¬ Rose puts puts'

-- the status is no fault of the outside
pub record IsNoFault (result : Status) : Type 0 where
  pub no_read_fault : result ≢ ReadFault
  pub no_write_fault : result ≢ WriteFault

module _ (asked : Option Command) (held : Held) (a : Accepted asked held) where
  abbrev pub accepted_source : SourceValue
  accepted_source = source_of DATA_BASE a.text

  -- what its linked code does on the pipelined machine
  abbrev pub accepted_run : MachineRun
  accepted_run = source_run accepted_source a.sites a.requests a.input a.limits.budget

  -- the trace and the report of that run
  abbrev pub accepted_text : List ℕ
  accepted_text =
      let trace = trace_text (source_program accepted_source a.sites a.input) a.requests (min a.limits.trace a.limits.budget) in
      run_text accepted_run trace (linked_code from_target accepted_source board a.sites) (dump_of a.limits)

  -- what the source means, executed one statement after the other
  abbrev pub meant : ℕ → Run
  meant n = meaning accepted_source board a.input n

  -- where the meaning is not stuck within the budget and a block more
  abbrev pub WhereUnstuck : Type 0 → Type 0
  WhereUnstuck promise = IsUnstuck accepted_source a.input (a.limits.budget + block_ahead) → promise

  pub record Headline (result : Status) (before after : List ℕ) : Type 0 where
    -- it reports what the machine does
    pub status : result ≡ cond accepted_run.halted Halted OutOfBudget
    pub output : after ≡ before ++ accepted_text
    -- its console is a prefix of the meaning's
    pub sends_a_prefix : WhereUnstuck (IsPrefix accepted_run.console (meant (a.limits.budget + block_ahead)).console)
    -- if it halts, the meaning halts, with its console, registers and data
    pub halts_as_meant : WhereUnstuck (accepted_run.halted ≡ true
        → (n : ℕ) × (n ≤ a.limits.budget) × EndsAsMeant accepted_source a.sites a.input accepted_run n)
    -- it halts where the meaning halts in n statements and the budget is 9 n + 96 k + 16 for k requests
    pub halts_in_time : (n : ℕ) → HaltsIn accepted_source board a.input n → bound n (length a.requests) ≤ a.limits.budget
        → accepted_run.halted ≡ true
    -- and it sends what the meaning sends in m statements
    pub sends_in_time : WhereUnstuck ((m : ℕ) → bound (m + block_ahead) (length a.requests) ≤ a.limits.budget
        → IsPrefix (meant m).console accepted_run.console)
