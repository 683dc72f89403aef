-- What `share` promises of two sources that are accepted, whatever interrupts come.
use Rattle.std.specs.Prelude.{◌≡◌, ◌++◌, ℕ, ◌+◌, cond, true, false, List, Option, Some}
use Rattle.mx_squash.specs.Copies.{Site}
use Rattle.mx_turn.specs.Program.{Program}
use Rattle.mx_turn.specs.Run.{MachineRun, run_of}
use Rattle.law_link.specs.Runs.{Linking}
use Rattle.mx_tasks.specs.Places.{lower, upper}
use Rattle.mx_tasks.specs.Sharing.{task_console}
use Rattle.law_tasks.specs.Meant.{shared_program, MeanTheirSources}
use Rattle.law_tasks.specs.Sources.{IsSharingText, linked_text, IsUnstuckAt}
use Rattle.cmd_share.specs.Runs.{shared_text}
use Rattle.cmd_answer.specs.declared.FileKind.TheVariants.{First, Second}
use Rattle.cmd_answer.specs.declared.Status.{Status}
use Rattle.cmd_answer.specs.declared.Status.TheVariants.{Halted, OutOfBudget}
use Rattle.cmd_table.specs.Commands.{Command, Share}
use Rattle.mx_command.specs.Accepted.{Held, Holds, AreRequests}
use Rattle.law_link.specs.Matches.{block_ahead}

-- `share` is asked for, of two texts that may share the machine, and the interrupt file that is named can be used
pub record AcceptedPair (asked : Option Command) (held : Held) : Type 0 where
  pub first_name : List ℕ
  pub second_name : List ℕ
  pub interrupts : Option (List ℕ)
  pub budget : ℕ
  pub asks : asked ≡ Some (Share first_name second_name interrupts budget)
  pub first : List ℕ
  pub second : List ℕ
  pub is_first : Holds held First first_name first
  pub is_second : Holds held Second second_name second
  pub lower_sites : List Site
  pub upper_sites : List Site
  pub first_shares : IsSharingText lower first lower_sites
  pub second_shares : IsSharingText upper second upper_sites
  pub requests : List ℕ
  pub are_requests : AreRequests held interrupts requests

module _ (asked : Option Command) (held : Held) (a : AcceptedPair asked held) where
  -- the two linked programs
  abbrev pub first_linked : Linking
  first_linked = linked_text lower a.first a.lower_sites

  abbrev pub second_linked : Linking
  second_linked = linked_text upper a.second a.upper_sites

  -- what the machine runs, and its run
  abbrev pub pair_program : Program
  pair_program = shared_program first_linked second_linked

  abbrev pub pair_run : MachineRun
  pair_run = run_of pair_program a.requests a.budget

  -- the status says how the run ended, exactly its report was put out, and where neither meaning is stuck within the budget and a block more, both
  -- programs do what their sources mean
  pub record PairHeadline (result : Status) (before after : List ℕ) : Type 0 where
    pub status : result ≡ cond pair_run.halted Halted OutOfBudget
    pub output : after ≡ before ++
        (shared_text pair_run.halted pair_run.counts (task_console pair_program a.requests true a.budget) (task_console pair_program a.requests false a.budget))
    pub means : IsUnstuckAt lower first_linked.source (a.budget + block_ahead) → IsUnstuckAt upper second_linked.source (a.budget + block_ahead)
        → MeanTheirSources pair_program first_linked second_linked a.requests a.budget
