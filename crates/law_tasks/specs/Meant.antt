-- What two programs that share the machine do, told by what their sources mean.
use Rattle.std.specs.Prelude.{◌≡◌, ℕ, suc, ◌+◌, ◌<◌, ◌≤◌, true, false, cond, not, List, length, None}
use Rattle.mx_source.specs.Meaning.{HaltsIn}
use Rattle.mx_link.specs.Linked.{linked_data}
use Rattle.mx_delay.specs.Prefixes.{IsPrefix}
use Rattle.mx_turn.specs.Program.{Program}
use Rattle.mx_turn.specs.Run.{run_of}
use Rattle.law_interrupts.specs.Saves.{takes_in}
use Rattle.law_link.specs.Runs.{Linking, IsLinking, words_in, linked_run}
use Rattle.law_link.specs.Matches.{block_ahead}
use Rattle.law_link.specs.Laws.{meant, IsSafe}
use Rattle.mx_tasks.specs.Sharing.{shared, task_console, task_passed, first_is_current}
use Rattle.mx_tasks.specs.Images.{shared_code, shared_data}
use Rattle.mx_tasks.specs.Places.{lower, upper}
use Rattle.mx_tasks.specs.Changes.{FetchesSwitch}

abbrev pub data_words : Linking → List ℕ
data_words l = linked_data l.source l.place l.sites

-- two linked programs without input, each at its place, where the first has no more words than there is room for
pub record AreShared (first second : Linking) : Type 0 where
  pub first_links : IsLinking first
  pub second_links : IsLinking second
  pub first_place : first.place ≡ lower
  pub second_place : second.place ≡ upper
  pub first_input : first.source.input ≡ None
  pub second_input : second.source.input ≡ None
  pub code_fits : length (words_in first) ≤ 30000
  pub data_fits : length (data_words first) ≤ 32512

-- the machine's program: the switching handler, and both programs in one image
abbrev pub shared_program : Linking → Linking → Program
shared_program first second = shared (shared_code (words_in first) (words_in second)) (shared_data (data_words first) (data_words second))

-- the meaning halts within so many statements, and these bytes are its whole console
pub record HaltsWith (l : Linking) (bytes : List ℕ) (budget : ℕ) : Type 0 where
  pub statements : ℕ
  pub few : statements ≤ budget
  pub halts : HaltsIn l.source l.place l.bytes statements
  pub console : bytes ≡ (meant l statements).console

-- In a run of the machine's program each console is a prefix of the console of its program's meaning. Where the run halted, the meaning of the
-- program that is current then halts, with its console. And each interrupt changes to the other program, in the state in which it was left.
pub record MeanTheirSources (q : Program) (first second : Linking) (requests : List ℕ) (budget : ℕ) : Type 0 where
  pub first_sent : IsPrefix (task_console q requests true budget) (meant first (budget + block_ahead)).console
  pub second_sent : IsPrefix (task_console q requests false budget) (meant second (budget + block_ahead)).console
  pub halts : (run_of q requests budget).halted ≡ true
      → let is_first = first_is_current q requests budget in
      HaltsWith (cond is_first first second) (task_console q requests is_first budget) budget
  pub switches : (n : ℕ) → n < budget → takes_in q requests n ≡ true
      → FetchesSwitch q requests n (λ b. (cond b second first).place)
      (λ b. linked_run (cond b second first) (task_passed q requests (not b) (suc n)))

-- So it is where neither meaning is stuck within 64 statements more than there are cycles.
abbrev pub SharedProgramsMeanTheirSources : Type 0
SharedProgramsMeanTheirSources =
    (first second : Linking) (requests : List ℕ) (budget : ℕ)
    → AreShared first second
    → IsSafe first (budget + block_ahead)
    → IsSafe second (budget + block_ahead)
    → MeanTheirSources (shared_program first second) first second requests budget
