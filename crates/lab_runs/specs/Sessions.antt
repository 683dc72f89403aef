-- Sessions of sources that are linked by the plans of a file.
use Rattle.std.specs.Prelude.{◌≡◌, ◌⊎◌, ℕ, Bool, true, List, codes, cond, ltb, length, min, max}
use Rattle.std.specs.Prelude.{Option, Some, None, is_some, option_and_then, option_map}
use Rattle.mx_isa.specs.Board.{board}
use Rattle.mx_io.specs.Shelves.{Told, Counts}
use Rattle.mx_source.specs.declared.Label.{Label}
use Rattle.mx_source.specs.declared.Label.TheVariants.{Code, Data}
use Rattle.mx_source.specs.SourceValue.{SourceValue}
use Rattle.mx_lines.specs.Operands.{label_named}
use Rattle.mx_link.specs.declared.linked.Linked.{Linked}
use Rattle.mx_link.specs.Origins.{from_nowhere}
use Rattle.mx_link.specs.Linked.{IsLinked, link_map}
use Rattle.mx_plans.specs.Files.{LineSaid, marks_of}
use Rattle.mx_plans.specs.Says.{IsProposed}
use Rattle.cmd_answer.specs.Answer.{Answer}
use Rattle.cmd_answer.specs.Protocol.{Performed}
use Rattle.cmd_options.specs.Options.{Files}
use Rattle.cmd_options.specs.declared.SessionLimits.{SessionLimits}
use Rattle.cmd_debug.specs.Sessions.{session_protocol}
use Rattle.lab_failure.specs.declared.failure.LabFailure.{LabFailure}
use Rattle.lab_options.specs.declared.options.DebugOptions.{DebugOptions}
use Rattle.lab_sources.specs.declared.stimulus.Stimulus.{Stimulus}
use Rattle.lab_sources.specs.PlanFiles.{ArePlansOf}
use Rattle.lab_sources.specs.Sources.{IsSourceOf}
use Rattle.lab_sources.specs.Refusals.{IsTooFar}
use Rattle.lab_sources.specs.Stimuli.{AreGiven, IsNoStimulus}

-- the statement of a source of so many at which a label stands, if it is a code label and one stands there
abbrev pub statement_at : ℕ → Label → Option ℕ
statement_at count (Code i) = cond (ltb i count) (Some i) None
statement_at count (Data a) = None

-- the statement at the code label of this name
abbrev pub statement_named : SourceValue → List ℕ → Option ℕ
statement_named source name = option_and_then (statement_at (length source.statements)) (label_named source.labels name)

-- the limits that the options ask for, each held within its range
abbrev pub limits_of : DebugOptions → SessionLimits
limits_of options = record {
  stops = max 1 (min options.stops 1000);
  watch = max 256 (min options.watch 65535);
  budget = min options.budget 100000000;
}

-- the files of a session, by the names that they have in memory
abbrev pub session_files : Files
session_files = record { interrupts = Some (codes "interrupts"); input = Some (codes "input") }

-- the answer is that of the session with an image, stopped at an address, which reads the cycles and the input from a shelf that holds them
-- and counts no fault
pub record IsSessionOf (code user_data : List ℕ) (asks : Bool) (address : ℕ) (cycles input : List ℕ) (limits : SessionLimits)
    (answer : Answer) : Type 0 where
  pub told : Told
  pub before : Counts
  pub after : Counts
  pub tells : told.tells ≡ true
  pub cycles_held : told.held (codes "interrupts") ≡ Some cycles
  pub input_held : told.held (codes "input") ≡ Some input
  pub quiet : after.faults ≡ 0
  pub performed : Performed told (session_protocol session_files limits code user_data asks address) before after answer

-- the session of the source, linked without copies by what the lines say, is stopped at the link of a statement
pub record IsSession (source : SourceValue) (lines : List LineSaid) (index : ℕ) (cycles input : List ℕ) (limits : SessionLimits)
    (answer : Answer) : Type 0 where
  pub linked : Linked
  pub is : IsLinked (IsProposed source (marks_of lines)) from_nowhere source board linked
  pub session : IsSessionOf linked.image.code.items linked.image.user_data.items (is_some source.input) (link_map board is.sites index)
      cycles input limits answer

-- the named interrupt file and input were read, and the answer is that of the session of the source with their bytes
pub record IsSessionGiven (told : Told) (options : DebugOptions) (source : SourceValue) (lines : List LineSaid) (index : ℕ)
    (before after : Counts) (answer : Answer) : Type 0 where
  pub stimulus : Stimulus
  pub given : AreGiven told (option_map (λ s. s.now) options.stimulus.interrupts) (option_map (λ s. s.now) options.stimulus.input)
      before after stimulus
  pub session : IsSession source lines index stimulus.cycles.items stimulus.input.items (limits_of options) answer

-- the failure tells what is wrong with the named interrupt file or input, or which branch of the source does not reach its target
abbrev pub IsNoSession : Told → DebugOptions → SourceValue → List LineSaid → Counts → Counts → LabFailure → Type 0
IsNoSession told options source lines before after failure =
    IsNoStimulus told (option_map (λ s. s.now) options.stimulus.interrupts) (option_map (λ s. s.now) options.stimulus.input) before after failure
    ⊎ IsTooFar options.source.now source lines failure

-- the named plan file was read first, and the session is that of the source with its lines
pub record IsSessionPlanned (told : Told) (options : DebugOptions) (source : SourceValue) (index : ℕ) (before after : Counts)
    (answer : Answer) : Type 0 where
  pub lines : List LineSaid
  pub between : Counts
  pub read : ArePlansOf told options.plans.now source before between lines
  pub session : IsSessionGiven told options source lines index between after answer

-- the named source was read first, and the session is at the statement of the named label
pub record IsDebugOf (told : Told) (options : DebugOptions) (before after : Counts) (answer : Answer) : Type 0 where
  pub text : List ℕ
  pub source : SourceValue
  pub index : ℕ
  pub between : Counts
  pub read : IsSourceOf told options.source.now before between text source
  pub labelled : statement_named source options.label.now ≡ Some index
  pub session : IsSessionPlanned told options source index between after answer
