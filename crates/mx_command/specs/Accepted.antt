-- The run of a source that is accepted.
use Rattle.std.specs.Prelude.{◌≡◌, ℕ, ◌≤◌, List, [], length, Option, Some, None, Ok}
use Rattle.mx_isa.specs.declared.board.TheConstants.{DATA_BASE, DATA_END}
use Rattle.mx_board.specs.RequestFile.{requests_of}
use Rattle.mx_squash.specs.Copies.{Site}
use Rattle.mx_layout.specs.Layout.{IsLayout, blocks_in}
use Rattle.mx_layout.specs.Overlong.{overlong}
use Rattle.mx_reorg.specs.Greedy.{IsGreedy}
use Rattle.cmd_answer.specs.declared.FileKind.{FileKind}
use Rattle.cmd_answer.specs.declared.FileKind.TheVariants.{Source, Interrupts, Input}
use Rattle.cmd_answer.specs.Files.{limit_of}
use Rattle.cmd_options.specs.declared.Limits.{Limits}
use Rattle.cmd_options.specs.Options.{Files}
use Rattle.mx_asm.specs.Texts.{source_of, text_fault}
use Rattle.mx_isa.specs.Board.{board}
use Rattle.cmd_table.specs.Commands.{Command, Run}

-- what each name holds
abbrev pub Held : Type 0
Held = List ℕ → Option (List ℕ)

-- the name holds these bytes, and they are within the limit
pub record Holds (held : Held) (kind : FileKind) (name bytes : List ℕ) : Type 0 where
  pub there : held name ≡ Some bytes
  pub within : length bytes ≤ limit_of kind

-- the requested cycles: those of a file that is held and well formed, none where no file is named
abbrev pub AreRequests : Held → Option (List ℕ) → List ℕ → Type 0
AreRequests held None requests = requests ≡ []
AreRequests held (Some name) requests = (bytes : List ℕ) × Holds held Interrupts name bytes × (requests_of bytes ≡ Ok requests)

-- the input: the bytes of a file that is held, none where no file is named
abbrev pub IsInput : Held → Option (List ℕ) → List ℕ → Type 0
IsInput held None bytes = bytes ≡ []
IsInput held (Some name) bytes = Holds held Input name bytes

-- `run` is asked for, of a text without faults in which no branch is overlong, and the other files that it names can be used.
-- A source has exactly one layout by greedy plans (`greedy_layout_exists`).
pub record Accepted (asked : Option Command) (held : Held) : Type 0 where
  pub name : List ℕ
  pub files : Files
  pub limits : Limits
  pub asks : asked ≡ Some (Run name files limits)
  pub text : List ℕ
  pub is_text : Holds held Source name text
  pub faultless : text_fault DATA_BASE DATA_END text ≡ None
  pub sites : List Site
  pub layout : IsLayout IsGreedy (source_of DATA_BASE text) board sites
  pub reach : overlong (source_of DATA_BASE text) board (blocks_in sites) ≡ None
  pub requests : List ℕ
  pub are_requests : AreRequests held files.interrupts requests
  pub input : List ℕ
  pub is_input : IsInput held files.input input

-- whatever the two files are called and whatever the limits are, the run of this text under the interrupts of this file is accepted
abbrev pub CanBeRun : List ℕ → List ℕ → Type 0
CanBeRun text interrupts = (held : Held) (name file : List ℕ) (limits : Limits) → (held name ≡ Some text) → (held file ≡ Some interrupts)
    → Accepted (Some (Run name (record { interrupts = Some file; input = None }) limits)) held
