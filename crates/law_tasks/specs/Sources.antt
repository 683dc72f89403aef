-- What two sources do that were linked into one image, or that texts read as.
use Rattle.std.specs.Prelude.{◌≡◌, ℕ, ◌+◌, ◌≤◌, false, List, [], length, None}
use Rattle.mx_isa.specs.declared.Place.{Place}
use Rattle.mx_source.specs.SourceValue.{SourceValue, IsSource}
use Rattle.mx_source.specs.Meaning.{meaning, is_stuck}
use Rattle.mx_blocks.specs.declared.Block.{Block}
use Rattle.mx_blocks.specs.declared.Plan.{Plan}
use Rattle.mx_squash.specs.Copies.{Site}
use Rattle.mx_layout.specs.Layout.{IsLayout, blocks_in}
use Rattle.mx_layout.specs.Overlong.{overlong}
use Rattle.mx_reorg.specs.Greedy.{IsGreedy}
use Rattle.mx_link.specs.Origins.{from_target}
use Rattle.mx_link.specs.Parts.{HaveRegisters}
use Rattle.mx_asm.specs.Texts.{source_of, text_fault}
use Rattle.mx_turn.specs.Program.{Program}
use Rattle.law_link.specs.Runs.{Linking}
use Rattle.law_link.specs.Matches.{block_ahead}
use Rattle.mx_tasks.specs.Sharing.{shared}
use Rattle.mx_tasks.specs.Places.{lower, upper}
use Rattle.mx_tasks.specs.declared.sharing.Shared.{Shared}
use Rattle.mx_tasks.specs.Shared.{IsShared}
use Rattle.law_tasks.specs.Meant.{MeanTheirSources, shared_program}

-- a source without input, linked at a place
abbrev pub linked_at : Place → SourceValue → List Site → Linking
linked_at place source sites = record { filling = from_target; source = source; place = place; sites = sites; bytes = [] }

-- the meaning of a source without input is not stuck within n statements
abbrev pub IsUnstuckAt : Place → SourceValue → ℕ → Type 0
IsUnstuckAt place source n = is_stuck (meaning source place [] n).state.mark ≡ false

-- a source that may share the machine: its statements are few, and it has no input
pub record IsSharing (source : SourceValue) : Type 0 where
  pub is_source : IsSource source
  pub registers : HaveRegisters source.statements
  pub few : length source.statements ≤ 10000
  pub no_input : source.input ≡ None

-- what the machine runs: the switching handler and the image
abbrev pub program_in : Shared → Program
program_in s = shared s.image.code.items s.image.user_data.items

-- Two sources that were linked into one image do what they mean, whatever interrupts come, and whoever proposed plans for their blocks.
abbrev pub SharedSourcesMean : (Block → Plan → Type 0) → Type 0
SharedSourcesMean Proposes =
    (first second : SourceValue) (s : Shared) (is : IsShared Proposes first second s) (requests : List ℕ) (budget : ℕ)
    → IsSharing first
    → IsSharing second
    → length first.user_data ≤ 32512
    → IsUnstuckAt lower first (budget + block_ahead)
    → IsUnstuckAt upper second (budget + block_ahead)
    → MeanTheirSources (program_in s) (linked_at lower first is.at_lower.sites) (linked_at upper second is.at_upper.sites) requests budget

-- a text that may share the machine: it has no fault, few statements and no input, and laid out by greedy plans each branch reaches its target
pub record IsSharingText (place : Place) (text : List ℕ) (sites : List Site) : Type 0 where
  pub faultless : text_fault place.user_data place.end text ≡ None
  pub no_input : (source_of place.user_data text).input ≡ None
  pub few : length (source_of place.user_data text).statements ≤ 10000
  pub layout : IsLayout IsGreedy (source_of place.user_data text) place sites
  pub reach : overlong (source_of place.user_data text) place (blocks_in sites) ≡ None

abbrev pub linked_text : Place → List ℕ → List Site → Linking
linked_text place text sites = linked_at place (source_of place.user_data text) sites

-- So do two texts.
abbrev pub SharedTextsMean : Type 0
SharedTextsMean =
    (first second : List ℕ) (lower_sites upper_sites : List Site) (requests : List ℕ) (budget : ℕ)
    → IsSharingText lower first lower_sites
    → IsSharingText upper second upper_sites
    → IsUnstuckAt lower (source_of lower.user_data first) (budget + block_ahead)
    → IsUnstuckAt upper (source_of upper.user_data second) (budget + block_ahead)
    → let one = linked_text lower first lower_sites in
    let two = linked_text upper second upper_sites in
    MeanTheirSources (shared_program one two) one two requests budget
