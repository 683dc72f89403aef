-- Linked code on the machine with delay slots.
use Rattle.std.specs.Prelude.{◌≡◌, ℕ, ◌+◌, ◌*◌, ◌≤◌, Bool, List, length, All, None}
use Rattle.mx_isa.specs.declared.Place.{Place}
use Rattle.mx_isa.specs.Words.{Words}
use Rattle.mx_code.specs.Codes.{HasRegisters}
use Rattle.mx_code.specs.Decoding.{inst_of as spelled_inst}
use Rattle.mx_delay.specs.Delay.{Code, code_from, data_from, Delay, delay}
use Rattle.mx_delay.specs.Clean.{is_inside, IsClean}
use Rattle.mx_source.specs.declared.Statement.{Statement}
use Rattle.mx_source.specs.SourceValue.{SourceValue, IsSource}
use Rattle.mx_source.specs.Meaning.{given}
use Rattle.mx_blocks.specs.Leaders.{inst_of}
use Rattle.mx_validate.specs.Validity.{Valid}
use Rattle.mx_squash.specs.Copies.{Site, site_of, is_target}
use Rattle.mx_squash.specs.Chosen.{IsCopied}
use Rattle.mx_layout.specs.Layout.{IsLayout, blocks_in}
use Rattle.mx_layout.specs.Overlong.{overlong}
use Rattle.mx_link.specs.Origins.{Filling}
use Rattle.mx_link.specs.Linked.{linked_code, linked_data}

-- a source, laid out at a place that has room for it, with branches that reach their targets
pub record IsLaid (source : SourceValue) (place : Place) (sites : List Site) : Type 0 where
  pub well_formed : IsSource source
  -- registers are 0 to 31
  pub registers : All (λ (s : Statement). HasRegisters (inst_of s)) source.statements
  pub room : place.code + 3 * length source.statements ≤ 65535
  pub layout : IsLayout Valid source place sites
  pub reach : overlong source place (blocks_in sites) ≡ None

-- each site's slots hold the first words of its target, so many that no rule forbids it; that may be none
abbrev pub IsFilling : Filling → Type 0
IsFilling filling = (sites : List Site) (s : Site) → IsCopied s (site_of (is_target s.block.end) sites) (filling sites s)

-- a linked program: its source, place and layout, how its slots are filled, and the bytes of its input
pub record Linking : Type 0 where
  pub filling : Filling
  pub source : SourceValue
  pub place : Place
  pub sites : List Site
  pub bytes : List ℕ

pub record IsLinking (l : Linking) : Type 0 where
  pub laid : IsLaid l.source l.place l.sites
  pub filled : IsFilling l.filling

abbrev pub words_in : Linking → List ℕ
words_in l = linked_code l.filling l.source l.place l.sites

abbrev pub code_in : Linking → Code
code_in l = code_from spelled_inst l.place.code (words_in l)

abbrev pub inside : Linking → ℕ → Bool
inside l = is_inside l.place (length (words_in l))

abbrev pub data_in : Linking → Words
data_in l = data_from l.place.user_data (linked_data l.source l.place l.sites)

-- the state of linked code after so many steps
abbrev pub linked_run : Linking → ℕ → Delay
linked_run l j = delay (code_in l) l.place (given l.source.input l.bytes) (data_in l) j

-- the first steps of linked code are clean
abbrev pub RunsClean : Linking → ℕ → Type 0
RunsClean l j = IsClean (code_in l) (inside l) l.place (given l.source.input l.bytes) (data_in l) j
