-- The setting of the laws on words, blocks and runs, over variables: what stands where, and which statement has which address.
-- `StepSetting` is what a step of linked code depends on. `Setting` adds the program, the address of each of its statements, which
-- of them are leaders, and of the block that begins at a leader how many words its plan has and how many others may copy.
use Rattle.std.proofs.Common.{◌≡◌, ◌⊎◌, ℕ, ◌+◌, ◌^◌, ◌<◌, ◌≤◌, Bool, false, List, length, Option, arith}
use Rattle.mx_isa.specs.declared.place.Place.{Place}
use Rattle.mx_isa.specs.declared.inst.Inst.{Inst}
use Rattle.mx_delay.specs.Delay.{Code}
use Rattle.mx_source.specs.SourceValue.{SourceValue, IsSource}
use Rattle.mx_source.specs.Meaning.{Program}
use Rattle.mx_blocks.specs.Leaders.{IsBlockOf}
use Rattle.mx_blocks.specs.declared.block.Block.{Block}
use Rattle.mx_blocks.specs.declared.block.Plan.{Plan}
use Rattle.mx_validate.specs.Padded.{insts_of}
use Rattle.mx_validate.specs.Validity.{Valid}
use Rattle.mx_squash.specs.declared.copying.Copied.{Copied}
use Rattle.mx_squash.specs.Copies.{Site, site_of, is_target, no_copies}
use Rattle.mx_squash.specs.Chosen.{IsCopied}
use Rattle.mx_link.proofs.Linkable.{Goes}
use Rattle.law_order.specs.Laws.{IsPlanned}
use Rattle.law_order.specs.Parts.{Parts}
use Rattle.law_link.specs.Runs.{Linking, IsLaid}

-- what fills the slots of a site
abbrev pub FillsSo : Linking → Bool → Site → Type 0
FillsSo l bare s =
    (l.filling l.sites s ≡ no_copies)
    ⊎ ((bare ≡ false) × IsCopied s (site_of (is_target s.block.end) l.sites) (l.filling l.sites s))

pub record StepSetting : Type 0 where
  pub code : Code
  pub inside : ℕ → Bool
  pub place : Place
  pub input : Option (List ℕ)

pub record Setting : Type 0 where
  pub program : Program
  pub code : Code
  pub inside : ℕ → Bool
  pub link : ℕ → ℕ
  pub leader : ℕ → Bool
  pub place_of : ℕ → ℕ
  pub len_of : ℕ → ℕ
  -- no address is so high that the next ones overflow
  pub small : (i : ℕ) → link i + 8 < 2 ^ 31
  pub low : (i : ℕ) → program.place.code ≤ link i

abbrev pub machine_of : Setting → StepSetting
machine_of s = record { code = s.code; inside = s.inside; place = s.program.place; input = s.program.input }

-- a site that is linked, with what is copied to its slots
pub record LinkedSite : Type 0 where
  pub source : SourceValue
  pub well_formed : IsSource source
  pub link : ℕ → ℕ
  pub site : Site
  pub copied : Copied
  pub block : IsBlockOf source site.block
  pub valid : Valid site.block site.plan
  pub goes : Goes source link site copied

-- linked code with what is known of it: nothing is copied, or first words of the target are, unless all is bare
pub record Known : Type 0 where
  pub linking : Linking
  pub laid : IsLaid linking.source linking.place linking.sites
  pub bare : Bool
  pub fills : (s : Site) → FillsSo linking bare s

-- a block with instructions and a plan, by the plan's parts
pub record PlannedBlock (input : Option (List ℕ)) : Type 0 where
  pub block : Block
  pub plan : Plan
  pub insts : List Inst
  pub laid : IsPlanned block plan insts input
  pub parts : Parts block plan
  pub some : 1 ≤ length (insts_of block)

pub short : (s : Setting) (i : ℕ) → s.link i < 2 ^ 32
short s i = let small = s.small i in omega arith
