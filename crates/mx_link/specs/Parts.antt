-- What linking works with: a source that is laid out, the words of one block, and what fills its slots.
use Rattle.std.specs.Prelude.{◌≡◌, ℕ, ◌+◌, ◌*◌, ◌≤◌, true, List, length, map, All, Some, slice_get, slice_index}
use Rattle.mx_isa.specs.declared.board.TheConstants.{LAST_ADDRESS}
use Rattle.mx_isa.specs.declared.Place.{Place}
use Rattle.mx_isa.specs.declared.Inst.{Inst}
use Rattle.mx_isa.specs.Fields.{InstFits}
use Rattle.mx_code.specs.Codes.{word_of_row, HasRegisters}
use Rattle.mx_source.specs.declared.Statement.{Statement}
use Rattle.mx_source.specs.SourceValue.{SourceValue}
use Rattle.mx_blocks.specs.declared.Block.{Block}
use Rattle.mx_blocks.specs.declared.Plan.{Plan}
use Rattle.mx_blocks.specs.declared.Item.{Item}
use Rattle.mx_blocks.specs.Leaders.{inst_of}
use Rattle.mx_validate.specs.Padded.{items_of}
use Rattle.mx_validate.specs.Validity.{Valid}
use Rattle.mx_squash.specs.declared.Copied.{Copied}
use Rattle.mx_squash.specs.Copies.{Site, sites, reaches}
use Rattle.mx_layout.specs.declared.Layout.{Layout}
use Rattle.mx_layout.specs.Layout.{IsLayout, link_of, end_of}
use Rattle.mx_layout.specs.Overlong.{branch_target}
use Rattle.mx_link.specs.declared.code.Slots.{Slots}
use Rattle.mx_link.specs.declared.code.Slots.TheVariants.{FromTarget, Kept, Wanted, Chosen}
use Rattle.mx_link.specs.declared.linked.Origin.{Origin}
use Rattle.mx_link.specs.Origins.{Filling, from_target, from_nowhere, as_wanted, as_chosen, goal_of, own, over, copied_to, origins_at}
use Rattle.mx_link.specs.Words.{insts_from, inst_at}

abbrev pub filling_of : Slots → Filling
filling_of FromTarget = from_target
filling_of Kept = from_nowhere
filling_of (Wanted counts) = as_wanted counts.now
filling_of (Chosen choices) = as_chosen choices.now

abbrev pub site : Block → Plan → ℕ → Site
site block plan start = record { block = block; plan = plan; start = start }

abbrev pub sites_of : Layout → List Site
sites_of l = sites l.blocks.items l.plans.items l.starts.items

abbrev pub link_in : Layout → ℕ → ℕ
link_in l = slice_index l.links.items

-- each branch reaches its target
abbrev pub Reach : Place → List Site → Type 0
Reach place all =
    All (λ (s : Site). (target : ℕ) → branch_target s.block.end ≡ Some target → reaches (s.start + s.plan.place) (link_of place.code all target) ≡ true) all

-- the source is laid out somewhere, and each of its branches reaches its target
pub record IsLaidOut (source : SourceValue) (l : Layout) : Type 0 where
  pub place : Place
  pub plans : length l.plans.items ≡ length l.blocks.items
  pub starts : length l.starts.items ≡ length l.blocks.items
  pub layout : IsLayout Valid source place (sites_of l)
  pub links_count : length l.links.items ≡ length source.statements + 1
  pub links : (i : ℕ) → i ≤ length source.statements → link_in l i ≡ link_of place.code (sites_of l) i
  pub short : end_of place.code (sites_of l) ≤ place.code + 3 * length source.statements
  pub reach : Reach place (sites_of l)
  pub room : place.code + 3 * length source.statements ≤ LAST_ADDRESS

-- where the word at place p of a site's plan comes from, with copies
abbrev pub origin_at : Site → Copied → ℕ → Item → Origin
origin_at s c p item = over (goal_of s.block.end) (copied_to c s.plan.place p) (own s.block.first item)

-- each of a site's instructions is so
abbrev pub EachInst : (Inst → Type 0) → (ℕ → ℕ) → List Statement → Site → Copied → Type 0
EachInst Q link statements s c =
    (p : ℕ) (item : Item) → slice_get (items_of s.plan) p ≡ Some item → Q (inst_at link statements c (s.start + p) (origin_at s c p item))

-- each of a site's instructions has a word
abbrev pub HasWords : (ℕ → ℕ) → List Statement → Site → Copied → Type 0
HasWords = EachInst InstFits

-- the registers of each statement are registers
abbrev pub HaveRegisters : List Statement → Type 0
HaveRegisters statements = All (λ (s : Statement). HasRegisters (inst_of s)) statements

abbrev pub site_words : (ℕ → ℕ) → List Statement → Site → Copied → List ℕ
site_words link statements s c = map word_of_row (insts_from link statements c s.start (origins_at s c))
