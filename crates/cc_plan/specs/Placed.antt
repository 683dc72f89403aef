-- The places that a plan tells are those of the data that instructions load and store.
use Rattle.std.specs.Prelude.{◌≡◌, ◌≢◌, ℕ, zero, suc, ◌≤◌, ◌<◌, ◌==◌, ◌&&◌, not, Bool, true, false, if◌then◌else◌, List, Option, Some, None, slice_get}
use Rattle.cc_lines.specs.declared.instruction.Instruction.{Instruction}
use Rattle.cc_lines.specs.declared.instruction.Instruction.TheVariants as i
use Rattle.cc_lines.specs.declared.instruction.LinkFrom.TheVariants as from
use Rattle.cc_program.specs.declared.item.Function.{Function}
use Rattle.cc_program.specs.declared.item.Item.{Item}
use Rattle.cc_program.specs.declared.item.Item.TheVariants.{Label, Code, Location}
use Rattle.cc_program.specs.declared.program.Program.{Program}
use Rattle.cc_program.specs.declared.symbols.Meaning.{Meaning}
use Rattle.cc_program.specs.declared.symbols.Meaning.TheVariants as means
use Rattle.cc_program.specs.declared.symbols.Symbol.{Symbol}
use Rattle.cc_program.specs.Programs.{meaning_of, address_of, is_used}
use Rattle.cc_rules.specs.Views.{is_last}
use Rattle.cc_plan.specs.declared.plan.Place.{Place}
use Rattle.cc_plan.specs.declared.plan.Plan.{Plan}
use Rattle.cc_plan.specs.declared.plan.Step.{Step}
use Rattle.cc_plan.specs.declared.plan.Step.TheVariants.{Gone, Split}
use Rattle.cc_plan.specs.Places.{Words, sum, is_named, is_read, divided, IsAt, IsDivided}
use Rattle.cc_plan.specs.Translated.{Goes, reads_named}

-- ---- symbols

-- the address of a symbol: 0 where there is none, and none of the end of all data, which is not known yet
abbrev pub address_meant : Program → ℕ → Meaning → Option ℕ
address_meant p symbol means.End = None
address_meant p symbol _ = Some (address_of p symbol)

abbrev pub symbol_address : Program → Option ℕ → Option ℕ
symbol_address p None = Some 0
symbol_address p (Some symbol) = address_meant p symbol (meaning_of p.symbols.list.items symbol)

abbrev pub is_place : Meaning → Bool
is_place (means.Place item function) = true
is_place _ = false

abbrev pub names_place : List Symbol → Option ℕ → Bool
names_place symbols (Some symbol) = is_place (meaning_of symbols symbol)
names_place symbols None = false

-- ---- data

-- the register and the offset of the datum of an instruction. A call by a register, and a jump by one where the addresses of labels are
-- values, load the word at the address that the register holds
abbrev pub based : Bool → Instruction → Option (ℕ × ℕ)
based computes (i.Load width rd base offset) = Some (base.0, offset)
based computes (i.Store width rs base offset) = Some (base.0, offset)
based computes (i.Call (from.Register r)) = Some (r.0, 0)
based computes (i.Jump (from.Register r)) = if computes && not (r.0 == 31) then Some (r.0, 0) else None
based computes _ = None

-- the plan has the place of the datum at an address, where registers hold these words
pub record HasPlace (words : Words) (plan : Plan) (address : ℕ) : Type 0 where
  pub place : Place
  pub is : plan.place ≡ Some place
  pub at : IsAt words place address

-- so it has that of an instruction, once a register was divided as it says
abbrev pub PlacesDatum : Program → Bool → Words → Instruction → Option ℕ → Plan → Type 0
PlacesDatum p computes words instruction symbol plan = (base offset a : ℕ) → based computes instruction ≡ Some (base, offset)
    → symbol_address p symbol ≡ Some a → is_read base ≡ true
    → HasPlace (divided words plan.divided) plan (sum (words base) (sum offset a))

-- ---- registers from one item to the next

abbrev pub Same : Words → Words → Type 0
Same before after = (n : ℕ) → after n ≡ before n

-- control goes on elsewhere, or comes back with any registers
abbrev pub leaves : Program → Instruction → Option ℕ → Bool
leaves p (i.Call to) symbol = names_place p.symbols.list.items symbol
leaves p instruction symbol = is_last instruction

-- one or the other
abbrev pub Either : Bool → Type 0 → Type 0 → Type 0
Either true A B = A
Either false A B = B

-- an instruction by its plan. A branch that gives a register what it found changes that alone
abbrev pub Performs : Program → Bool → Instruction → Option ℕ → Plan → Step → Words → Words → Type 0
Performs p points instruction symbol plan Gone before after = Same before after
Performs p points instruction symbol plan (Split found into taken) before after =
    IsDivided points after × (is_named into.0 ≡ true) × ((n : ℕ) → n ≢ into.0 → after n ≡ before n)
Performs p points instruction symbol plan _ before after =
    Either (leaves p instruction symbol) (IsDivided points after)
    (Goes points (symbol_address p symbol) instruction plan (divided before plan.divided) after)

-- control may come to an item's end from anywhere: the item is a label that something names
abbrev pub is_entry : Program → Item → Bool
is_entry p (Label symbol) = is_used p.symbols.list.items symbol
is_entry p _ = false

-- an item
abbrev pub Passes : Program → Bool → Item → Plan → Words → Words → Type 0
Passes p points (Label symbol) plan before after = Either (is_entry p (Label symbol)) (IsDivided points after) (Same before after)
Passes p points (Location file line) plan before after = Same before after
Passes p points (Code instruction symbol line) plan before after =
    (reads_named instruction ≡ true) × Performs p points instruction symbol plan plan.step before after

-- ---- all items of a function

abbrev pub is_translated : Step → Bool
is_translated Gone = false
is_translated (Split found into taken) = false
is_translated _ = true

abbrev pub PlacesItem : Program → Bool → Words → Item → Plan → Type 0
PlacesItem p computes words (Code instruction symbol line) plan =
    is_translated plan.step ≡ true → PlacesDatum p computes words instruction symbol plan
PlacesItem p computes words _ plan = Unit {0}

-- control may come there from anywhere: to the first item, and behind labels that something names
abbrev pub IsStart : Program → List Item → ℕ → Type 0
IsStart p items zero = Unit {0}
IsStart p items (suc n) = (item : Item) → slice_get items n ≡ Some item → is_entry p item ≡ true

-- registers from item s to item i, as the items between them may change them
pub record IsTrace (p : Program) (points : Bool) (items : List Item) (plans : List Plan) (s i : ℕ) (trace : ℕ → Words) : Type 0 where
  pub start : IsStart p items s
  pub order : s ≤ i
  pub divided : IsDivided points (trace s)
  pub passes : (j : ℕ) (item : Item) (plan : Plan) → s ≤ j → j < i → slice_get items j ≡ Some item → slice_get plans j ≡ Some plan
      → Passes p points item plan (trace j) (trace (suc j))

-- whatever registers hold as control comes to an item, its plan has the place of its datum
abbrev pub ArePlaced : Program → Function → List Item → List Plan → Type 0
ArePlaced p f items plans = (s i : ℕ) (trace : ℕ → Words) (item : Item) (plan : Plan) → IsTrace p f.points items plans s i trace
    → slice_get items i ≡ Some item → slice_get plans i ≡ Some plan → PlacesItem p f.computes (trace i) item plan
