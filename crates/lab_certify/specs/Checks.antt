-- What the checks of a certificate find.
use Rattle.std.specs.Prelude.{◌≡◌, ◌≢◌, ◌⊎◌, ℕ, List, length, Some, None, slice_get}
use Rattle.mx_isa.specs.Board.{board}
use Rattle.mx_source.specs.SourceValue.{SourceValue}
use Rattle.mx_code.specs.declared.Image.{Image}
use Rattle.mx_blocks.specs.declared.Block.{Block}
use Rattle.mx_blocks.specs.declared.Plan.{Plan}
use Rattle.mx_validate.specs.Validity.{Valid}
use Rattle.mx_squash.specs.Copies.{Site}
use Rattle.mx_squash.specs.Chosen.{copy_fault, copies_of}
use Rattle.mx_layout.specs.declared.Layout.{Layout}
use Rattle.mx_layout.specs.Kept.{AreKept}
use Rattle.mx_link.specs.Parts.{sites_of}
use Rattle.mx_link.specs.Laid.{IsLaidAt}
use Rattle.mx_link.specs.Linked.{linked_data}
use Rattle.mx_plans.specs.Says.{IsProposed}
use Rattle.mx_plans.specs.Rules.{IsFirstBroken}
use Rattle.lab_certify.specs.declared.certificate.Head.{Head}
use Rattle.lab_certify.specs.declared.rejection.Rejection.{Rejection}
use Rattle.lab_certify.specs.declared.rejection.Rejection.TheVariants.{Source, Blocks, Plan as PlanBreaks, Address, Copies, Squash, Code, Data}
use Rattle.lab_certify.specs.Hash.{hash_digits}
use Rattle.lab_certify.specs.Texts.{Claims}
use Rattle.lab_certify.specs.Verified.{Before, AtBoth, goal_in, MayCarry, MayCopy, IsFirstOther, IsLinkable, claimed_code}

-- the certificate has another hash, or another number of blocks
abbrev pub IsOfAnother : List ℕ → List Block → Claims → Rejection → Type 0
IsOfAnother digits blocks c Source = c.hash ≢ digits
IsOfAnother digits blocks c (Blocks expected found) =
    (c.hash ≡ digits) × (expected ≡ length blocks) × (found ≡ length c.heads) × (expected ≢ found)
IsOfAnother digits blocks c _ = ⊥

-- the block's plan breaks the rule
abbrev pub IsBrokenBy : ℕ → Block → Plan → Rejection → Type 0
IsBrokenBy k block plan (PlanBreaks block_number rule) = (block_number ≡ k) × IsFirstBroken block plan rule
IsBrokenBy k block plan _ = ⊥

-- the block begins elsewhere
abbrev pub IsElsewhere : ℕ → ℕ → Head → Rejection → Type 0
IsElsewhere k start h (Address block expected found) = (block ≡ k) × (expected ≡ start) × (found ≡ h.address) × (expected ≢ found)
IsElsewhere k start h _ = ⊥

-- the block may not have its copies, or squashes where it should not, or does not where it should
abbrev pub IsForbidden : List Site → ℕ → Site → Head → Rejection → Type 0
IsForbidden all k s h (Copies block rule) = (block ≡ k) × (copy_fault h.copies s (goal_in all s) ≡ Some rule)
IsForbidden all k s h (Squash block) = (block ≡ k) × (copy_fault h.copies s (goal_in all s) ≡ None)
    × (h.squashes ≢ (copies_of h.copies s (goal_in all s)).squash)
IsForbidden all k s h _ = ⊥

-- the first place of two lists at which this is found, where this holds of each place before it
pub record IsFirst {A B : Type 0} (Holds : A → B → Type 0) (Found : ℕ → A → B → Rejection → Type 0) (xs : List A) (ys : List B) (r : Rejection)
    : Type 0 where
  pub k : ℕ
  pub x : A
  pub at : slice_get xs k ≡ Some x
  pub y : B
  pub other_at : slice_get ys k ≡ Some y
  pub found : Found k x y r
  pub before : Before (AtBoth Holds xs ys) k

-- a certificate has the hash and the number of blocks of the source
pub record IsOfThis (digits : List ℕ) (blocks : List Block) (c : Claims) : Type 0 where
  pub hash : c.hash ≡ digits
  pub count : length c.heads ≡ length blocks

-- and its plans are valid
pub record IsPlanned (digits : List ℕ) (l : Layout) (c : Claims) : Type 0 where
  pub of : IsOfThis digits l.blocks.items c
  pub valid : (k : ℕ) → AtBoth Valid l.blocks.items l.proposals.items k

-- the block begins at the address
abbrev pub Begins : ℕ → Head → Type 0
Begins start h = h.address ≡ start

-- and its blocks begin where it says
pub record IsSited (digits : List ℕ) (l : Layout) (c : Claims) : Type 0 where
  pub planned : IsPlanned digits l c
  pub begin : (k : ℕ) → AtBoth Begins l.starts.items c.heads k

-- and they may have their copies
pub record Passes (digits : List ℕ) (l : Layout) (c : Claims) : Type 0 where
  pub sited : IsSited digits l c
  pub may : (k : ℕ) → MayCopy (sites_of l) c.heads k

-- the first of these that fails
abbrev pub FailsAsPlanned : List ℕ → Layout → Claims → Rejection → Type 0
FailsAsPlanned digits l c r =
    IsOfAnother digits l.blocks.items c r
    ⊎ (IsOfThis digits l.blocks.items c × IsFirst Valid IsBrokenBy l.blocks.items l.proposals.items r)

abbrev pub FailsAsSited : List ℕ → Layout → Claims → Rejection → Type 0
FailsAsSited digits l c r = FailsAsPlanned digits l c r ⊎ (IsPlanned digits l c × IsFirst Begins IsElsewhere l.starts.items c.heads r)

abbrev pub Fails : List ℕ → Layout → Claims → Rejection → Type 0
Fails digits l c r =
    FailsAsSited digits l c r
    ⊎ (IsSited digits l c × IsFirst (MayCarry (sites_of l)) (IsForbidden (sites_of l)) (sites_of l) c.heads r)

-- a certificate, and a source that is laid out by its plans
pub record IsGiven (text digits : List ℕ) (source : SourceValue) (l : Layout) (c : Claims) : Type 0 where
  pub digits_are : digits ≡ hash_digits text
  pub laid : IsLaidAt source board l
  pub kept : AreKept (IsProposed source c.plans) l.rejected (sites_of l) l.proposals.items

-- the image of a source that may be linked as claimed
pub record IsExpected (text : List ℕ) (source : SourceValue) (c : Claims) (all : List Site) (image : Image) : Type 0 where
  pub linkable : IsLinkable text source c all
  pub code : image.code.items ≡ claimed_code source all c.heads
  pub user_data : image.user_data.items ≡ linked_data source board all

-- the first word of an image that is not that of another: of its code, else of its data
abbrev pub IsOtherImage : Image → Image → Rejection → Type 0
IsOtherImage words image (Code index expected found) = IsFirstOther words.code.items image.code.items index expected found
IsOtherImage words image (Data index expected found) =
    (image.code.items ≡ words.code.items) × IsFirstOther words.user_data.items image.user_data.items index expected found
IsOtherImage words image _ = ⊥
