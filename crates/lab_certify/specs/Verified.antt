-- When an image is a source, linked as a certificate claims.
use Rattle.std.specs.Prelude.{◌≡◌, ◌≢◌, ℕ, ◌-◌, ◌<◌, List, [], ◌∷◌, ◌++◌, length, replicate, Option, Some, None, slice_get}
use Rattle.mx_isa.specs.Board.{board}
use Rattle.mx_source.specs.SourceValue.{SourceValue}
use Rattle.mx_code.specs.declared.Image.{Image}
use Rattle.mx_blocks.specs.declared.Block.{Block}
use Rattle.mx_blocks.specs.declared.Plan.{Plan}
use Rattle.mx_blocks.specs.Leaders.{AreBlocks, size}
use Rattle.mx_validate.specs.Validity.{Valid}
use Rattle.mx_squash.specs.declared.CopyRule.{CopyRule}
use Rattle.mx_squash.specs.Copies.{Site, site_of, is_target}
use Rattle.mx_squash.specs.Chosen.{copy_fault, copies_of}
use Rattle.mx_layout.specs.Layout.{IsLayout, blocks_in}
use Rattle.mx_layout.specs.Overlong.{overlong, IsRefusal}
use Rattle.mx_link.specs.Linked.{linked_code, linked_data}
use Rattle.mx_link.specs.Origins.{as_wanted}
use Rattle.mx_plans.specs.declared.Rule.{Rule}
use Rattle.mx_plans.specs.Rules.{IsFirstBroken}
use Rattle.mx_plans.specs.Says.{IsProposed}
use Rattle.lab_certify.specs.declared.certificate.Head.{Head}
use Rattle.lab_certify.specs.declared.rejection.Rejection.{Rejection}
use Rattle.lab_certify.specs.declared.rejection.Rejection.TheVariants.{Source, Blocks, Plan as PlanBreaks, Address, Copies, Squash, Code, Data}
use Rattle.lab_certify.specs.declared.rejection.VerifyError.{VerifyError}
use Rattle.lab_certify.specs.declared.rejection.VerifyError.TheVariants.{Link, Rejected}
use Rattle.lab_certify.specs.Hash.{hash_digits}
use Rattle.lab_certify.specs.Texts.{Claims}

-- it holds of each place before one
abbrev pub Before : (ℕ → Type 0) → ℕ → Type 0
Before Holds n = (k : ℕ) → k < n → Holds k

-- it holds of what two lists have at a place
abbrev pub AtBoth : {A B : Type 0} → (A → B → Type 0) → List A → List B → ℕ → Type 0
AtBoth Holds xs ys k = (x : _) (y : _) → slice_get xs k ≡ Some x → slice_get ys k ≡ Some y → Holds x y

-- the block begins at the address that is claimed
abbrev pub BeginsAt : List Site → List Head → ℕ → Type 0
BeginsAt = AtBoth (λ s h. h.address ≡ s.start)

-- the target of the transfer at the end of a site's block
abbrev pub goal_in : List Site → Site → Option Site
goal_in all s = site_of (is_target s.block.end) all

-- no rule forbids so many copies, and the branch squashes exactly where it has copies and may not go
abbrev pub MayCarry : List Site → Site → Head → Type 0
MayCarry all s h = (copy_fault h.copies s (goal_in all s) ≡ None) × (h.squashes ≡ (copies_of h.copies s (goal_in all s)).squash)

abbrev pub MayCopy : List Site → List Head → ℕ → Type 0
MayCopy all heads = AtBoth (MayCarry all) all heads

-- for each statement how many copies are claimed for the block that begins there, and 0 where none begins
abbrev pub counts_of : List Block → List Head → List ℕ
counts_of (block ∷ blocks) (head ∷ heads) = head.copies ∷ replicate (size block - 1) 0 ++ counts_of blocks heads
counts_of _ _ = []

abbrev pub claimed_code : SourceValue → List Site → List Head → List ℕ
claimed_code source all heads = linked_code (as_wanted (counts_of (blocks_in all) heads)) source board all

-- the certificate is for the source, which has these blocks
pub record IsFor (text : List ℕ) (source : SourceValue) (c : Claims) (blocks : List Block) : Type 0 where
  pub hash : c.hash ≡ hash_digits text
  pub are : AreBlocks source blocks
  pub count : length c.heads ≡ length blocks

-- and its plans are valid, so that the blocks stand at these sites
pub record IsPlaced (text : List ℕ) (source : SourceValue) (c : Claims) (all : List Site) : Type 0 where
  pub is_for : IsFor text source c (blocks_in all)
  pub layout : IsLayout Valid source board all
  pub reach : overlong source board (blocks_in all) ≡ None
  pub plans : (k : ℕ) (s : Site) → slice_get all k ≡ Some s → IsProposed source c.plans s.block s.plan

-- and each begins where it is claimed
pub record IsAddressed (text : List ℕ) (source : SourceValue) (c : Claims) (all : List Site) : Type 0 where
  pub placed : IsPlaced text source c all
  pub addresses : (k : ℕ) → BeginsAt all c.heads k

-- and may have the copies that are claimed
pub record IsLinkable (text : List ℕ) (source : SourceValue) (c : Claims) (all : List Site) : Type 0 where
  pub addressed : IsAddressed text source c all
  pub copies : (k : ℕ) → MayCopy all c.heads k

-- the image is the source, linked at the board's place by the plans and with the copies of the certificate
pub record IsVerified (text : List ℕ) (source : SourceValue) (image : Image) (c : Claims) : Type 0 where
  pub sites : List Site
  pub linkable : IsLinkable text source c sites
  pub code : image.code.items ≡ claimed_code source sites c.heads
  pub user_data : image.user_data.items ≡ linked_data source board sites

-- the first word in which two lists differ, or one of them ends
pub record IsFirstOther (expected found : List ℕ) (i : ℕ) (at other : Option ℕ) : Type 0 where
  pub before : Before (λ k. slice_get expected k ≡ slice_get found k) i
  pub at_is : slice_get expected i ≡ at
  pub other_is : slice_get found i ≡ other
  pub differ : at ≢ other

-- a proposal that breaks a rule is the first that is not valid
pub record IsBroken (text : List ℕ) (source : SourceValue) (c : Claims) (k : ℕ) (rule : Rule) : Type 0 where
  pub blocks : List Block
  pub is_for : IsFor text source c blocks
  pub block : Block
  pub at : slice_get blocks k ≡ Some block
  pub plan : Plan
  pub proposed : IsProposed source c.plans block plan
  pub broken : IsFirstBroken block plan rule
  pub before : Before (λ j. (b : Block) → slice_get blocks j ≡ Some b → (p : Plan) × IsProposed source c.plans b p × Valid b p) k

-- the block of this number is the first that begins elsewhere
pub record IsMisplaced (text : List ℕ) (source : SourceValue) (c : Claims) (k expected found : ℕ) : Type 0 where
  pub sites : List Site
  pub placed : IsPlaced text source c sites
  pub site : Site
  pub at : slice_get sites k ≡ Some site
  pub head : Head
  pub head_at : slice_get c.heads k ≡ Some head
  pub expected_is : expected ≡ site.start
  pub found_is : found ≡ head.address
  pub differ : expected ≢ found
  pub before : Before (BeginsAt sites c.heads) k

-- the block of this number is the first that may not have its copies, or that squashes where it should not, or does not where it should
pub record IsMiscopied (text : List ℕ) (source : SourceValue) (c : Claims) (k : ℕ) (fault : Option CopyRule) : Type 0 where
  pub sites : List Site
  pub addressed : IsAddressed text source c sites
  pub site : Site
  pub at : slice_get sites k ≡ Some site
  pub head : Head
  pub head_at : slice_get c.heads k ≡ Some head
  pub fault_is : copy_fault head.copies site (goal_in sites site) ≡ fault
  pub squash : fault ≡ None → head.squashes ≢ (copies_of head.copies site (goal_in sites site)).squash
  pub before : Before (MayCopy sites c.heads) k

-- the word of code of this number is the first that is another
pub record IsOtherCode (text : List ℕ) (source : SourceValue) (image : Image) (c : Claims) (i : ℕ) (expected found : Option ℕ) : Type 0 where
  pub sites : List Site
  pub linkable : IsLinkable text source c sites
  pub differs : IsFirstOther (claimed_code source sites c.heads) image.code.items i expected found

-- the code is that of the source, and the word of data of this number is the first that is another
pub record IsOtherData (text : List ℕ) (source : SourceValue) (image : Image) (c : Claims) (i : ℕ) (expected found : Option ℕ) : Type 0 where
  pub sites : List Site
  pub linkable : IsLinkable text source c sites
  pub code : image.code.items ≡ claimed_code source sites c.heads
  pub differs : IsFirstOther (linked_data source board sites) image.user_data.items i expected found

-- the certificate has lines for another number of blocks
pub record IsMiscounted (text : List ℕ) (source : SourceValue) (c : Claims) (expected found : ℕ) : Type 0 where
  pub hash : c.hash ≡ hash_digits text
  pub blocks : List Block
  pub are : AreBlocks source blocks
  pub expected_is : expected ≡ length blocks
  pub found_is : found ≡ length c.heads
  pub differ : expected ≢ found

-- an image is rejected by the first rule, block and word that fail
abbrev pub IsRejection : List ℕ → SourceValue → Image → Claims → Rejection → Type 0
IsRejection text source image c Source = c.hash ≢ hash_digits text
IsRejection text source image c (Blocks expected found) = IsMiscounted text source c expected found
IsRejection text source image c (PlanBreaks block rule) = IsBroken text source c block rule
IsRejection text source image c (Address block expected found) = IsMisplaced text source c block expected found
IsRejection text source image c (Copies block rule) = IsMiscopied text source c block (Some rule)
IsRejection text source image c (Squash block) = IsMiscopied text source c block None
IsRejection text source image c (Code index expected found) = IsOtherCode text source image c index expected found
IsRejection text source image c (Data index expected found) = IsOtherData text source image c index expected found

-- a source that cannot be linked is refused as by `link`; memory may be wanting
abbrev pub IsUnverified : List ℕ → SourceValue → Image → Claims → VerifyError → Type 0
IsUnverified text source image c (Link error) = IsRefusal (IsProposed source c.plans) source board error
IsUnverified text source image c (Rejected rejection) = IsRejection text source image c rejection
