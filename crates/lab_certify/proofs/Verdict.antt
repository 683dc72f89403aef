-- What the checks of a certificate find for a source that is laid out by its plans.
use Rattle.std.proofs.Common.{◌≡◌, ℕ, List, length, Some, sym, ap, ◌∙◌, subst, ⊎_elim, arith}
use Rattle.std.specs.Prelude.{slice_get, slice_index_or}
use Rattle.std.proofs.lemmas.Option.{none-some, slice_get_within, slice_get-get_or}
use Rattle.mx_isa.specs.Board.{board}
use Rattle.mx_source.specs.SourceValue.{SourceValue}
use Rattle.mx_code.specs.declared.Image.{Image}
use Rattle.mx_blocks.specs.declared.Block.{Block}
use Rattle.mx_blocks.specs.declared.Plan.{Plan}
use Rattle.mx_blocks.specs.Leaders.{AreBlocks}
use Rattle.mx_validate.specs.Validity.{Valid}
use Rattle.mx_squash.specs.Copies.{Site}
use Rattle.mx_layout.specs.declared.Layout.{Layout}
use Rattle.mx_layout.specs.Layout.{blocks_in}
use Rattle.mx_layout.specs.Kept.{AreKept}
use Rattle.mx_layout.specs.Overlong.{overlong}
use Rattle.mx_layout.proofs.Sited.{blocks_in-sites}
use Rattle.mx_link.specs.Parts.{sites_of}
use Rattle.mx_link.specs.Laid.{IsLaidAt}
use Rattle.mx_plans.specs.Says.{IsProposed}
use Rattle.lab_certify.specs.declared.rejection.Rejection.{Rejection}
use Rattle.lab_certify.specs.declared.rejection.Rejection.TheVariants.{Source, Blocks, Plan as PlanBreaks, Address, Copies, Squash, Code, Data}
use Rattle.lab_certify.specs.Texts.{Claims}
use Rattle.lab_certify.specs.Verified.{AtBoth, IsFirstOther, IsFor, IsPlaced, IsAddressed, IsLinkable, IsRejection, MayCarry}
use Rattle.lab_certify.specs.Checks.{IsOfAnother, IsOfThis, IsPlanned, IsSited, Begins, Passes, Fails, IsBrokenBy, IsElsewhere, IsForbidden, IsFirst, IsGiven, IsExpected, IsOtherImage}
use Rattle.mx_plans.proofs.Sites.{site_at, site_count}
use Rattle.lab_certify.proofs.Sites.{start_at, kept_count, kept_at, kept_plans}

module _ (text digits : List ℕ) (source : SourceValue) (l : Layout) (c : Claims) (g : IsGiven text digits source l c) where
  open g use {digits_are, laid, kept}

  same_blocks : blocks_in (sites_of l) ≡ l.blocks.items
  same_blocks = blocks_in-sites l.blocks.items l.plans.items l.starts.items laid.plans laid.starts

  is_for : IsOfThis digits l.blocks.items c → IsFor text source c (blocks_in (sites_of l))
  is_for h = record {
    hash = h.hash ∙ digits_are;
    are = laid.layout.blocks;
    count = h.count ∙ sym (ap length same_blocks);
  }

  pub placed : IsPlanned digits l c → IsPlaced text source c (sites_of l)
  placed h = record {
    is_for = is_for h.of;
    layout = laid.layout;
    reach = ap (overlong source board) same_blocks ∙ laid.fits;
    plans = kept_plans (IsProposed source c.plans) l.rejected (sites_of l) l.proposals.items kept
        (λ k. subst (λ (bs : List Block). AtBoth Valid bs l.proposals.items k) (sym same_blocks) (h.valid k));
  }

  pub addressed : IsSited digits l c → IsAddressed text source c (sites_of l)
  addressed h = record {
    placed = placed h.planned;
    addresses = λ k s head e f. h.begin k s.start head (start_at l.blocks.items l.plans.items l.starts.items k s e) f;
  }

  pub linkable : Passes digits l c → IsLinkable text source c (sites_of l)
  linkable h = record { addressed = addressed h.sited; copies = h.may }

  another : (image : Image) (r : Rejection) → IsOfAnother digits l.blocks.items c r → IsRejection text source image c r
  another image Source h = λ e. h (e ∙ sym digits_are)
  another image (Blocks expected found) h = record {
    hash = h.0 ∙ digits_are;
    blocks = l.blocks.items;
    are = subst (AreBlocks source) same_blocks laid.layout.blocks;
    expected_is = h.1;
    found_is = h.2;
    differ = h.3;
  }
  another image (PlanBreaks k rule) h = absurd h
  another image (Address k expected found) h = absurd h
  another image (Copies k rule) h = absurd h
  another image (Squash k) h = absurd h
  another image (Code i expected found) h = absurd h
  another image (Data i expected found) h = absurd h

  proposal_count : length l.proposals.items ≡ length l.blocks.items
  proposal_count =
      kept_count (IsProposed source c.plans) l.rejected (sites_of l) l.proposals.items kept
      ∙ site_count l.blocks.items l.plans.items l.starts.items laid.plans laid.starts

  proposed_at : (k : ℕ) → AtBoth (IsProposed source c.plans) l.blocks.items l.proposals.items k
  proposed_at k =
      subst (λ (bs : List Block). AtBoth (IsProposed source c.plans) bs l.proposals.items k) same_blocks
      (kept_at (IsProposed source c.plans) l.rejected (sites_of l) l.proposals.items kept k)

  broken : (image : Image) (r : Rejection) → IsOfThis digits l.blocks.items c → IsFirst Valid IsBrokenBy l.blocks.items l.proposals.items r
      → IsRejection text source image c r
  broken image (PlanBreaks k rule) of first = record {
    blocks = l.blocks.items;
    is_for = subst (IsFor text source c) same_blocks (is_for of);
    block = first.x;
    at = ap (slice_get l.blocks.items) first.found.0 ∙ first.at;
    plan = first.y;
    proposed = proposed_at first.k first.x first.y first.at first.other_at;
    broken = first.found.1;
    before = λ j low b e.
        let within = slice_get_within l.blocks.items j b e in
        let same = first.found.0 in
        let p = slice_index_or l.proposals.items j first.y in
        let there : slice_get l.proposals.items j ≡ Some p =
        slice_get-get_or l.proposals.items j first.y (let count = proposal_count in omega arith) in
        (p, proposed_at j b p e there, first.before j (omega arith) b p e there);
  }
  broken image Source of first = absurd first.found
  broken image (Blocks expected found) of first = absurd first.found
  broken image (Address k expected found) of first = absurd first.found
  broken image (Copies k rule) of first = absurd first.found
  broken image (Squash k) of first = absurd first.found
  broken image (Code i expected found) of first = absurd first.found
  broken image (Data i expected found) of first = absurd first.found

  elsewhere : (image : Image) (r : Rejection) → IsPlanned digits l c → IsFirst Begins IsElsewhere l.starts.items c.heads r → IsRejection text source image c r
  elsewhere image (Address k expected found) planned first =
      let there = site_at l.blocks.items l.plans.items l.starts.items laid.plans laid.starts first.k first.x first.at in
      let same = first.found.0 in record {
        sites = sites_of l;
        placed = placed planned;
        site = there.site;
        at = ap (slice_get (sites_of l)) same ∙ there.is;
        head = first.y;
        head_at = ap (slice_get c.heads) same ∙ first.other_at;
        expected_is = first.found.1 ∙ sym there.begins;
        found_is = first.found.2;
        differ = first.found.3;
        before = λ j low s head e f. first.before j (omega arith) s.start head (start_at l.blocks.items l.plans.items l.starts.items j s e) f;
      }
  elsewhere image Source planned first = absurd first.found
  elsewhere image (Blocks expected found) planned first = absurd first.found
  elsewhere image (PlanBreaks k rule) planned first = absurd first.found
  elsewhere image (Copies k rule) planned first = absurd first.found
  elsewhere image (Squash k) planned first = absurd first.found
  elsewhere image (Code i expected found) planned first = absurd first.found
  elsewhere image (Data i expected found) planned first = absurd first.found

  forbidden : (image : Image) (r : Rejection) → IsSited digits l c → IsFirst (MayCarry (sites_of l)) (IsForbidden (sites_of l)) (sites_of l) c.heads r
      → IsRejection text source image c r
  forbidden image (Copies k rule) sited first =
      let same = first.found.0 in record {
        sites = sites_of l;
        addressed = addressed sited;
        site = first.x;
        at = ap (slice_get (sites_of l)) same ∙ first.at;
        head = first.y;
        head_at = ap (slice_get c.heads) same ∙ first.other_at;
        fault_is = first.found.1;
        squash = λ e. absurd (none-some rule (sym e));
        before = λ j low. first.before j (omega arith);
      }
  forbidden image (Squash k) sited first =
      let same = first.found.0 in record {
        sites = sites_of l;
        addressed = addressed sited;
        site = first.x;
        at = ap (slice_get (sites_of l)) same ∙ first.at;
        head = first.y;
        head_at = ap (slice_get c.heads) same ∙ first.other_at;
        fault_is = first.found.1;
        squash = λ e. first.found.2;
        before = λ j low. first.before j (omega arith);
      }
  forbidden image Source sited first = absurd first.found
  forbidden image (Blocks expected found) sited first = absurd first.found
  forbidden image (PlanBreaks k rule) sited first = absurd first.found
  forbidden image (Address k expected found) sited first = absurd first.found
  forbidden image (Code i expected found) sited first = absurd first.found
  forbidden image (Data i expected found) sited first = absurd first.found

  pub rejection : (image : Image) (r : Rejection) → Fails digits l c r → IsRejection text source image c r
  rejection image r h = ⊎_elim
      (λ sited. ⊎_elim
      (λ planned. ⊎_elim (another image r) (λ a. broken image r a.0 a.1) planned)
      (λ a. elsewhere image r a.0 a.1) sited)
      (λ a. forbidden image r a.0 a.1) h

module _
    (text : List ℕ) (source : SourceValue) (all : List Site) (c : Claims) (expected image : Image) (h : IsExpected text source c all expected) where
  pub other_image : (r : Rejection) → IsOtherImage expected image r → IsRejection text source image c r
  other_image (Code i at other) d = record {
    sites = all;
    linkable = h.linkable;
    differs = subst (λ (xs : List ℕ). IsFirstOther xs image.code.items i at other) h.code d;
  }
  other_image (Data i at other) d = record {
    sites = all;
    linkable = h.linkable;
    code = d.0 ∙ h.code;
    differs = subst (λ (xs : List ℕ). IsFirstOther xs image.user_data.items i at other) h.user_data d.1;
  }
  other_image Source d = absurd d
  other_image (Blocks expected_count found) d = absurd d
  other_image (PlanBreaks k rule) d = absurd d
  other_image (Address k start found) d = absurd d
  other_image (Copies k rule) d = absurd d
  other_image (Squash k) d = absurd d

pub proposals_count :
    (P : Block → Plan → Type 0) (source : SourceValue) (l : Layout) → IsLaidAt source board l
    → AreKept P l.rejected (sites_of l) l.proposals.items → length l.proposals.items ≡ length l.blocks.items
proposals_count P source l laid kept =
    kept_count P l.rejected (sites_of l) l.proposals.items kept
    ∙ site_count l.blocks.items l.plans.items l.starts.items laid.plans laid.starts
