-- A certificate places the blocks of a source at one list of sites, so that no image is both verified and rejected.
use Rattle.std.proofs.Common.{◌≡◌, ℕ, zero, suc, ◌+◌, List, [], ◌∷◌, length, Some, refl, sym, ap, ◌∙◌, subst}
use Rattle.std.specs.Prelude.{slice_get}
use Rattle.std.proofs.lemmas.Option.{none-some, same_Some}
use Rattle.mx_isa.specs.Board.{board}
use Rattle.mx_source.specs.SourceValue.{SourceValue}
use Rattle.mx_code.specs.declared.Image.{Image}
use Rattle.mx_blocks.specs.declared.Block.{Block}
use Rattle.mx_blocks.specs.declared.Plan.{Plan}
use Rattle.mx_blocks.specs.Leaders.{AreBlocks}
use Rattle.mx_blocks.proofs.UniqueBlocks.{blocks_unique}
use Rattle.mx_validate.specs.Validity.{Valid}
use Rattle.mx_squash.specs.Copies.{Site}
use Rattle.mx_layout.specs.Layout.{StandFrom, plan_size, blocks_in}
use Rattle.mx_link.specs.Linked.{linked_data}
use Rattle.mx_link.proofs.Places.{at_place}
use Rattle.mx_plans.specs.declared.Mark.{Mark}
use Rattle.mx_plans.specs.Marks.{IsSaid}
use Rattle.mx_plans.specs.Says.{Proposes, IsProposed, line_at, number_of_block}
use Rattle.mx_plans.proofs.Rules.{keeps_each}
use Rattle.mx_reorg.proofs.ExistsItems.{height_of}
use Rattle.mx_reorg.proofs.Unique.{greedy_unique}
use Rattle.lab_certify.specs.declared.rejection.Rejection.{Rejection}
use Rattle.lab_certify.specs.declared.rejection.Rejection.TheVariants.{Source, Blocks, Plan as PlanBreaks, Address, Copies, Squash, Code, Data}
use Rattle.lab_certify.specs.Texts.{Claims}
use Rattle.lab_certify.specs.Verified.{IsPlaced, IsVerified, IsRejection, BeginsAt, MayCopy, claimed_code}

said_unique : (block : Block) (marks : List Mark) (p q : Plan) → IsSaid block marks p → IsSaid block marks q → p ≡ q
said_unique block marks p q g h =
    let items = g.items ∙ sym h.items in
    let place = g.place ∙ sym h.place in
    λ i. record { items = record { items = items i }; place = place i }

proposes_unique : (marks : List Mark) (block : Block) (p q : Plan) → Proposes marks block p → Proposes marks block q → p ≡ q
proposes_unique [] block p q g h = greedy_unique block (λ x l. height_of block x) p q g h
proposes_unique (mark ∷ marks) block p q g h = said_unique block (mark ∷ marks) p q g h

proposed_unique :
    (source : SourceValue) (lines : List (List Mark)) (block : Block) (p q : Plan) → IsProposed source lines block p
    → IsProposed source lines block q → p ≡ q
proposed_unique source lines block p q g h =
    let same = blocks_unique source g.blocks h.blocks g.are h.are in
    proposes_unique (line_at lines (number_of_block h.blocks block)) block p q
    (subst (λ (bs : List Block). Proposes (line_at lines (number_of_block bs block)) block p) same g.proposes) h.proposes

abbrev rest_of_blocks : List Block → List Block
rest_of_blocks [] = []
rest_of_blocks (b ∷ blocks) = blocks

-- each site's plan is proposed for its block
abbrev Each : (Block → Plan → Type 0) → List Site → Type 0
Each P all = (k : ℕ) (s : Site) → slice_get all k ≡ Some s → P s.block s.plan

module _ (P : Block → Plan → Type 0) (unique : (block : Block) (p q : Plan) → P block p → P block q → p ≡ q) where
  sites_unique :
      (at : ℕ) (all others : List Site) → blocks_in all ≡ blocks_in others → StandFrom at all → StandFrom at others → Each P all → Each P others
      → all ≡ others
  sites_unique at [] [] e st st' p p' = refl
  sites_unique at [] (t ∷ others) e st st' p p' = absurd (none-some t.block (ap (λ bs. slice_get bs 0) e))
  sites_unique at (s ∷ all) [] e st st' p p' = absurd (none-some s.block (sym (ap (λ bs. slice_get bs 0) e)))
  sites_unique at (s ∷ all) (t ∷ others) e st st' p p' =
      let block : s.block ≡ t.block = same_Some s.block t.block (ap (λ bs. slice_get bs 0) e) in
      let plan : s.plan ≡ t.plan = unique t.block s.plan t.plan (subst (λ (b : Block). P b s.plan) block (p 0 s refl)) (p' 0 t refl) in
      let start : s.start ≡ t.start = st.0 ∙ sym st'.0 in
      let same : s ≡ t = λ i. record { block = block i; plan = plan i; start = start i } in
      let rest = sites_unique (at + plan_size s.plan) all others (ap rest_of_blocks e) st.1
      (subst (λ (x : Plan). StandFrom (at + plan_size x) others) (sym plan) st'.1) (λ k. p (suc k)) (λ k. p' (suc k)) in
      ap (λ x. x ∷ all) same ∙ ap (λ xs. t ∷ xs) rest

placed_unique :
    (text : List ℕ) (source : SourceValue) (c : Claims) (all others : List Site) → IsPlaced text source c all → IsPlaced text source c others
    → all ≡ others
placed_unique text source c all others g h =
    sites_unique (IsProposed source c.plans) (proposed_unique source c.plans) board.code all others
    (blocks_unique source (blocks_in all) (blocks_in others) g.layout.blocks h.layout.blocks) g.layout.stand h.layout.stand g.plans h.plans

-- the site of a block
record SiteOfBlock (all : List Site) (k : ℕ) (b : Block) : Type 0 where
  site : Site
  is : slice_get all k ≡ Some site
  has : site.block ≡ b

site_of_block : (all : List Site) (k : ℕ) (b : Block) → slice_get (blocks_in all) k ≡ Some b → SiteOfBlock all k b
site_of_block [] k b e = absurd (none-some b e)
site_of_block (s ∷ all) zero b e = record { site = s; is = refl; has = same_Some s.block b e }
site_of_block (s ∷ all) (suc k) b e = let rest = site_of_block all k b e in record { site = rest.site; is = rest.is; has = rest.has }

module _ (text : List ℕ) (source : SourceValue) (image : Image) (c : Claims) (v : IsVerified text source image c) where
  placed : IsPlaced text source c v.sites
  placed = v.linkable.addressed.placed

  same_sites : (others : List Site) → IsPlaced text source c others → v.sites ≡ others
  same_sites others h = placed_unique text source c v.sites others placed h

  same_blocks : (blocks : List Block) → AreBlocks source blocks → blocks ≡ blocks_in v.sites
  same_blocks blocks are = blocks_unique source blocks (blocks_in v.sites) are placed.layout.blocks

  pub not_rejected : (r : Rejection) → IsRejection text source image c r → ⊥
  not_rejected Source r = r placed.is_for.hash
  not_rejected (Blocks expected found) r =
      r.differ (r.expected_is ∙ ap length (same_blocks r.blocks r.are) ∙ sym placed.is_for.count ∙ sym r.found_is)
  not_rejected (PlanBreaks k rule) r =
      let there = site_of_block v.sites k r.block
      (sym (ap (λ bs. slice_get bs k) (same_blocks r.blocks r.is_for.are)) ∙ r.at) in
      let proposed = subst (λ (b : Block). IsProposed source c.plans b there.site.plan) there.has (placed.plans k there.site there.is) in
      let plan = proposed_unique source c.plans r.block there.site.plan r.plan proposed r.proposed in
      let valid = at_place (λ (s : Site). Valid s.block s.plan) v.sites k there.site placed.layout.plans there.is in
      r.broken.broken (keeps_each r.block r.plan
      (subst (λ (p : Plan). Valid r.block p) plan (subst (λ (b : Block). Valid b there.site.plan) there.has valid)) rule)
  not_rejected (Address k expected found) r =
      let begins = subst (λ (xs : List Site). BeginsAt xs c.heads k) (same_sites r.sites r.placed) (v.linkable.addressed.addresses k) in
      r.differ (r.expected_is ∙ sym (begins r.site r.head r.at r.head_at) ∙ sym r.found_is)
  not_rejected (Copies k rule) r =
      let may = subst (λ (xs : List Site). MayCopy xs c.heads k) (same_sites r.sites r.addressed.placed) (v.linkable.copies k) in
      none-some rule (sym (may r.site r.head r.at r.head_at).0 ∙ r.fault_is)
  not_rejected (Squash k) r =
      let may = subst (λ (xs : List Site). MayCopy xs c.heads k) (same_sites r.sites r.addressed.placed) (v.linkable.copies k) in
      r.squash refl (may r.site r.head r.at r.head_at).1
  not_rejected (Code i expected found) r =
      let same = ap (λ (xs : List Site). claimed_code source xs c.heads) (same_sites r.sites r.linkable.addressed.placed) in
      r.differs.differ (sym r.differs.at_is ∙ ap (λ xs. slice_get xs i) (sym (v.code ∙ same)) ∙ r.differs.other_is)
  not_rejected (Data i expected found) r =
      let same = ap (linked_data source board) (same_sites r.sites r.linkable.addressed.placed) in
      r.differs.differ (sym r.differs.at_is ∙ ap (λ xs. slice_get xs i) (sym (v.user_data ∙ same)) ∙ r.differs.other_is)
