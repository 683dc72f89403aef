-- Each word of a layout spells an instruction.
use Rattle.std.proofs.Common.{◌≡◌, ℕ, ◌+◌, ◌-◌, ◌*◌, ◌<◌, ◌≤◌, true, false, eqb, List, length, All, Option, Some, None, refl, sym, ap, ◌∙◌, subst, ⊎_elim, arith}
use Rattle.std.specs.Prelude.{slice_get, slice_index, slice_index_or}
use Rattle.std.specs.Option.{option_map}
use Rattle.std.proofs.lemmas.Bool.{false≢true}
use Rattle.std.proofs.lemmas.Bool.Decides.{nat_tests}
use Rattle.std.proofs.lemmas.Grind.{common_steps}
use Rattle.std.proofs.lemmas.Option.{none-some, same_Some}
use Rattle.mx_isa.specs.Fields.{InstFits}
use Rattle.mx_source.specs.declared.Statement.{Statement}
use Rattle.mx_source.specs.declared.Statement.TheVariants.{Plain, LaCode, Branch, Call, CallReg, JumpReg, Halt}
use Rattle.mx_source.specs.Labels.{IsPlace}
use Rattle.mx_source.specs.Statements.{StatementFits}
use Rattle.mx_source.specs.SourceValue.{SourceValue, IsSource}
use Rattle.mx_blocks.specs.declared.Block.{Block}
use Rattle.mx_blocks.specs.declared.Item.{Item}
use Rattle.mx_blocks.specs.declared.Item.TheVariants.{Op, Nop}
use Rattle.mx_blocks.specs.declared.End.{End}
use Rattle.mx_blocks.specs.declared.End.TheVariants.{Branches, Calls}
use Rattle.mx_blocks.specs.Ends.{is_last}
use Rattle.mx_blocks.specs.Leaders.{IsBlockOf, size, inst_of, end_of}
use Rattle.mx_validate.specs.Padded.{items_of}
use Rattle.mx_validate.specs.Validity.{Valid}
use Rattle.mx_validate.proofs.Listed.{once_below}
use Rattle.mx_squash.specs.declared.Copied.{Copied}
use Rattle.mx_squash.specs.Copies.{Site, site_of, is_target, is_branch_end, reaches, no_copies}
use Rattle.mx_squash.specs.Chosen.{copy_fault, copies_of}
use Rattle.mx_isa.specs.declared.Place.{Place}
use Rattle.mx_layout.specs.declared.Layout.{Layout}
use Rattle.mx_layout.specs.Layout.{IsLayout, link_of, plan_size, blocks_in}
use Rattle.mx_layout.specs.Layout.{end_of as end_at}
use Rattle.mx_layout.specs.Overlong.{branch_target, overlong}
use Rattle.mx_layout.proofs.Reach.{layout_reaches}
use Rattle.mx_layout.proofs.Sizes.{end_short, covered}
use Rattle.mx_layout.proofs.Links.{site_blocks, first_link, site_found, link_within}
use Rattle.mx_link.specs.declared.code.Slots.{Slots}
use Rattle.mx_link.specs.Origins.{goal_of, own, over, copied_to}
use Rattle.mx_link.specs.Words.{linked_statement, inst_at}
use Rattle.mx_link.specs.Parts.{filling_of, sites_of, link_in, Reach, IsLaidOut, HasWords, origin_at}
use Rattle.mx_link.proofs.Places.{at_place, site_below, sites_below}
use Rattle.mx_link.proofs.Bodies.{is_last_of, last_stands, copy_goes_on}
use Rattle.mx_link.proofs.Fits.{inst_fits}
use Rattle.mx_link.proofs.Relinked.{same_at}
use Rattle.mx_link.proofs.SlotWords.{words_op, copied_none, copyable_small}
use Rattle.mx_link.proofs.Chosen.{fault_cases, fault_small, slots_allowed}

-- where a site's transfer goes behind its copies, and what is copied
pub record Goes (source : SourceValue) (link : ℕ → ℕ) (s : Site) (c : Copied) : Type 0 where
  pub short : (i : ℕ) → link i ≤ 65535
  pub call : (target : ℕ) → s.block.end ≡ Calls target → link target + c.count ≤ 65535
  pub branch : (target : ℕ) → s.block.end ≡ Branches target → reaches (s.start + s.plan.place) (link target + c.count) ≡ true
  pub copies :
      (p k : ℕ) (t : Statement) → copied_to c s.plan.place p ≡ Op k → slice_get source.statements (goal_of s.block.end + k) ≡ Some t
      → is_last (inst_of t) ≡ false

fits_at :
    (source : SourceValue) → IsSource source → (i : ℕ) (t : Statement) → slice_get source.statements i ≡ Some t
    → StatementFits (IsPlace source.labels (length source.statements)) t
fits_at source h i t e = at_place (StatementFits (IsPlace source.labels (length source.statements))) source.statements i t h.statements_fit e

last_false : (t u : Statement) → t ≡ u → is_last (inst_of u) ≡ true → is_last (inst_of t) ≡ false → ⊥
last_false t u e h f = false≢true (sym f ∙ ap (λ x. is_last (inst_of x)) e ∙ h)

pub has_words :
    (source : SourceValue) (link : ℕ → ℕ) (s : Site) (c : Copied) → IsSource source → IsBlockOf source s.block → Valid s.block s.plan
    → Goes source link s c → HasWords link source.statements s c
has_words source link s c is b v g p item e = by_copied (copied_to c s.plan.place p) refl
  where
    at : ℕ
    at = s.start + p

    of_copy :
        (k : ℕ) → copied_to c s.plan.place p ≡ Op k → (o : Option Statement) → slice_get source.statements (goal_of s.block.end + k) ≡ o
        → InstFits (linked_statement link no_copies at o)
    of_copy k f None h = tt
    of_copy k f (Some t) h =
        let quiet = g.copies p k t f h in
        inst_fits (IsPlace source.labels (length source.statements)) link no_copies at t (fits_at source is (goal_of s.block.end + k) t h) g.short
        (λ d target x. absurd (last_false t (Call d target) x refl quiet))
        (λ a a' k' target x. absurd (last_false t (Branch a a' k' target) x refl quiet))

    of_own :
        (k : ℕ) → item ≡ Op k → (o : Option Statement) → slice_get source.statements (s.block.first + k) ≡ o
        → InstFits (linked_statement link c at o)
    of_own k f None h = tt
    of_own k f (Some t) h =
        let stands = e ∙ ap (λ x. Some x) f in
        let low = once_below (size s.block) (items_of s.plan) v.once p k stands in
        inst_fits (IsPlace source.labels (length source.statements)) link c at t (fits_at source is (s.block.first + k) t h) g.short
        (λ d target x.
        let last = is_last_of source s.block b k t low h (ap (λ y. is_last (inst_of y)) x) in
        g.call target (last.end ∙ ap end_of x))
        (λ a a' k' target x.
        let last = is_last_of source s.block b k t low h (ap (λ y. is_last (inst_of y)) x) in
        let place = last_stands source s.block s.plan v k t last p stands in
        ap (λ n. reaches (s.start + n) (link target + c.count)) place ∙ g.branch target (last.end ∙ ap end_of x))

    by_item : (x : Item) → item ≡ x → InstFits (inst_at link source.statements c at (own s.block.first x))
    by_item Nop f = tt
    by_item (Op k) f = of_own k f (slice_get source.statements (s.block.first + k)) refl

    by_copied :
        (x : Item) → copied_to c s.plan.place p ≡ x → InstFits
        (inst_at link source.statements c at (over (goal_of s.block.end) x (own s.block.first item)))
    by_copied Nop f = by_item item refl
    by_copied (Op k) f = of_copy k f (slice_get source.statements (goal_of s.block.end + k)) refl

-- the statement to which a block goes is one of the source, or the end
pub goal_small : (source : SourceValue) (block : Block) → IsSource source → IsBlockOf source block → goal_of block.end ≤ length source.statements
goal_small source block is b = by_last (slice_get source.statements (block.first + size block - 1)) refl
  where
    by_statement : (t : Statement) → StatementFits (IsPlace source.labels (length source.statements)) t → goal_of (end_of t) ≤ length source.statements
    by_statement (Plain inst) h = omega arith
    by_statement (LaCode dest target) h = omega arith
    by_statement (Branch a b k target) h = h.within
    by_statement (Call dest target) h = h.within
    by_statement (CallReg a dest) h = omega arith
    by_statement (JumpReg a) h = omega arith
    by_statement Halt h = omega arith

    by_last : (o : Option Statement) → slice_get source.statements (block.first + size block - 1) ≡ o → goal_of block.end ≤ length source.statements
    by_last None e = absurd (none-some block.end (sym (ap (option_map end_of) e) ∙ b.end))
    by_last (Some t) e =
        subst (λ (x : End). goal_of x ≤ length source.statements) (same_Some (end_of t) block.end (sym (ap (option_map end_of) e) ∙ b.end))
        (by_statement t (fits_at source is (block.first + size block - 1) t e))

-- valid plans of a source one behind the other, so that each branch reaches its target and each address fits
pub record Laid (source : SourceValue) (place : Place) (all : List Site) : Type 0 where
  pub layout : IsLayout Valid source place all
  pub reach : Reach place all
  pub below : end_at place.code all ≤ 65535

pub laid :
    (source : SourceValue) (place : Place) (all : List Site) → IsLayout Valid source place all → overlong source place (blocks_in all) ≡ None
    → place.code + 3 * length source.statements ≤ 65535 → Laid source place all
laid source place all layout fits room = record {
  layout = layout;
  reach = layout_reaches source place all layout.stand layout.plans fits;
  below =
      let end = end_short place.code all layout.plans in
      let whole = covered source 0 (length source.statements) (blocks_in all) layout.blocks in
      omega arith;
}

block_of :
    (source : SourceValue) (place : Place) (all : List Site) (k : ℕ) (s : Site) → Laid source place all → slice_get all k ≡ Some s
    → IsBlockOf source s.block
block_of source place all k s h e = at_place (λ (x : Site). IsBlockOf source x.block) all k s (site_blocks Valid source place all h.layout) e

link_short : (source : SourceValue) (place : Place) (all : List Site) → Laid source place all → (i : ℕ) → link_of place.code all i ≤ 65535
link_short source place all h i = let within = (link_within place.code all i).1 in let below = h.below in omega arith

-- nothing is copied
goes_plain :
    (source : SourceValue) (place : Place) (all : List Site) (k : ℕ) (s : Site) (c : Copied) → Laid source place all → slice_get all k ≡ Some s
    → c.count ≡ 0 → ((p j : ℕ) (t : Statement) → copied_to c s.plan.place p ≡ Op j
    → slice_get source.statements (goal_of s.block.end + j) ≡ Some t → is_last (inst_of t) ≡ false) → Goes source (link_of place.code all) s c
goes_plain source place all k s c h e none copies = record {
  short = link_short source place all h;
  call = λ target f. (let low = link_short source place all h target in omega arith);
  branch = λ target f.
      let link : link_of place.code all target + c.count ≡ link_of place.code all target = omega arith in
      ap (reaches (s.start + s.plan.place)) link
      ∙ at_place (λ (x : Site). (t : ℕ) → branch_target x.block.end ≡ Some t
      → reaches (x.start + x.plan.place) (link_of place.code all t) ≡ true) all k s h.reach e target (ap branch_target f);
  copies = copies;
}

-- the goal of a site's copies
record IsGoal (source : SourceValue) (place : Place) (all : List Site) (s g : Site) : Type 0 where
  is : is_target s.block.end g.block ≡ true
  link : link_of place.code all g.block.first ≡ g.start
  block : IsBlockOf source g.block
  valid : Valid g.block g.plan
  below : g.start + plan_size g.plan ≤ 65535

goal_is :
    (source : SourceValue) (place : Place) (all : List Site) (s g : Site) (h : Laid source place all) → site_of (is_target s.block.end) all ≡ Some g
    → IsGoal source place all s g
goal_is source place all s g h e =
    let test = is_target s.block.end in
    let at = place.code in
    let link = site_found (λ (x : Site). link_of at all x.block.first ≡ x.start) test all g (first_link Valid source place all h.layout) e in
    let block = site_found (λ (x : Site). IsBlockOf source x.block) test all g (site_blocks Valid source place all h.layout) e in
    let valid = site_found (λ (x : Site). Valid x.block x.plan) test all g h.layout.plans e in
    let low = site_found (λ (x : Site). x.start + plan_size x.plan ≤ end_at at all) test all g (sites_below at all h.layout.stand) e in
    let end = h.below in record {
      is = link.1;
      link = link.0;
      block = block.0;
      valid = valid.0;
      below = let own = low.0 in omega arith;
    }

equal_from_test : (m n : ℕ) → eqb m n ≡ true → m ≡ n
equal_from_test m n e = grind (arith, nat_tests)

-- a block goes to the first statement of its goal
goal_first : (e : End) (b : Block) → is_target e b ≡ true → b.first ≡ goal_of e
goal_first (Branches target) b h = equal_from_test b.first target h
goal_first (Calls target) b h = equal_from_test b.first target h
goal_first _ b h = absurd (false≢true h)

words_go_on :
    (source : SourceValue) (place : Place) (all : List Site) (n : ℕ) (s g : Site) → IsGoal source place all s g → copy_fault n s (Some g) ≡ None
    → (p k : ℕ) (t : Statement) → copied_to (copies_of n s (Some g)) s.plan.place p ≡ Op k
    → slice_get source.statements (goal_of s.block.end + k) ≡ Some t → is_last (inst_of t) ≡ false
words_go_on source place all n s g goal allowed p k t e f =
    let op = words_op n s g s.plan.place p k (fault_small n s g allowed).1 e in
    let first = goal_first s.block.end g.block goal.is in
    copy_goes_on source g.block g.plan goal.block goal.valid op.0 k t op.1 (ap (λ n. slice_get source.statements (n + k)) first ∙ f)

-- so many words of the target are copied
goes_copied :
    (source : SourceValue) (place : Place) (all : List Site) (n k : ℕ) (s g : Site) → Laid source place all → slice_get all k ≡ Some s
    → IsGoal source place all s g → copy_fault n s (Some g) ≡ None → Goes source (link_of place.code all) s (copies_of n s (Some g))
goes_copied source place all n k s g h e goal allowed = ⊎_elim
    (λ none. goes_plain source place all k s (copies_of n s (Some g)) h e none (words_go_on source place all n s g goal allowed))
    (λ moves. record {
      short = link_short source place all h;
      call = λ target f.
          let link = links_there target (ap goal_of f) in
          let small = moves.front in
          let low = copyable_small g.plan in
          let tail = goal.valid.tail in
          let below = goal.below in
          omega arith;
      branch = λ target f.
          ap (λ at. reaches (s.start + s.plan.place) (at + n)) (links_there target (ap goal_of f)) ∙ moves.near (ap is_branch_end f);
      copies = words_go_on source place all n s g goal allowed;
    })
    (fault_cases n s g allowed)
  where
    links_there : (target : ℕ) → goal_of s.block.end ≡ target → link_of place.code all target ≡ g.start
    links_there target f =
        let same : target ≡ g.block.first = sym (goal_first s.block.end g.block goal.is ∙ f) in
        ap (link_of place.code all) same ∙ goal.link

none_goes_on :
    (source : SourceValue) (s : Site) (p k : ℕ) (t : Statement) → copied_to no_copies s.plan.place p ≡ Op k
    → slice_get source.statements (goal_of s.block.end + k) ≡ Some t → is_last (inst_of t) ≡ false
none_goes_on source s p k t e f = absurd (copied_none s.plan.place p k e)

goes :
    (source : SourceValue) (place : Place) (all : List Site) (slots : Slots) (k : ℕ) (s : Site) → Laid source place all → slice_get all k ≡ Some s
    → Goes source (link_of place.code all) s (filling_of slots all s)
goes source place all slots k s h e =
    let allowed = slots_allowed slots all s in
    subst (λ (c : Copied). Goes source (link_of place.code all) s c) (sym allowed.2)
    (by_goal allowed.0 (site_of (is_target s.block.end) all) refl allowed.1)
  where
    by_goal :
        (n : ℕ) (o : Option Site) → site_of (is_target s.block.end) all ≡ o → copy_fault n s o ≡ None
        → Goes source (link_of place.code all) s (copies_of n s o)
    by_goal n None f allowed = goes_plain source place all k s no_copies h e refl (none_goes_on source s)
    by_goal n (Some g) f allowed = goes_copied source place all n k s g h e (goal_is source place all s g h f) allowed

-- each instruction of a laid out source has a word
pub all_fit :
    (source : SourceValue) (place : Place) (all : List Site) (slots : Slots) (k : ℕ) (s : Site) → IsSource source → Laid source place all
    → slice_get all k ≡ Some s → HasWords (link_of place.code all) source.statements s (filling_of slots all s)
all_fit source place all slots k s is h e =
    has_words source (link_of place.code all) s (filling_of slots all s) is (block_of source place all k s h e)
    (at_place (λ (x : Site). Valid x.block x.plan) all k s h.layout.plans e) (goes source place all slots k s h e)

laid_out : (source : SourceValue) (l : Layout) (h : IsLaidOut source l) → Laid source h.place (sites_of l)
laid_out source l h = record {
  layout = h.layout;
  reach = h.reach;
  below = let short = h.short in let room = h.room in omega arith;
}

-- what pushing the words of a site asks
pub record IsLinkable (links : List ℕ) (statements : List Statement) (s : Site) (c : Copied) : Type 0 where
  pub short : All (λ link. link ≤ 65535) links
  pub within : s.start + length (items_of s.plan) ≤ 65535
  pub first : s.block.first ≤ 20000
  pub goal : goal_of s.block.end ≤ 20000
  pub fits : HasWords (slice_index links) statements s c

linkable_site :
    (source : SourceValue) (l : Layout) (slots : Slots) (k : ℕ) (s : Site) → IsSource source → IsLaidOut source l → slice_get (sites_of l) k ≡ Some s
    → IsLinkable l.links.items source.statements s (filling_of slots (sites_of l) s)
linkable_site source l slots k s is h e =
    let all = sites_of l in
    let code = h.place.code in
    let laid = laid_out source l h in
    let block = block_of source h.place all k s laid e in
    let few = is.few_statements in
    let below = laid.below in
    let c = filling_of slots all s in record {
      short = λ i d low. subst (λ n. n ≤ 65535) (get_or_same l.links.items i 0 d low)
          (let same = h.links i (let count = h.links_count in omega arith) in let short = link_short source h.place all laid i in omega arith);
      within = let low = site_below code all h.layout.stand k s e in omega arith;
      first = let within = block.within in omega arith;
      goal = let small = goal_small source s.block is block in omega arith;
      fits = λ p item f. subst InstFits (sym (same_at source (link_in l) (link_of code all) c (s.start + p) (origin_at s c p item) is h.links))
          (all_fit source h.place all slots k s is laid e p item f);
    }
  where
    get_or_same : (xs : List ℕ) (i d e : ℕ) → i < length xs → slice_index_or xs i d ≡ slice_index_or xs i e
    get_or_same xs i d e low = grind (arith, common_steps)

pub linkable :
    (source : SourceValue) (l : Layout) (slots : Slots) (k : ℕ) (s : Site) (links : List ℕ) (statements : List Statement) (c : Copied) → IsSource source
    → IsLaidOut source l → slice_get (sites_of l) k ≡ Some s → links ≡ l.links.items → statements ≡ source.statements
    → c ≡ filling_of slots (sites_of l) s → IsLinkable links statements s c
linkable source l slots k s links statements c is h e f g i =
    subst (λ (x : Copied). IsLinkable links statements s x) (sym i)
    (subst (λ (x : List Statement). IsLinkable links x s (filling_of slots (sites_of l) s)) (sym g)
    (subst (λ (x : List ℕ). IsLinkable x source.statements s (filling_of slots (sites_of l) s)) (sym f)
    (linkable_site source l slots k s is h e)))
