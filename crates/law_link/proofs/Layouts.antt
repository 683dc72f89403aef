-- A layout whose branches reach their targets: what holds of each site (`Facts`), where its transfer goes (`Goal`), that its words
-- stand (`Standing`), and so the setting in which its runs are (`setting`).
use Rattle.std.proofs.Common.{◌≡◌, ℕ, ◌+◌, ◌^◌, ◌<◌, ◌≤◌, Bool, true, false, eqb, List, length, All, Option, Some, None, slice_index_or, refl, sym, ap, ◌∙◌, subst, arith, ⊎_elim}
use Rattle.std.proofs.lemmas.Bool.{false≢true}
use Rattle.std.specs.Prelude.{slice_get}
use Rattle.std.proofs.lemmas.Bool.Decides.{nat_tests}
use Rattle.mx_isa.specs.declared.inst.Inst.{Inst}
use Rattle.mx_code.specs.Codes.{HasRegisters}
use Rattle.mx_code.specs.Decoding.{inst_of}
use Rattle.mx_delay.specs.Delay.{Code, code_from}
use Rattle.mx_delay.specs.Clean.{is_inside}
use Rattle.mx_source.specs.declared.statement.Statement.{Statement}
use Rattle.mx_blocks.specs.declared.block.Block.{Block}
use Rattle.mx_blocks.specs.declared.block.End.{End}
use Rattle.mx_blocks.specs.declared.block.End.TheVariants.{Branches, Calls}
use Rattle.mx_blocks.specs.Leaders.{IsBlockOf, is_leader}
use Rattle.mx_blocks.specs.Leaders.{inst_of as statement_inst}
use Rattle.mx_validate.specs.Validity.{Valid}
use Rattle.mx_squash.specs.declared.copying.Copied.{Copied}
use Rattle.mx_squash.specs.Copies.{Site, site_of, is_target, is_branch_end, reaches, no_copies}
use Rattle.mx_squash.specs.Chosen.{copy_fault, copies_of, IsCopied}
use Rattle.mx_layout.specs.Layout.{link_of, plan_size, blocks_in}
use Rattle.mx_layout.specs.Layout.{end_of as end_at}
use Rattle.mx_layout.specs.Overlong.{branch_target}
use Rattle.mx_layout.proofs.Links.{first_link, site_blocks, site_found, link_within, leader_site}
use Rattle.mx_layout.proofs.Reach.{layout_reaches}
use Rattle.mx_layout.proofs.Sizes.{end_short, covered}
use Rattle.mx_link.specs.Origins.{goal_of}
use Rattle.mx_link.specs.Words.{code_of}
use Rattle.mx_link.proofs.Places.{sites_below}
use Rattle.mx_link.proofs.Bodies.{copy_goes_on}
use Rattle.mx_link.proofs.SlotWords.{words_op, copied_none, copyable_small}
use Rattle.mx_link.proofs.Chosen.{fault_cases, fault_small}
use Rattle.mx_link.proofs.Linkable.{Goes}
use Rattle.law_link.proofs.Going.{Stands}
use Rattle.law_link.proofs.Imaged.{piece, piece_spelled, code_stands}
use Rattle.law_link.proofs.Setting.{Known, Setting}
use Rattle.law_link.proofs.Imaged.{RegistersOf}
use Rattle.law_link.specs.Laws.{plan_words}
use Rattle.mx_source.specs.Meaning.{program}
use Rattle.std.proofs.lemmas.Option.{slice_get_within, get_or_from_slice_get}
use Rattle.std.proofs.Common.{cond}

equal : (m n : ℕ) → eqb m n ≡ true → m ≡ n
equal m n e = grind (arith, nat_tests)

-- a block goes to the first statement of its goal
pub goal_first : (e : End) (b : Block) → is_target e b ≡ true → b.first ≡ goal_of e
goal_first (Branches target) b h = equal b.first target h
goal_first (Calls target) b h = equal b.first target h
goal_first _ b h = absurd (false≢true h)

-- the places before the terminator of a site that was found
abbrev pub place_in : Option Site → ℕ
place_in None = 0
place_in (Some s) = s.plan.place

module _ (known : Known) where
  open known use {linking.{filling, source, place, sites as all, bytes}, laid.{well_formed as is, room, layout as h, reach}, bare, fills}

  pub registers : RegistersOf source
  registers i s e =
      subst (λ (x : Statement). HasRegisters (statement_inst x)) (get_or_from_slice_get source.statements i s s e)
      (known.laid.registers i s (slice_get_within source.statements i s e))

  abbrev pub link : ℕ → ℕ
  link = link_of place.code all

  pub end_low : end_at place.code all ≤ 65535
  end_low =
      let e = end_short place.code all h.plans in
      let c = covered source 0 (length source.statements) (blocks_in all) h.blocks in
      omega arith

  pub link_low : (i : ℕ) → link i ≤ 65535
  link_low i = let w = (link_within place.code all i).1 in let e = end_low in omega arith

  pub small : (i : ℕ) → link i + 8 < 2 ^ 31
  small i = let l = link_low i in omega arith

  pub low : (i : ℕ) → place.code ≤ link i
  low i = (link_within place.code all i).0

  -- what holds of the site whose block passes a test
  pub record Facts (s : Site) : Type 0 where
    pub block : IsBlockOf source s.block
    pub valid : Valid s.block s.plan
    pub start : link s.block.first ≡ s.start
    pub below : s.start + plan_size s.plan ≤ end_at place.code all
    pub reaching : (target : ℕ) → branch_target s.block.end ≡ Some target → reaches (s.start + s.plan.place) (link target) ≡ true

  pub facts : All Facts all
  facts k d l = record {
    block = site_blocks Valid source place all h k d l;
    valid = h.plans k d l;
    start = first_link Valid source place all h k d l;
    below = sites_below place.code all h.stand k d l;
    reaching = layout_reaches source place all h.stand h.plans reach k d l;
  }

  -- the goal of a site's transfer
  pub record Goal (s g : Site) : Type 0 where
    pub of : Facts g
    pub first : g.block.first ≡ goal_of s.block.end
    pub found : link (goal_of s.block.end) ≡ g.start

  pub goal_is : (s g : Site) → site_of (is_target s.block.end) all ≡ Some g → Goal s g
  goal_is s g e =
      let f = site_found Facts (is_target s.block.end) all g facts e in
      let first = goal_first s.block.end g.block f.1 in
      let of : Facts g = f.0 in
      record { of = of; first = first; found = ap link (sym first) ∙ of.start }

  goes_plain : (s : Site) → Facts s → Goes source link s no_copies
  goes_plain s f = record {
    short = link_low;
    call = λ target e. (let l = link_low target in omega arith);
    branch = λ target e. ap (reaches (s.start + s.plan.place)) (let q : link target + 0 ≡ link target = omega arith in q)
        ∙ f.reaching target (ap branch_target e);
    copies = λ p k t e x. absurd (copied_none s.plan.place p k e);
  }

  -- so many words are copied, and no rule forbids it
  goes_copied : (n : ℕ) (s g : Site) → Facts s → Goal s g → copy_fault n s (Some g) ≡ None → Goes source link s (copies_of n s (Some g))
  goes_copied n s g f goal allowed = record {
    short = link_low;
    call = λ target e.
        let l : link target ≡ g.start = ap link (sym (ap goal_of e)) ∙ goal.found in
        let few = (fault_small n s g allowed).1 in
        let m = copyable_small g.plan in
        let of : Facts g = goal.of in
        let t = of.valid.tail in
        let b = of.below in
        let o = end_low in
        omega arith;
    branch = λ target e.
        let l : link target ≡ g.start = ap link (sym (ap goal_of e)) ∙ goal.found in
        ⊎_elim
        (λ (z : n ≡ 0). ap (reaches (s.start + s.plan.place)) (let q : link target + n ≡ link target = omega arith in q)
        ∙ f.reaching target (ap branch_target e))
        (λ moves. ap (λ m. reaches (s.start + s.plan.place) (m + n)) l ∙ moves.near (ap is_branch_end e))
        (fault_cases n s g allowed);
    copies = λ p k t e x.
        let op = words_op n s g s.plan.place p k (fault_small n s g allowed).1 e in
        let of : Facts g = goal.of in
        copy_goes_on source g.block g.plan of.block of.valid op.0 k t op.1 (ap (λ m. slice_get source.statements (m + k)) goal.first ∙ x);
  }

  goes_any :
      (s : Site) → Facts s → (o : Option Site) (c : Copied) → site_of (is_target s.block.end) all ≡ o → IsCopied s o c → Goes source link s c
  goes_any s f None c e w = subst (λ (d : Copied). Goes source link s d) (sym w.2) (goes_plain s f)
  goes_any s f (Some g) c e w = subst (λ (d : Copied). Goes source link s d) (sym w.2) (goes_copied w.0 s g f (goal_is s g e) w.1)

  pub goes : (s : Site) → Facts s → Goes source link s (filling all s)
  goes s f = ⊎_elim
      (λ e. subst (λ (c : Copied). Goes source link s c) (sym e) (goes_plain s f))
      (λ e. goes_any s f (site_of (is_target s.block.end) all) (filling all s) refl e.1)
      (fills s)

  abbrev pub words : List ℕ
  words = code_of filling link source.statements all

  abbrev pub code : Code
  code = code_from inst_of place.code words

  abbrev pub inside : ℕ → Bool
  inside = is_inside place (length words)

  abbrev pub piece_of : Site → List Inst
  piece_of s = piece source link filling all s

  stand : All (λ (s : Site). Stands code inside s.start (piece_of s)) all
  stand = code_stands source registers link filling place all h.stand (λ k d l.
      let s = slice_index_or all k d in
      let f : Facts s = facts k d l in
      piece_spelled source registers link is filling all s f.block f.valid (goes s f))

  pub record Standing (s : Site) : Type 0 where
    pub of : Facts s
    pub stands : Stands code inside s.start (piece_of s)

  pub standing : All Standing all
  standing k d l = record { of = facts k d l; stands = stand k d l }

  -- the site of the block that begins at a leader
  pub record Begins (t : ℕ) : Type 0 where
    pub site : Site
    pub found : site_of (λ b. eqb b.first t) all ≡ Some site
    pub first : site.block.first ≡ t
    pub standing : Standing site

  pub begins : (t : ℕ) → is_leader source t ≡ true → t < length source.statements → Begins t
  begins t e l =
      let f = leader_site Valid source place all t h e l in
      let s = site_found Standing (λ b. eqb b.first t) all f.0 standing f.1 in
      record { site = f.0; found = f.1; first = equal f.0.block.first t s.1; standing = s.0 }

  -- what its runs see of it
  abbrev pub setting : Setting
  setting = record {
    program = program source place bytes;
    code = code;
    inside = inside;
    link = link;
    leader = is_leader source;
    place_of = λ t. cond bare 0 (place_in (site_of (λ b. eqb b.first t) all));
    len_of = λ t. plan_words (site_of (λ b. eqb b.first t) all);
    small = small;
    low = low;
  }
