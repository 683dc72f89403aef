-- The block of each leader stands as the laws on one block want it (`placed`): its body, its plan, and how it ends, which its last
-- statement tells (`ends`).
use Rattle.std.proofs.Common.{◌≡◌, ℕ, pos, negsuc, zero, suc, ◌+◌, ◌-◌, ◌%◌, ◌^◌, ◌<◌, ◌≤◌, Bool, true, false, cond, eqb, leb, not, ◌&&◌, List, [], ◌∷◌, ◌++◌, length, take, All, Option, Some, None, slice_index_or, refl, sym, ap, ◌∙◌, subst, arith, inl}
use Rattle.std.specs.Prelude.{slice_get}
use Rattle.std.specs.Int.{w32, cast_unsigned}
use Rattle.std.specs.Option.{option_map}
use Rattle.std.proofs.lemmas.Bool.{and_parts, eqb-true, false≢true}
use Rattle.std.proofs.lemmas.Bool.Decides.{nat_tests}
use Rattle.std.proofs.lemmas.List.{length-map, map-append}
use Rattle.std.proofs.lemmas.Option.{same_Some, none-some}
use Rattle.mx_isa.specs.declared.inst.Cond.{Cond}
use Rattle.mx_isa.specs.declared.inst.Cond.TheVariants.{Eq}
use Rattle.mx_isa.specs.declared.inst.Inst.{Inst}
use Rattle.mx_isa.specs.declared.inst.Inst.TheVariants.{Jspci}
use Rattle.mx_isa.specs.declared.inst.Inst.TheVariants.{Branch as BranchInst}
use Rattle.mx_isa.specs.Words.{Words, reg}
use Rattle.mx_isa.specs.Arithmetic.{condition_holds}
use Rattle.mx_depend.specs.Graphs.{inst_at as inst_number}
use Rattle.mx_source.specs.declared.statement.Statement.{Statement}
use Rattle.mx_source.specs.declared.statement.Statement.TheVariants.{Plain, LaCode, Branch, Call, CallReg, JumpReg, Halt}
use Rattle.mx_source.specs.Labels.{IsPlace}
use Rattle.mx_source.specs.Statements.{StatementFits}
use Rattle.mx_source.specs.SourceValue.{SourceValue}
use Rattle.mx_source.specs.Values.{value_in}
use Rattle.mx_source.specs.Meaning.{State, jumps, execute}
use Rattle.mx_blocks.specs.declared.block.Block.{Block}
use Rattle.mx_blocks.specs.declared.block.Item.{Item}
use Rattle.mx_blocks.specs.declared.block.Item.TheVariants.{Op}
use Rattle.mx_blocks.specs.declared.block.End.TheVariants.{Falls as FallsEnd, Jumps as JumpsEnd}
use Rattle.mx_blocks.specs.Leaders.{is_leader, end_of, size, BlocksFrom}
use Rattle.mx_blocks.proofs.LeadersBegin.{block_small}
use Rattle.mx_validate.specs.Padded.{items_of, falls, body_count}
use Rattle.mx_squash.specs.declared.copying.Copied.{Copied}
use Rattle.mx_squash.specs.Copies.{reaches, Site, site_of, is_target, always_goes, terminator, is_branch_end, may_stay}
use Rattle.mx_layout.specs.Layout.{link_of, plan_size, StandFrom, blocks_in, has_statement}
use Rattle.mx_link.specs.Origins.{own, goal_of}
use Rattle.mx_link.specs.Words.{displacement, linked_inst, inst_at}
use Rattle.mx_link.specs.Parts.{origin_at}
use Rattle.mx_link.proofs.Bodies.{inst_is}
use Rattle.mx_link.proofs.Linkable.{Goes}
use Rattle.law_order.specs.Parts.{AreBelow, EndsWith, IsTransfer, Parts}
use Rattle.law_order.proofs.Split.{has_parts, below_left, below_right}
use Rattle.law_order.proofs.Words.{item_inst, words}
use Rattle.law_link.specs.Laws.{plan_words}
use Rattle.law_link.proofs.Going.{Stands}
use Rattle.law_link.proofs.Planned.{bodies_length, size_ends}
use Rattle.law_link.proofs.Codes.{place_leads, statement_fits}
use Rattle.law_link.proofs.Sited.{body, there, inst_there, words_from, plain_word_at, end_word}
use Rattle.mx_layout.proofs.Links.{site_found, first_low}
use Rattle.law_link.proofs.Layouts.{place_in, goes, begins, end_low, setting}
use Rattle.law_link.proofs.Slots.{never, Stood, linked_site, insts_at, planned_at, parts_stand, Slotted, slots_there, filled_there, own_slots}
use Rattle.law_link.proofs.Transfers.{Lay, Kind, Branches, Calls, IsBranch, IsCall, EndOf, Falls, Stops, Moves, Jumps}
use Rattle.law_link.proofs.OneBlock.{Slots, Transfers}
use Rattle.law_link.proofs.Whole.{Placed}
use Rattle.law_link.proofs.Setting.{Known, PlannedBlock}

behind_block : (t : ℕ) (b : Block) → b.first + size b ≤ t → has_statement t b ≡ false
behind_block t b l = grind (arith, nat_tests)

in_block : (t : ℕ) (b : Block) → b.first ≡ t → 1 ≤ size b → has_statement t b ≡ true
in_block t b e l = grind (arith, nat_tests)

-- behind each block the next one begins
pub next_links :
    (source : SourceValue) (i j at : ℕ) (list : List Site) → BlocksFrom source i j (blocks_in list) → StandFrom at list
    → All (λ (s : Site). link_of at list (s.block.first + size s.block) ≡ s.start + plan_size s.plan) list
next_links source i j at [] h st k d l = absurd (omega arith)
next_links source i j at (s ∷ list) h st zero d l =
    ap (λ c. cond c at (link_of (at + plan_size s.plan) list (s.block.first + size s.block)))
    (behind_block (s.block.first + size s.block) s.block (omega arith))
    ∙ at_next list h.2
    ∙ ap (λ n. n + plan_size s.plan) (sym st.0)
  where
    at_next :
        (rest : List Site) → BlocksFrom source (i + size s.block) j (blocks_in rest)
        → link_of (at + plan_size s.plan) rest (s.block.first + size s.block) ≡ at + plan_size s.plan
    at_next [] b = refl
    at_next (r ∷ rest) b =
        let first = h.0 in
        let begin = b.0 in
        ap (λ c. cond c (at + plan_size s.plan) (link_of (at + plan_size s.plan + plan_size r.plan) rest (s.block.first + size s.block)))
        (in_block (s.block.first + size s.block) r.block (omega arith) b.1.some)
next_links source i j at (s ∷ list) h st (suc k) d l =
    let r = slice_index_or list k d in
    let first = h.0 in
    let above = first_low source (i + size s.block) j list k d h.2 (omega arith) in
    ap (λ c. cond c at (link_of (at + plan_size s.plan) list (r.block.first + size r.block)))
    (behind_block (r.block.first + size r.block) s.block (omega arith))
    ∙ next_links source (i + size s.block) j (at + plan_size s.plan) list h.2 st.1 k d (omega arith)

-- a displacement leads from one address to the other
displaced : (a z : ℕ) → a < 2 ^ 31 → z < 2 ^ 31 → (a + cast_unsigned w32 (displacement a z)) % 2 ^ 31 ≡ z
displaced a z h k = by_order (leb a z) refl
  where
    by_order : (b : Bool) → leb a z ≡ b → (a + cast_unsigned w32 (cond b (pos (z - a)) (negsuc (a - z - 1)))) % 2 ^ 31 ≡ z
    by_order true e = let l : a ≤ z = grind (arith, nat_tests) in omega arith
    by_order false e = let l : z < a = grind (arith, nat_tests) in omega arith

-- beq r0,r0 goes whatever registers hold
always_holds :
    (a b : ℕ) (condition : Cond) (f : Words) → always_goes (Some (BranchInst a b condition false (pos 0))) ≡ true
    → condition_holds condition (reg f a) (reg f b) ≡ true
always_holds a b Eq f e =
    let both = and_parts (eqb a 0) (eqb b 0) e in
    let za = eqb-true a 0 both.0 in
    let zb = eqb-true b 0 both.1 in
    (λ k. condition_holds Eq (reg f (za k)) (reg f (zb k)))
always_holds a b _ f e = absurd (false≢true e)

module _ (known : Known) where
  open known use {linking.{filling, source, place, sites as all}, laid.{well_formed as is, layout as h}, bare}
  open setting known use {program as p, link, code as cd, inside as ins, place_of, len_of}

  abbrev pub PlacedAt : ℕ → Type 0
  PlacedAt t = Placed (setting known) t

  abbrev pub LayAt : ℕ → Type 0
  LayAt t = Lay (setting known) t

  abbrev pub EndAt : (t : ℕ) → LayAt t → Type 0
  EndAt t w = EndOf (setting known) t w

  abbrev StoodAt : Site → Type 0
  StoodAt s = Stood known s

  module _ (s : Site) (st : StoodAt s) (next_is : link (s.block.first + size s.block) ≡ s.start + plan_size s.plan) where
    abbrev c : Copied
    c = filling all s

    abbrev first : ℕ
    first = s.block.first

    abbrev n : ℕ
    n = body_count s.block

    abbrev list : List Inst
    list = insts_at known s st

    abbrev parts : Parts s.block s.plan
    parts = has_parts s.block s.plan st.of.valid

    abbrev front : List Item
    front = parts.front

    abbrev back : List Item
    back = parts.back

    abbrev planned : PlannedBlock p.input
    planned = planned_at known s st parts

    abbrev pub lay : LayAt first
    lay = record {
      planned = planned;
      few = block_small source s.block st.of.block;
      body = body (linked_site known s st);
      next = next_is ∙ ap (λ a. a + plan_size s.plan) (sym st.of.start);
      lead = st.of.block.next;
    }

    -- the site of the last statement
    abbrev final : ℕ
    final = size s.block - 1

    abbrev seen : ℕ → Item → Inst
    seen a item = inst_at link source.statements c a (own first item)

    goes_here : Goes source link s c
    goes_here = goes known s st.of

    place_is : s.plan.place ≡ length front
    place_is = parts.place

    inner_is : length (take n list) ≡ n
    inner_is = bodies_length p.input planned

    last_is : falls s.block.end ≡ false → n ≡ final
    last_is f = let e = size_ends p.input planned f in let b = st.of.block.some in omega arith

    -- the words from the terminator's place on
    abbrev tail_words : List Item → List Inst
    tail_words items = words_from (linked_site known s st) (length front) items

    abbrev StandsHere : ℕ → List Inst → Type 0
    StandsHere = Stands cd ins

    stands_here : (items : List Item) (tail : List Inst) → back ≡ items → tail_words items ≡ tail → StandsHere (link first) (words list front ++ tail)
    stands_here items tail e f =
        subst (λ a. StandsHere a (words list front ++ tail)) (sym st.of.start)
        (subst (λ l. StandsHere s.start (words list front ++ l)) (ap tail_words e ∙ f)
        (parts_stand known s st parts))

    -- the terminator's word
    ender_word : n < size s.block → inst_at link source.statements c (s.start + length front) (origin_at s c (length front) (Op n)) ≡ inst_number list n
    ender_word l =
        (λ k. inst_at link source.statements c (s.start + sym place_is k) (origin_at s c (sym place_is k) (Op n)))
        ∙ plain_word_at (linked_site known s st) s.plan.place (Op n) (omega arith)
        ∙ end_word (linked_site known s st) n l

    words_all : (items : List Item) → back ≡ items → words list (items_of s.plan) ≡ words list front ++ words list items
    words_all items e = ap (words list) (parts.whole ∙ ap (λ l. front ++ l) e) ∙ map-append (item_inst list) front items

    -- the last statement, by its block's end
    record Last (z : Statement) : Type 0 where
      at : slice_get source.statements (first + final) ≡ Some z
      end : s.block.end ≡ end_of z

    end_parts : (z : Statement) → Last z → EndsWith (end_of z) n back
    end_parts z l = subst (λ e. EndsWith e n back) l.end parts.end

    -- the statement behind the body, and its instruction
    behind_body : (z : Statement) → Last z → falls s.block.end ≡ false → slice_get source.statements (first + length (take n list)) ≡ Some z
    behind_body z l f =
        (let e : first + length (take n list) ≡ first + final = (let a = inner_is in let b = last_is f in omega arith) in ap (slice_get source.statements) e)
        ∙ l.at

    ender_is : (z : Statement) → Last z → falls s.block.end ≡ false → inst_number list n ≡ linked_inst link c (s.start + s.plan.place) z
    ender_is z l f =
        let b = last_is f in
        let some = st.of.block.some in
        let w : n < size s.block = omega arith in
        let t = there (linked_site known s st) n w in
        let on : first + n ≡ first + final = omega arith in
        inst_there (linked_site known s st) n w
        ∙ ap (linked_inst link c (s.start + s.plan.place)) (same_Some t.statement z (sym t.is_there ∙ ap (slice_get source.statements) on ∙ l.at))

    -- a transfer to a statement that it names has the copies of its site, and a jump has none
    abbrev pub HasCopies : EndAt first lay → Type 0
    HasCopies (Falls f none st) = Unit {0}
    HasCopies (Stops f one stop is st) = Unit {0}
    HasCopies (Moves b slots kind filled lead st) =
        (slots.target ≡ goal_of s.block.end) × (slots.count ≡ c.count) × (slots.squash ≡ c.squash) × (slots.sure ≡ not (may_stay s.block))
    HasCopies (Jumps b jump st) = site_of (is_target s.block.end) all ≡ None

    -- how the block ends, with its copies
    pub record CopiedEnd : Type 0 where
      pub end : EndAt first lay
      pub copies : HasCopies end

    falls_end : (z : Statement) → Last z → end_of z ≡ FallsEnd → CopiedEnd
    falls_end z l e =
        let none : back ≡ [] = subst (λ x. EndsWith x n back) e (end_parts z l) in
        record {
          end =
              Falls (ap falls (l.end ∙ e)) none
              (subst (StandsHere (link first)) (sym (words_all [] none)) (stands_here [] [] none refl));
          copies = tt;
        }

    stops_end : Last Halt → CopiedEnd
    stops_end l =
        let f : falls s.block.end ≡ false = ap falls l.end in
        let one : back ≡ Op n ∷ [] = end_parts Halt l in
        let b = last_is f in
        let some = st.of.block.some in
        let w : n < size s.block = omega arith in
        record {
          end =
              Stops f one (behind_body Halt l f) (ender_is Halt l f)
              (subst (StandsHere (link first)) (sym (words_all (Op n ∷ []) one))
              (stands_here (Op n ∷ []) (inst_number list n ∷ []) one (λ k. ender_word w k ∷ [])));
          copies = tt;
        }

    at_low : s.start + s.plan.place < 2 ^ 31
    at_low =
        let b = st.of.below in
        let e = end_low known in
        let t = st.of.valid.tail in
        omega arith

    place_there : link first + length (words list front) ≡ s.start + s.plan.place
    place_there =
        let a = st.of.start in
        let e = place_is in
        let m = length-map front (item_inst list) in
        omega arith

    -- as far as a branch reaches, addresses are low
    near_low : (to : ℕ) → reaches (s.start + s.plan.place) to ≡ true → to < 2 ^ 31
    near_low to e =
        let parts = and_parts (leb to (s.start + s.plan.place + 32767)) (leb (s.start + s.plan.place) (to + 32768)) e in
        let q = at_low in
        let r : to ≤ s.start + s.plan.place + 32767 = under to (s.start + s.plan.place + 32767) parts.0 in
        let b = st.of.below in
        let m = end_low known in
        let v = st.of.valid.tail in
        omega arith
      where
        under : (m k : ℕ) → leb m k ≡ true → m ≤ k
        under m k e = grind (arith, nat_tests)

    abbrev TransfersHere : Type 0
    TransfersHere = Transfers (setting known) first lay

    -- a transfer and its slots
    module _ (f_not : falls s.block.end ≡ false) (t : IsTransfer n back) where
      below_f : AreBelow n (t.first ∷ [])
      below_f = below_left n (t.first ∷ []) (t.second ∷ []) t.slots

      below_g : AreBelow n (t.second ∷ [])
      below_g = below_right n (t.first ∷ []) (t.second ∷ []) t.slots

      abbrev transfers : TransfersHere
      transfers = record { f_not = f_not; f = t.first; g = t.second; three = t.is; below = t.slots }

      abbrev slotted : Slotted known
      slotted = record { site = s; standing = st; parts = parts; f = t.first; g = t.second; three = t.is; below_f = below_f; below_g = below_g }

      abbrev slots : Slots (setting known)
      slots = slots_there known slotted

      abbrev first_slot : Inst
      first_slot = slots.first

      abbrev second_slot : Inst
      second_slot = slots.second

      three_words : n < size s.block → tail_words (Op n ∷ t.first ∷ t.second ∷ []) ≡ inst_number list n ∷ first_slot ∷ second_slot ∷ []
      three_words l =
          (λ k. ender_word l k ∷ inst_at link source.statements c (one k) (origin_at s c (one_on k) t.first) ∷ inst_at link source.statements c (two k)
          (origin_at s c (two_on k) t.second) ∷ [])
        where
          one_on : suc (length front) ≡ s.plan.place + 1
          one_on = let e = place_is in omega arith

          two_on : suc (suc (length front)) ≡ s.plan.place + 2
          two_on = let e = place_is in omega arith

          one : suc (s.start + length front) ≡ s.start + (s.plan.place + 1)
          one = let e = place_is in omega arith

          two : suc (suc (s.start + length front)) ≡ s.start + (s.plan.place + 2)
          two = let e = place_is in omega arith

      stand_three : StandsHere (link first) (words list front ++ inst_number list n ∷ first_slot ∷ second_slot ∷ [])
      stand_three =
          let b = last_is f_not in
          let some = st.of.block.some in
          let w : n < size s.block = omega arith in
          stands_here (Op n ∷ t.first ∷ t.second ∷ []) (inst_number list n ∷ first_slot ∷ second_slot ∷ []) t.is (three_words w)

      -- to the block at the goal
      moves : Kind (setting known) first lay slots → is_leader source slots.target ≡ true → CopiedEnd
      moves kind lead = record {
        end = Moves transfers slots kind (filled_there known slotted) (inl lead) stand_three;
        copies = (refl, refl, refl, refl);
      }

      -- by a register
      jumps_end :
          (a d : ℕ) (z : Statement) → Last z → end_of z ≡ JumpsEnd → ((u : State) → execute p (Some z) u ≡ jumps (value_in u.regs a) d u)
          → inst_number list n ≡ Jspci a d (pos 0) → CopiedEnd
      jumps_end a d z l e means ender =
          let none = ap (λ q. site_of (is_target q) all) (l.end ∙ e) ∙ never all in
          let own = own_slots known slotted none in
          record {
            end =
                Jumps transfers
                (record { a = a; d = d; means = λ u. ap (λ o. execute p o u) (behind_body z l f_not) ∙ means u; is = ender })
                (subst (StandsHere (link first)) (λ k. words list front ++ inst_number list n ∷ own.first k ∷ own.second k ∷ []) stand_three);
            copies = none;
          }

      branches : (a b : ℕ) (condition : Cond) (u : ℕ) → Last (Branch a b condition u) → IsBranch (setting known) first lay slots
      branches a b condition u l =
          let z = Branch a b condition u in
          let goal : u ≡ slots.target = sym (ap goal_of l.end) in
          let near = goes_here.branch u l.end in
          let from = s.start + s.plan.place in
          let to = link slots.target + c.count in
          record {
            a = a;
            c = b;
            condition = condition;
            by = displacement from to;
            statement = behind_body z l f_not ∙ ap (λ v. Some (Branch a b condition v)) goal;
            is = ender_is z l f_not ∙ ap (λ v. BranchInst a b condition c.squash (displacement from (link v + c.count))) goal;
            reach = ap (λ q. (q + cast_unsigned w32 (displacement from to)) % 2 ^ 31) place_there
                ∙ displaced from to at_low (subst (λ v. link v + c.count < 2 ^ 31) goal (near_low (link u + c.count) near));
            surely =
                λ sure g. always_holds a b condition g (always (is_branch_end s.block.end) (always_goes (terminator s.block)) (ap is_branch_end l.end) sure
                (ap always_goes (inst_is source s.block st.of.block final z (let some = st.of.block.some in omega arith) l.at)));
          }
        where
          always : (v w : Bool) {q : Bool} → v ≡ true → not (v && not w) ≡ true → w ≡ q → q ≡ true
          always v w e g r = sym r ∙ both v w e g
            where
              both : (v w : Bool) → v ≡ true → not (v && not w) ≡ true → w ≡ true
              both v w e g = grind arith

      calls : (d u : ℕ) → Last (Call d u) → IsCall (setting known) first lay slots
      calls d u l =
          let goal : u ≡ slots.target = sym (ap goal_of l.end) in
          record {
            d = d;
            statement = behind_body (Call d u) l f_not ∙ ap (λ v. Some (Call d v)) goal;
            is = ender_is (Call d u) l f_not ∙ ap (λ v. Jspci 0 d (pos (link v + c.count))) goal;
          }

    ends : (z : Statement) → Last z → StatementFits (IsPlace source.labels (length source.statements)) z → CopiedEnd
    ends (Plain i) l fit = falls_end (Plain i) l refl
    ends (LaCode d t) l fit = falls_end (LaCode d t) l refl
    ends (Branch a b condition t) l fit =
        let not_on = ap falls l.end in
        let back = end_parts (Branch a b condition t) l in
        moves not_on back (Branches (branches not_on back a b condition t l)) (ap (is_leader source) (ap goal_of l.end) ∙ place_leads source is t fit)
    ends (Call d t) l fit =
        let not_on = ap falls l.end in
        let back = end_parts (Call d t) l in
        moves not_on back (Calls (calls not_on back d t l)) (ap (is_leader source) (ap goal_of l.end) ∙ place_leads source is t fit)
    ends (CallReg a d) l fit =
        let not_on = ap falls l.end in
        jumps_end not_on (end_parts (CallReg a d) l) a d (CallReg a d) l refl (λ u. refl) (ender_is (CallReg a d) l not_on)
    ends (JumpReg a) l fit =
        let not_on = ap falls l.end in
        jumps_end not_on (end_parts (JumpReg a) l) a 0 (JumpReg a) l refl (λ u. refl) (ender_is (JumpReg a) l not_on)
    ends Halt l fit = stops_end l

    pub ended : CopiedEnd
    ended = by_last (slice_get source.statements (first + final)) refl
      where
        by_last : (o : Option Statement) → slice_get source.statements (first + final) ≡ o → CopiedEnd
        by_last None e = absurd (none-some s.block.end (sym (ap (option_map end_of) (there_on ∙ e)) ∙ st.of.block.end))
          where
            there_on : slice_get source.statements (first + size s.block - 1) ≡ slice_get source.statements (first + final)
            there_on = let some = st.of.block.some in let q : first + size s.block - 1 ≡ first + final = omega arith in ap (slice_get source.statements) q
        by_last (Some z) e =
            ends z (record { at = e; end = sym (same_Some (end_of z) s.block.end (sym (ap (option_map end_of) (there_on ∙ e)) ∙ st.of.block.end)) })
            (statement_fits source is (first + final) z e)
          where
            there_on : slice_get source.statements (first + size s.block - 1) ≡ slice_get source.statements (first + final)
            there_on = let some = st.of.block.some in let q : first + size s.block - 1 ≡ first + final = omega arith in ap (slice_get source.statements) q

    place_most : (u : ℕ) → place_of u ≤ place_in (site_of (λ b. eqb b.first u) all)
    place_most u = at_most bare (place_in (site_of (λ b. eqb b.first u) all))
      where
        at_most : (b : Bool) (m : ℕ) → cond b 0 m ≤ m
        at_most true m = omega arith
        at_most false m = omega arith

    pub placed_first : (t : ℕ) → first ≡ t → site_of (λ b. eqb b.first t) all ≡ Some s → PlacedAt t
    placed_first t e found =
        subst PlacedAt e (record {
          lay = lay;
          end = ended.end;
          place = (let q = place_most first in let r = place_is in let x = ap (λ u. place_in (site_of (λ b. eqb b.first u) all)) e ∙ ap place_in found in
              omega arith);
          long = ap len_of e ∙ ap plan_words found;
          inner = st.of.block.inner;
        })

  -- the block of each leader
  pub placed : (t : ℕ) → is_leader source t ≡ true → t < length source.statements → PlacedAt t
  placed t e l =
      let b = begins known t e l in
      let next = site_found (λ (s : Site). link (s.block.first + size s.block) ≡ s.start + plan_size s.plan) (λ b. eqb b.first t) all b.site
      (next_links source 0 (length source.statements) place.code all h.blocks h.stand) b.found in
      placed_first b.site b.standing next.0 t b.first b.found
