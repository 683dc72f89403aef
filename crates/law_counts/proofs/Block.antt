-- One block: from its first word to where the next one goes on, the words of statement q that are executed are the block's own,
-- each once, and those of the next block that stood in its slots (`CountedOn`), or, where it halts, its own alone (`CountedStop`).
use Rattle.std.proofs.Common.{◌≡◌, ℕ, suc, ◌+◌, ◌-◌, ◌^◌, ◌<◌, ◌≤◌, Bool, true, false, cond, List, [], ◌∷◌, ◌++◌, length, length-append, refl, sym, ap, ◌∙◌, subst, arith}
use Rattle.std.proofs.lemmas.Bool.{cond-true}
use Rattle.mx_isa.specs.declared.inst.Inst.{Inst}
use Rattle.mx_isa.specs.Effect.{Decision, decides}
use Rattle.mx_delay.specs.Delay.{Delay, next_of}
use Rattle.mx_delay.specs.Clean.{Watched}
use Rattle.mx_source.specs.Meaning.{Going, Run, run_for, is_stuck}
use Rattle.mx_blocks.specs.declared.block.Item.{Item}
use Rattle.mx_blocks.specs.declared.block.Item.TheVariants.{Op}
use Rattle.mx_blocks.specs.Leaders.{size}
use Rattle.mx_validate.specs.Padded.{insts_of, items_of, falls, body_count}
use Rattle.mx_squash.specs.declared.copying.Copied.{Copied}
use Rattle.mx_squash.specs.Copies.{Site, may_stay}
use Rattle.mx_layout.specs.Layout.{plan_size}
use Rattle.mx_link.proofs.Sizes.{length-origins_from}
use Rattle.mx_link.specs.Origins.{own, over, goal_of, origins_from}
use Rattle.mx_link.specs.Parts.{origin_at}
use Rattle.law_link.proofs.Going.{Did, IsPlain, Stands, did_all, starts, for, for_same}
use Rattle.law_link.proofs.Ends.{Ended, slots_taken, slots_cancelled}
use Rattle.law_link.proofs.Planned.{bodies_length, pre_length}
use Rattle.law_link.proofs.Sited.{origins_append, not_copied}
use Rattle.law_link.proofs.Slots.{linked_site, Slotted}
use Rattle.law_link.proofs.Layouts.{Standing, setting}
use Rattle.law_link.proofs.Placing.{lay}
use Rattle.law_link.proofs.OneBlock.{Entered, GoesOn, StopsAt, MovesOn, Transfers, did_of, body_done, front_plain, standing as stand_there}
use Rattle.law_link.proofs.Transfers.{Lay, inner_of, front_of, ender_of, at_of, StandBehind}
use Rattle.law_link.proofs.Setting.{StepSetting, Setting, machine_of}
use Rattle.mx_link.specs.Gathered.{is_of}
use Rattle.law_counts.proofs.Tally.{one, span, span_last, tally, tally_same, first_there, stretch, stretch_more, ends_tally}
use Rattle.law_counts.proofs.Marks.{Marked, marked_left, marked_right, marked_span, weigh}
use Rattle.law_counts.proofs.Weights.{weight, weight_append}
use Rattle.law_counts.proofs.Copies.{Counting, MarkedSite, first_slot, second_slot, own_items, slotting}
use Rattle.law_counts.proofs.Leads.{leads_word}
use Rattle.law_order.proofs.Split.{below_left, below_right}

module _ (counting : Counting) where
  open counting use {known, q, test as T, known.{linking.{filling, sites as all}}}
  open setting known use {program as p, link, code as cd, inside as ins, small, low}

  abbrev pub here : Setting
  here = setting known

  abbrev pub machine : StepSetting
  machine = machine_of here

  -- a site whose words are marked, and what is behind it
  pub record Block : Type 0 where
    pub site : Site
    pub standing : Standing known site
    pub mark : MarkedSite counting site
    pub next : link (site.block.first + size site.block) ≡ site.start + plan_size site.plan

  module _ (block : Block) where
    open block use {site as s, standing as st, mark, next}

    abbrev pub first : ℕ
    first = s.block.first

    abbrev pub w : Lay here first
    w = lay known s st next

    abbrev pub n : ℕ
    n = length (insts_of s.block)

    abbrev pub len : ℕ
    len = length (items_of s.plan)

    abbrev pub place : ℕ
    place = length w.parts.front

    abbrev c : Copied
    c = filling all s

    abbrev base : ℕ
    base = link first

    abbrev pre : List Inst
    pre = front_of here first w

    abbrev at : ℕ
    at = at_of here first w

    abbrev body : ℕ
    body = body_count s.block

    abbrev own_weight : List Item → ℕ
    own_weight = weight q first

    pre_is : length pre ≡ place
    pre_is = pre_length p.input w.planned

    len_is : len ≡ place + length w.parts.back
    len_is = ap length w.parts.whole ∙ length-append w.parts.front w.parts.back

    place_is : s.plan.place ≡ place
    place_is = w.parts.place

    -- origins of the two parts of the plan
    parts_marked : Marked T q s.start (origins_from s c 0 w.parts.front ++ origins_from s c (0 + place) w.parts.back)
    parts_marked = subst (Marked T q s.start) (ap (origins_from s c 0) w.parts.whole ∙ origins_append s c 0 w.parts.front w.parts.back) mark

    weigh_front : (k : ℕ) (items : List Item) → k + length items ≤ s.plan.place → weigh q (origins_from s c k items) ≡ own_weight items
    weigh_front k [] l = refl
    weigh_front k (x ∷ items) l =
        let none = not_copied (linked_site known s st) k (omega arith) in
        let rest = weigh_front (suc k) items (omega arith) in
        λ j. one (is_of q (over (goal_of s.block.end) (none j) (own first x))) + rest j

    front_span : span T (length pre) base ≡ own_weight w.parts.front
    front_span =
        let long = length-origins_from s c 0 w.parts.front in
        let as_many : length pre ≡ length (origins_from s c 0 w.parts.front) = (let e = pre_is in omega arith) in
        (λ j. span T (as_many j) (st.of.start j))
        ∙ marked_span T q s.start (origins_from s c 0 w.parts.front)
        (marked_left T q s.start (origins_from s c 0 w.parts.front) (origins_from s c (0 + place) w.parts.back) parts_marked)
        ∙ weigh_front 0 w.parts.front (let e = place_is in omega arith)

    back_marked : (items : List Item) → w.parts.back ≡ items → Marked T q at (origins_from s c place items)
    back_marked items e =
        let long = length-origins_from s c 0 w.parts.front in
        let start = st.of.start in
        let k : 0 + place ≡ place = omega arith in
        let there : s.start + length (origins_from s c 0 w.parts.front) ≡ at = (let e = pre_is in omega arith) in
        subst (λ l. Marked T q at (origins_from s c place l)) e
        (subst (λ k. Marked T q at (origins_from s c k w.parts.back)) k
        (subst (λ a. Marked T q a (origins_from s c (0 + place) w.parts.back)) there
        (marked_right T q s.start (origins_from s c 0 w.parts.front) (origins_from s c (0 + place) w.parts.back) parts_marked)))

    ender_weight : (items : List Item) → w.parts.back ≡ Op body ∷ items → one (T at) ≡ one (is_of q (own first (Op body)))
    ender_weight items e =
        let none = not_copied (linked_site known s st) place (let e = place_is in omega arith) in
        ap one (back_marked (Op body ∷ items) e).0
        ∙ ap (λ x. one (is_of q (over (goal_of s.block.end) x (own first (Op body))))) none

    -- all words up to the terminator
    ended_span :
        (items : List Item) → w.parts.back ≡ Op body ∷ items
        → span T (suc (length pre)) base ≡ own_weight w.parts.front + one (is_of q (own first (Op body)))
    ended_span items e =
        let a = front_span in
        let b = ender_weight items e in
        let h = span_last T (length pre) base in
        omega arith

    own_parts : own_weight (items_of s.plan) ≡ own_weight w.parts.front + own_weight w.parts.back
    own_parts = ap own_weight w.parts.whole ∙ weight_append q first w.parts.front w.parts.back

    -- a run of the meaning that comes to the block, and is not stuck in it
    pub record Coming : Type 0 where
      pub r : Run
      pub going : r.state.mark ≡ Going
      pub index : r.state.index ≡ first
      pub safe : is_stuck (run_for p n r).state.mark ≡ false

    module _ (coming : Coming) where
      open coming use {r, going, index, safe}

      abbrev pub entered : Entered here
      entered = record { i = first; w = w; r = r; going = going; here = index; safe = safe }

      abbrev d0 : Did
      d0 = did_of here r

      abbrev pub r2 : Run
      r2 = run_for p n r

      abbrev r1 : Run
      r1 = run_for p (length (inner_of here first w)) r

      abbrev pub begun : Watched
      begun = starts machine base d0

      abbrev steps : ℕ → Watched → Watched
      steps = for machine

      abbrev count : ℕ → ℕ
      count k = tally T machine k begun

      abbrev Passes : Type 0
      Passes = GoesOn here first n len place r

      abbrev Halts : Type 0
      Halts = StopsAt here first n len place r

      pub record CountedOn : Type 0 where
        pub goes : Passes
        pub counted : count len ≡ own_weight (items_of s.plan) + span T goes.c (link r2.state.index)

      pub record CountedStop : Type 0 where
        pub stops : Halts
        pub counted : count (place + 1) ≡ own_weight (items_of s.plan)

      -- how many words of the next block are done is told by the address that is first
      counts_on :
          (g : Passes) (j k : ℕ) → r2.state.index ≡ j → (steps len begun).at.first.address ≡ link j + k
          → count len ≡ own_weight (items_of s.plan) + span T k (link j) → CountedOn
      counts_on g j k is_j there counts =
          let come = leads_word known T g.c r2.state.index (did_of here r2) g.lead in
          let same = ap (λ (x : Delay). x.first.address) g.reaches.at in
          let l = ap link is_j in
          let as_many : k ≡ g.c = omega arith in
          record { goes = g; counted = counts ∙ (λ i. own_weight (items_of s.plan) + span T (as_many i) (sym l i)) }

      -- a block that falls through
      pub falls_count :
          (f : falls s.block.end ≡ true) (none : w.parts.back ≡ []) (stands : Stands cd ins base pre)
          → Passes → CountedOn
      falls_count f none stands g =
          let is_inner = bodies_length p.input w.planned in
          let is_body : body ≡ n = cond-true (falls s.block.end) (length (insts_of s.block)) (length (insts_of s.block) - 1) f in
          let size_is : n ≡ length (inner_of here first w) = omega arith in
          let run = body_done here entered 0 (omega arith) in
          let ix : r2.state.index ≡ first + n = ap (λ k. (run_for p k r).state.index) size_is ∙ run.index ∙ ap (λ k. first + k) (sym size_is) in
          let no_items : length w.parts.back ≡ 0 = ap length none in
          let a = len_is in
          let b = pre_is in
          let k : len ≡ length pre = omega arith in
          let sm = small (first + n) in
          let nx = w.next in
          let there = first_there T machine pre base d0 stands (front_plain here entered) (low first) (omega arith) len (omega arith) in
          let on : base + len ≡ link (first + n) + 0 = omega arith in
          let counts = stretch T machine pre base d0 stands (front_plain here entered) (low first) (omega arith) len (omega arith) in
          let whole = ap (λ m. span T m base) k ∙ front_span in
          let own_all = own_parts in
          let back = ap own_weight none in
          counts_on g (first + n) 0 ix (there ∙ on) (omega arith)

      -- a block that halts
      pub stops_count : (w.parts.back ≡ Op body ∷ []) → Stands cd ins base pre → Halts → CountedStop
      stops_count one_item stands g =
          let a = len_is in
          let b = pre_is in
          let e = ap length one_item in
          let sm = small (first + n) in
          let nx = w.next in
          let k : place + 1 ≡ suc (length pre) = omega arith in
          let counts = tally_same T machine (place + 1) (suc (length pre)) begun k
          ∙ stretch_more T machine pre base d0 stands (front_plain here entered) (low first) (omega arith) (length pre) (omega arith) in
          let whole = ended_span [] one_item in
          let own_all = own_parts in
          let back = ap own_weight one_item in
          record { stops = g; counted = omega arith }

      -- a block that ends with a transfer
      module _ (b : Transfers here first w) (kind : MovesOn here entered) (x y : Inst) (behind : StandBehind here first w x y) (plain_x : IsPlain x)
          (plain_y : IsPlain y) where
        abbrev ender : Inst
        ender = ender_of here first w

        abbrev d : Decision
        d = decides ender at (did_all machine base pre d0).core.regs

        abbrev pub slotted : Slotted known
        slotted = record {
          site = s;
          standing = st;
          parts = w.parts;
          f = b.f;
          g = b.g;
          three = b.three;
          below_f = below_left body (b.f ∷ []) (b.g ∷ []) b.below;
          below_g = below_right body (b.f ∷ []) (b.g ∷ []) b.below;
        }

        abbrev both : ℕ
        both = first_slot counting slotted + second_slot counting slotted

        is_ended : Ended machine pre ender x y base
        is_ended = stand_there here entered b kind behind plain_x plain_y

        slots_marked : one (T (at + 1)) + one (T (at + 2)) ≡ both
        slots_marked =
            let m = back_marked (Op body ∷ b.f ∷ b.g ∷ []) b.three in
            let e = place_is in
            let two : at + 2 ≡ at + 1 + 1 = omega arith in
            let p1 : suc place ≡ s.plan.place + 1 = omega arith in
            let p2 : suc (suc place) ≡ s.plan.place + 2 = omega arith in
            let one_is : one (T (at + 1)) ≡ first_slot counting slotted =
            ap one m.1.0 ∙ ap (λ k. one (is_of q (origin_at s c k b.f))) p1 in
            let two_is : one (T (at + 2)) ≡ second_slot counting slotted =
            ap (λ a. one (T a)) two ∙ ap one m.1.1.0 ∙ ap (λ k. one (is_of q (origin_at s c k b.g))) p2 in
            omega arith

        -- to an address, with the slots done or squashed
        record Leaves (k : Bool) (z : ℕ) : Type 0 where
          address : (steps len begun).at.first.address ≡ z
          counted : count len ≡ own_weight w.parts.front + one (is_of q (own first (Op body))) + cond k 0 both

        leaves : (k : Bool) (z : ℕ) → d.cancels ≡ k → next_of d.target (at + 2) ≡ z → p.place.code ≤ z → z + 2 < 2 ^ 31 → Leaves k z
        leaves k z cancels leads low_z high_z =
            let a = len_is in
            let e = pre_is in
            let three = ap length b.three in
            let l1 : len ≡ length pre + 1 + 2 = omega arith in
            let l2 : len ≡ length pre + 1 + 1 + 1 = omega arith in
            let l3 : length pre + 1 ≡ suc (length pre) = omega arith in
            let spans = ap (λ m. span T m base) l3 ∙ ended_span (b.f ∷ b.g ∷ []) b.three in
            let counts = tally_same T machine len (length pre + 1 + 1 + 1) begun l2
            ∙ ends_tally T machine pre ender x y base is_ended d0 k z cancels leads low_z high_z
            ∙ ap (λ m. span T (length pre + 1) base + cond k 0 m) slots_marked in
            record {
              address = ap (λ (t : Watched). t.at.first.address) (for_same machine len (length pre + 1 + 2) begun l1) ∙ by_slots k cancels;
              counted = omega arith;
            }
          where
            by_slots : (k : Bool) → d.cancels ≡ k → (steps (length pre + 1 + 2) begun).at.first.address ≡ z
            by_slots false e = ap (λ (t : Watched). t.at.first.address) (slots_taken machine pre ender x y base is_ended d0 z e leads low_z high_z)
            by_slots true e = ap (λ (t : Watched). t.at.first.address) (slots_cancelled machine pre ender x y base is_ended d0 z e leads low_z high_z)

        own_three : own_weight (items_of s.plan) ≡ own_weight w.parts.front + one (is_of q (own first (Op body))) + own_items counting slotted
        own_three = let a = own_parts in let e = ap own_weight b.three in omega arith

        -- it goes to statement j, behind the words that were copied
        pub taken_count :
            (g : Passes) (j : ℕ) → j ≡ goal_of s.block.end → r2.state.index ≡ j → d.cancels ≡ false → next_of d.target (at + 2) ≡ link j + c.count
            → c.count ≤ 2 → CountedOn
        taken_count g j is_goal ix cancels leads few =
            let l = low j in
            let sm = small j in
            let o = leaves false (link j + c.count) cancels leads (omega arith) (omega arith) in
            let sums = slotting counting slotted in
            let all_own = own_three in
            let goal = ap (λ t. span T c.count (link t)) is_goal in
            let taken = sums.taken in
            let counts = o.counted in
            counts_on g j c.count ix o.address (omega arith)

        -- it goes to statement j, and nothing was copied
        pub jumps_count :
            (g : Passes) (j : ℕ) → c.count ≡ 0 → r2.state.index ≡ j → d.cancels ≡ false → next_of d.target (at + 2) ≡ link j + 0 → CountedOn
        jumps_count g j none ix cancels leads =
            let l = low j in
            let sm = small j in
            let o = leaves false (link j + 0) cancels leads (omega arith) (omega arith) in
            let sums = slotting counting slotted in
            let all_own = own_three in
            let bare = ap (λ m. span T m (link (goal_of s.block.end))) none in
            let taken = sums.taken in
            let counts = o.counted in
            counts_on g j 0 ix o.address (omega arith)

        -- it does not go
        pub left_count :
            (g : Passes) → may_stay s.block ≡ true → r2.state.index ≡ first + n → d.cancels ≡ c.squash → next_of d.target (at + 2) ≡ link (first + n) + 0
            → CountedOn
        left_count g may ix cancels leads =
            let l = low (first + n) in
            let sm = small (first + n) in
            let o = leaves c.squash (link (first + n) + 0) cancels leads (omega arith) (omega arith) in
            let sums = slotting counting slotted in
            let all_own = own_three in
            let left = sums.left may in
            let counts = o.counted in
            counts_on g (first + n) 0 ix o.address (omega arith)
