-- The two words behind a transfer, by the statements that they are of (`slots_taken`, `slots_left`): both slots together weigh what
-- the block's own two items weigh, and the words of the target that are copied to them, unless the branch does not go.
use Rattle.std.proofs.Common.{◌≡◌, ◌≢◌, ℕ, zero, suc, ◌+◌, ◌<◌, ◌≤◌, Bool, true, false, cond, eqb, ltb, ◌&&◌, List, [], ◌∷◌, length, All, Option, Some, None, slice_index_or, refl, sym, ap, ◌∙◌, subst, arith, ⊎_elim}
use Rattle.std.proofs.lemmas.Bool.{cases_eq, cond-true, cond-false, false≢true}
use Rattle.std.proofs.lemmas.Bool.Decides.{nat_tests}
use Rattle.mx_blocks.specs.declared.block.Item.{Item}
use Rattle.mx_blocks.specs.declared.block.Item.TheVariants.{Op, Nop}
use Rattle.mx_validate.specs.Padded.{items_of}
use Rattle.mx_squash.specs.declared.copying.Copied.{Copied}
use Rattle.mx_squash.specs.Copies.{Site, site_of, is_target, no_copies, copied_words, room, slot, is_nop, may_stay, may_copy, item_at}
use Rattle.mx_squash.specs.Chosen.{copy_fault, IsCopied}
use Rattle.mx_layout.proofs.Links.{site_found}
use Rattle.mx_link.proofs.Sizes.{length-origins_from}
use Rattle.mx_link.proofs.SlotWords.{copyable_small, at_most_two}
use Rattle.mx_link.proofs.Chosen.{fault_small}
use Rattle.mx_link.specs.declared.linked.Origin.TheVariants.{Pad}
use Rattle.mx_link.specs.Origins.{own, over, copied_to, goal_of, origins_from, origins_at}
use Rattle.mx_link.specs.Parts.{origin_at}
use Rattle.law_link.proofs.Layouts.{Goal, goal_is, Standing, standing, setting}
use Rattle.law_link.proofs.Setting.{Known}
use Rattle.law_link.proofs.Sited.{not_copied}
use Rattle.law_link.proofs.Slots.{nop_is, RoomForBoth, RoomForOne, room_cases, from_zero, from_second, from_first, from_both, linked_site, Slotted, slot_f, slot_g, CopiesOf, words_copied, stays_not}
use Rattle.mx_link.specs.Gathered.{is_of}
use Rattle.law_counts.proofs.Tally.{one, span}
use Rattle.law_counts.proofs.Marks.{Marked, marked_at}
use Rattle.law_counts.proofs.Weights.{weight}

origin_there :
    (s : Site) (c : Copied) (p : ℕ) (items : List Item) (k : ℕ) → k < length items
    → slice_index_or (origins_from s c p items) k Pad ≡ origin_at s c (p + k) (slice_index_or items k Nop)
origin_there s c p [] k l = absurd (omega arith)
origin_there s c p (x ∷ items) zero l = let on : p ≡ p + 0 = omega arith in ap (λ n. origin_at s c n x) on
origin_there s c p (x ∷ items) (suc k) l =
    let on : suc p + k ≡ p + suc k = omega arith in
    origin_there s c (suc p) items k (omega arith) ∙ ap (λ n. origin_at s c n (slice_index_or items k Nop)) on

-- a copy is of the statement that it copies
pub copy_of : (q goal : ℕ) (x : Item) → is_of q (over goal x Pad) ≡ is_of q (own goal x)
copy_of q goal (Op k) = refl
copy_of q goal Nop = refl

-- linked code, and a test that its words pass where they are of statement q
pub record Counting : Type 0 where
  pub known : Known
  pub q : ℕ
  pub test : ℕ → Bool
  pub marks : All (λ (s : Site). Marked test q s.start (origins_at s (known.linking.filling known.linking.sites s))) known.linking.sites

module _ (counting : Counting) where
  open counting use {known, q, test as T, known.{linking.{filling, sites as all}, bare, fills}, marks}
  open setting known use {link as lk}

  abbrev pub MarkedSite : Site → Type 0
  MarkedSite s = Marked T q s.start (origins_at s (filling all s))

  -- a word before the terminator's place of a site
  pub head_mark :
      (s : Site) → Standing known s → MarkedSite s → (k : ℕ) → k < s.plan.place → T (s.start + k) ≡ is_of q (own s.block.first (item_at s.plan k))
  head_mark s st m k l =
      let c = filling all s in
      let t = st.of.valid.tail in
      let long = length-origins_from s c 0 (items_of s.plan) in
      let on : 0 + k ≡ k = omega arith in
      marked_at T q s.start (origins_at s c) m k (omega arith)
      ∙ ap (is_of q) (origin_there s c 0 (items_of s.plan) k (omega arith))
      ∙ ap (λ n. is_of q (origin_at s c n (item_at s.plan k))) on
      ∙ ap (λ x. is_of q (over (goal_of s.block.end) x (own s.block.first (item_at s.plan k)))) (not_copied (linked_site known s st) k (omega arith))

  module _ (here : Slotted known) where
    open here use {site as s, standing as st, parts, f, g}

    abbrev c : Copied
    c = filling all s

    abbrev goal : ℕ
    goal = goal_of s.block.end

    -- what is copied over an item of the block's own
    abbrev laid : Item → Item → ℕ
    laid x item = one (is_of q (over goal x (own s.block.first item)))

    abbrev pub first_slot : ℕ
    first_slot = laid (copied_to c s.plan.place (s.plan.place + 1)) f

    abbrev pub second_slot : ℕ
    second_slot = laid (copied_to c s.plan.place (s.plan.place + 2)) g

    abbrev pub own_items : ℕ
    own_items = weight q s.block.first (f ∷ g ∷ [])

    pub record Slotting : Type 0 where
      pub taken : first_slot + second_slot ≡ own_items + span T c.count (lk goal)
      pub left : may_stay s.block ≡ true → cond c.squash 0 (first_slot + second_slot) ≡ own_items

    slot_one : copied_to c s.plan.place (s.plan.place + 1) ≡ slice_index_or c.from 0 Nop
    slot_one = cond-true (eqb (s.plan.place + 1) (s.plan.place + 1)) _ _ (grind (arith, nat_tests))

    slot_two : copied_to c s.plan.place (s.plan.place + 2) ≡ slice_index_or c.from 1 Nop
    slot_two =
        cond-false (eqb (s.plan.place + 2) (s.plan.place + 1)) _ _ (grind (arith, nat_tests))
        ∙ cond-true (eqb (s.plan.place + 2) (s.plan.place + 2)) _ _ (grind (arith, nat_tests))

    first_is : (l : List Item) → c.from ≡ l → first_slot ≡ laid (slice_index_or l 0 Nop) f
    first_is l e = ap (λ x. laid x f) (slot_one ∙ ap (λ l. slice_index_or l 0 Nop) e)

    second_is : (l : List Item) → c.from ≡ l → second_slot ≡ laid (slice_index_or l 1 Nop) g
    second_is l e = ap (λ x. laid x g) (slot_two ∙ ap (λ l. slice_index_or l 1 Nop) e)

    -- over a no-op
    over_nop : (x item : Item) → item ≡ Nop → laid x item ≡ one (is_of q (own goal x))
    over_nop x item e = ap (λ i. laid x i) e ∙ ap one (copy_of q goal x)

    no_weight : (item : Item) → item ≡ Nop → one (is_of q (own s.block.first item)) ≡ 0
    no_weight item e = ap (λ i. one (is_of q (own s.block.first i))) e

    all_own : c.count ≡ 0 → c.squash ≡ false → c.from ≡ Nop ∷ Nop ∷ [] → Slotting
    all_own n sq e =
        let x = first_is (Nop ∷ Nop ∷ []) e in
        let y = second_is (Nop ∷ Nop ∷ []) e in
        let none : span T c.count (lk goal) ≡ 0 = ap (λ k. span T k (lk goal)) n in
        record {
          taken = omega arith;
          left = λ may. ap (λ b. cond b 0 (first_slot + second_slot)) sq ∙ omega arith;
        }

    -- copies from a target, of so many words that no rule forbids it
    module _
        (gs : Site) (found : site_of (is_target s.block.end) all ≡ Some gs) (n : ℕ) (allowed : copy_fault n s (Some gs) ≡ None)
        (is_c : c ≡ copied_words n s.block s.plan gs.plan) where
      goal_facts : Goal known s gs
      goal_facts = goal_is known s gs found

      stands : Standing known gs
      stands = (site_found (Standing known) (is_target s.block.end) all gs (standing known) found).0

      mark : MarkedSite gs
      mark = (site_found MarkedSite (is_target s.block.end) all gs marks found).0

      told : CopiesOf n s gs c
      told = words_copied n s gs c is_c

      abbrev head : ℕ → ℕ
      head k = one (is_of q (own goal (item_at gs.plan k)))

      head_is : (k : ℕ) → k < gs.plan.place → one (T (lk goal + k)) ≡ head k
      head_is k l =
          let h = head_mark gs stands mark k l in
          ap (λ a. one (T (a + k))) goal_facts.found
          ∙ ap one h
          ∙ ap (λ first. one (is_of q (own first (item_at gs.plan k)))) goal_facts.first

      one_head : 1 ≤ gs.plan.place → span T 1 (lk goal) ≡ head 0
      one_head l =
          let h = head_is 0 l in
          let on : lk goal ≡ lk goal + 0 = omega arith in
          let e = ap (λ a. one (T a)) on in
          omega arith

      two_heads : 2 ≤ gs.plan.place → span T 2 (lk goal) ≡ head 0 + head 1
      two_heads l =
          let h = head_is 0 (omega arith) in
          let k = head_is 1 l in
          let on : lk goal ≡ lk goal + 0 = omega arith in
          let e = ap (λ a. one (T a)) on in
          omega arith

      is_set : 1 ≤ n → may_stay s.block ≡ true → c.squash ≡ true
      is_set some may = told.squash_is ∙ both (ltb 0 n) (may_stay s.block) (grind (arith, nat_tests)) may
        where
          both : (a b : Bool) → a ≡ true → b ≡ true → (a && b) ≡ true
          both a b h k = grind arith

      some_copied : 1 ≤ n → Slotting
      some_copied some =
          let small = fault_small n s gs allowed in
          let few = small.0 in
          let less = small.1 in
          let within = copyable_small gs.plan in
          let nop_f : is_nop (slot s.plan 1) ≡ true → f ≡ Nop = λ e. nop_is f (sym (ap is_nop (slot_f known here)) ∙ e) in
          let nop_g : is_nop (slot s.plan 2) ≡ true → g ≡ Nop = λ e. nop_is g (sym (ap is_nop (slot_g known here)) ∙ e) in
          ⊎_elim
          (λ (r : RoomForBoth (room s.block s.plan) (is_nop (slot s.plan 1)) (is_nop (slot s.plan 2))).
          let own_f = no_weight f (nop_f r.first) in
          let own_g = no_weight g (nop_g r.second) in
          let left : may_stay s.block ≡ true → cond c.squash 0 (first_slot + second_slot) ≡ own_items =
          λ may. ap (λ b. cond b 0 (first_slot + second_slot)) (is_set some may) ∙ omega arith in
          ⊎_elim
          (λ (single : n ≡ 1).
          let e = told.from_is ∙ from_first (room s.block s.plan) n (item_at gs.plan 0) (item_at gs.plan 1) r.two single in
          let x = first_is (item_at gs.plan 0 ∷ Nop ∷ []) e ∙ over_nop (item_at gs.plan 0) f (nop_f r.first) in
          let y = second_is (item_at gs.plan 0 ∷ Nop ∷ []) e in
          let copies : span T c.count (lk goal) ≡ head 0 = ap (λ k. span T k (lk goal)) (told.count_is ∙ single) ∙ one_head (omega arith) in
          record { taken = omega arith; left = left })
          (λ (more : n ≢ 1).
          let two : n ≡ 2 = (let t = at_most_two (may_copy gs.plan 0) (may_copy gs.plan 1) in omega arith) in
          let e = told.from_is ∙ from_both (room s.block s.plan) n (item_at gs.plan 0) (item_at gs.plan 1) r.two two in
          let x = first_is (item_at gs.plan 0 ∷ item_at gs.plan 1 ∷ []) e ∙ over_nop (item_at gs.plan 0) f (nop_f r.first) in
          let y = second_is (item_at gs.plan 0 ∷ item_at gs.plan 1 ∷ []) e ∙ over_nop (item_at gs.plan 1) g (nop_g r.second) in
          let copies : span T c.count (lk goal) ≡ head 0 + head 1 = ap (λ k. span T k (lk goal)) (told.count_is ∙ two) ∙ two_heads (omega arith) in
          record { taken = omega arith; left = left })
          (cases_eq n 1))
          (λ (r : RoomForOne (room s.block s.plan) (may_stay s.block) (is_nop (slot s.plan 2))).
          let room_one = r.one in
          let single : n ≡ 1 = omega arith in
          let own_g = no_weight g (nop_g r.second) in
          let e = told.from_is ∙ from_second (room s.block s.plan) n (item_at gs.plan 0) (item_at gs.plan 1) r.one single in
          let x = first_is (Nop ∷ item_at gs.plan 0 ∷ []) e in
          let y = second_is (Nop ∷ item_at gs.plan 0 ∷ []) e ∙ over_nop (item_at gs.plan 0) g (nop_g r.second) in
          let copies : span T c.count (lk goal) ≡ head 0 = ap (λ k. span T k (lk goal)) (told.count_is ∙ single) ∙ one_head (omega arith) in
          record { taken = omega arith; left = λ may. absurd (false≢true (sym r.surely ∙ may)) })
          (room_cases s.block.end (may_stay s.block) (is_nop (slot s.plan 1)) (is_nop (slot s.plan 2)) (stays_not s) (omega arith))

      from_goal : Slotting
      from_goal = ⊎_elim
          (λ (z : n ≡ 0). all_own (told.count_is ∙ z) (told.squash_is ∙ ap (λ m. ltb 0 m && may_stay s.block) z)
          (told.from_is ∙ from_zero (room s.block s.plan) n (item_at gs.plan 0) (item_at gs.plan 1) z))
          (λ (z : n ≢ 0). some_copied (omega arith))
          (cases_eq n 0)

    bare_slots : c ≡ no_copies → Slotting
    bare_slots is_c = all_own (ap (λ (d : Copied). d.count) is_c) (ap (λ (d : Copied). d.squash) is_c) (ap (λ (d : Copied). d.from) is_c)

    by_goal : (o : Option Site) → site_of (is_target s.block.end) all ≡ o → IsCopied s o c → Slotting
    by_goal None e w = bare_slots w.2
    by_goal (Some gs) e w = from_goal gs e w.0 w.1 w.2

    pub slotting : Slotting
    slotting = ⊎_elim bare_slots (λ e. by_goal (site_of (is_target s.block.end) all) refl e.1) (fills s)

    -- where there is no target, nothing is copied
    pub no_copies_there : site_of (is_target s.block.end) all ≡ None → c.count ≡ 0
    no_copies_there none = ⊎_elim
        (λ e. ap (λ (d : Copied). d.count) e)
        (λ e. ap (λ (d : Copied). d.count) (subst (λ o. IsCopied s o c) none e.1).2)
        (fills s)
