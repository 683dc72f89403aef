-- The two words behind a transfer: items of its own plan, or the first words of its target, as its copies say (`filled_there`).
-- What is copied is no load that the word behind it reads (`free`), and is a word of the target before its terminator (`is_head`).
use Rattle.std.proofs.Common.{◌≡◌, ◌≢◌, ℕ, zero, suc, ◌+◌, ◌<◌, ◌≤◌, Bool, true, false, cond, eqb, ltb, not, ◌&&◌, List, [], ◌∷◌, ◌++◌, ◌⊎◌, length, Option, Some, None, slice_index_or, take, refl, sym, ap, ◌∙◌, subst, arith, ⊎_elim, inl, inr}
use Rattle.std.specs.Prelude.{slice_get}
use Rattle.std.proofs.lemmas.Bool.{cases_eq, and_parts, cond-true, cond-false, false≢true}
use Rattle.std.proofs.lemmas.Bool.Decides.{nat_tests}
use Rattle.std.proofs.lemmas.Option.{get_or_from_slice_get, slice_get-get_or}
use Rattle.mx_isa.specs.declared.inst.Inst.{Inst}
use Rattle.mx_isa.specs.declared.inst.Inst.TheVariants.{Halt as HaltInst}
use Rattle.mx_isa.specs.Views.{is_load, dest, reads}
use Rattle.mx_delay.specs.Delay.{Code}
use Rattle.mx_delay.specs.Clean.{loads_to}
use Rattle.mx_depend.specs.Independence.{feeds}
use Rattle.mx_depend.specs.Graphs.{inst_at as inst_number}
use Rattle.mx_blocks.specs.declared.block.Plan.{Plan}
use Rattle.mx_blocks.specs.declared.block.Item.{Item}
use Rattle.mx_blocks.specs.declared.block.Item.TheVariants.{Op, Nop}
use Rattle.mx_blocks.specs.declared.block.End.{End}
use Rattle.mx_blocks.specs.declared.block.End.TheVariants.{Branches, Calls}
use Rattle.mx_blocks.specs.Leaders.{size, is_leader}
use Rattle.mx_validate.specs.Padded.{insts_of, items_of, body_count}
use Rattle.mx_squash.specs.declared.copying.Copied.{Copied}
use Rattle.mx_squash.specs.Copies.{Site, site_of, is_target, no_copies, copied_words, room, room_for, slot, is_nop, may_stay, may_copy, is_op, item_at, filled, is_branch_end, is_fed, is_hazard, feeds_any, always_goes, terminator}
use Rattle.mx_squash.specs.Chosen.{copy_fault, IsCopied}
use Rattle.mx_squash.specs.Copies.{item_inst as block_item}
use Rattle.mx_link.specs.Origins.{own, over, copied_to, goal_of, origins_at}
use Rattle.mx_link.specs.Words.{linked_statement, inst_at, insts_from}
use Rattle.law_order.specs.Laws.{IsPlanned}
use Rattle.law_order.specs.Parts.{AreBelow, Parts}
use Rattle.law_order.proofs.Order.{SameViews, laid_out_views}
use Rattle.law_order.proofs.Split.{body_within, has_parts}
use Rattle.law_order.proofs.Words.{item_inst, words}
use Rattle.law_link.proofs.Going.{IsPlain, idle_plain, Stands, stands_left}
use Rattle.law_link.proofs.Lawful.{no_load}
use Rattle.law_link.proofs.Saying.{all_plain}
use Rattle.law_link.proofs.Planned.{plain_body}
use Rattle.law_link.proofs.OneBlock.{Head, Slots as TheSlots, Filled, Own, InSecond, InFirst, InBoth}
use Rattle.law_link.proofs.Sited.{insts, laid, body, there, inst_there, linked_anywhere, goes_on, body_word, words_from, words_append, front_words}
use Rattle.law_link.proofs.Layouts.{place_in, Goal, goal_is, goes, Standing, standing, setting}
use Rattle.mx_layout.proofs.Links.{site_found}
use Rattle.law_link.proofs.Setting.{Known, LinkedSite, PlannedBlock}
use Rattle.mx_link.proofs.SlotWords.{copyable_first, copyable_second, at_most_two}
use Rattle.mx_link.proofs.Chosen.{fault_small}

get_left : (xs ys : List Item) (k : ℕ) (x : Item) → k < length xs → slice_get (xs ++ ys) k ≡ Some x → slice_get xs k ≡ Some x
get_left [] ys k x l e = absurd (omega arith)
get_left (y ∷ xs) ys zero x l e = e
get_left (y ∷ xs) ys (suc k) x l e = get_left xs ys k x (omega arith) e

below_at : (n : ℕ) (items : List Item) (k : ℕ) (x : Item) → AreBelow n items → slice_get items k ≡ Some x → AreBelow n (x ∷ [])
below_at n [] k x h e = absurd (cc)
below_at n (Op j ∷ items) zero x h e = let same : Op j ≡ x = cc in subst (λ y. AreBelow n (y ∷ [])) same (h.0, tt)
below_at n (Nop ∷ items) zero x h e = let same : Nop ≡ x = cc in subst (λ y. AreBelow n (y ∷ [])) same tt
below_at n (Op j ∷ items) (suc k) x h e = below_at n items k x h.1 e
below_at n (Nop ∷ items) (suc k) x h e = below_at n items k x h e

-- where the words of items stand, each stands
pub record StandsThere (code : Code) (inside : ℕ → Bool) (a : ℕ) (i : Inst) : Type 0 where
  pub at : code a ≡ i
  pub within : inside a ≡ true

item_stands :
    (code : Code) (inside : ℕ → Bool) (b : ℕ) (list : List Inst) (items : List Item) (k : ℕ) (x : Item) → Stands code inside b (words list items)
    → slice_get items k ≡ Some x → StandsThere code inside (b + k) (item_inst list x)
item_stands code inside b list [] k x h e = absurd (cc)
item_stands code inside b list (y ∷ items) zero x h e =
    let same : y ≡ x = cc in
    let on : b ≡ b + 0 = omega arith in
    record { at = ap code (sym on) ∙ h.0 ∙ ap (item_inst list) same; within = ap inside (sym on) ∙ h.1 }
item_stands code inside b list (y ∷ items) (suc k) x h e =
    let r = item_stands code inside (b + 1) list items k x h.2 e in
    let on : b + 1 + k ≡ b + suc k = omega arith in
    record { at = ap code (sym on) ∙ r.at; within = ap inside (sym on) ∙ r.within }

pub nop_is : (x : Item) → is_nop (Some x) ≡ true → x ≡ Nop
nop_is Nop e = refl
nop_is (Op k) e = absurd (false≢true e)

get_front : (xs : List Item) (y f g : Item) (k : ℕ) → slice_get (xs ++ y ∷ f ∷ g ∷ []) (length xs + suc k) ≡ slice_get (f ∷ g ∷ []) k
get_front [] y f g k = ap (slice_get (y ∷ f ∷ g ∷ [])) (let e : 0 + suc k ≡ suc k = omega arith in e)
get_front (x ∷ xs) y f g k =
    ap (slice_get (x ∷ (xs ++ y ∷ f ∷ g ∷ []))) (let e : suc (length xs) + suc k ≡ suc (length xs + suc k) = omega arith in e)
    ∙ get_front xs y f g k

module _ (known : Known) where
  open known use {linking.{filling, source, sites as all, bytes}, laid.{well_formed as is}}
  open setting known use {link as lk, code as cd, inside as ins, program as p, place_of}

  abbrev pub Stood : Site → Type 0
  Stood s = Standing known s

  abbrev pub linked_site : (s : Site) → Stood s → LinkedSite
  linked_site s st = record {
    source = source;
    well_formed = is;
    link = lk;
    site = s;
    copied = filling all s;
    block = st.of.block;
    valid = st.of.valid;
    goes = goes known s st.of;
  }

  -- the instructions of a site's block
  abbrev pub insts_at : (s : Site) → Stood s → List Inst
  insts_at s st = insts (linked_site s st)

  abbrev pub laid_at : (s : Site) (st : Stood s) → IsPlanned s.block s.plan (insts_at s st) p.input
  laid_at s st = laid (linked_site s st) bytes

  abbrev pub planned_at : (s : Site) (st : Stood s) → Parts s.block s.plan → PlannedBlock p.input
  planned_at s st parts = record { block = s.block; plan = s.plan; insts = insts_at s st; laid = laid_at s st; parts = parts; some = st.of.block.some }

  -- the words of a site stand as those of its parts
  pub parts_stand :
      (s : Site) (st : Stood s) (parts : Parts s.block s.plan) → Stands cd ins s.start
      (words (insts_at s st) parts.front ++ words_from (linked_site s st) (length parts.front) parts.back)
  parts_stand s st parts =
      let c = filling all s in
      let b = st.of.block in
      let v = st.of.valid in
      let g = goes known s st.of in
      let place_is = parts.place in
      let on : s.start ≡ s.start + 0 = omega arith in
      subst (Stands cd ins s.start)
      ((λ k. insts_from lk source.statements c (on k) (origins_at s c))
      ∙ ap (words_from (linked_site s st) 0) parts.whole
      ∙ words_append (linked_site s st) parts.front parts.back
      ∙ ap (λ l. l ++ words_from (linked_site s st) (length parts.front) parts.back) (front_words (linked_site s st) 0 parts.front (omega arith) parts.body))
      st.stands

  pub body_plain : (s : Site) (st : Stood s) (parts : Parts s.block s.plan) (k : ℕ) → k < body_count s.block → IsPlain (inst_number (insts_at s st) k)
  body_plain s st parts k l =
      let g = goes known s st.of in
      plain_body p.input (planned_at s st parts)
      (all_plain lk source.statements s.block.first (take (body_count s.block) (insts_at s st)) (body (linked_site s st))) k l

  pub item_plain :
      (s : Site) (st : Stood s) (parts : Parts s.block s.plan) (x : Item) → AreBelow (body_count s.block) (x ∷ []) → IsPlain (item_inst (insts_at s st) x)
  item_plain s st parts Nop b = idle_plain
  item_plain s st parts (Op k) b = body_plain s st parts k b.0

  abbrev pub HeadOf : ℕ → ℕ → Inst → Type 0
  HeadOf t k x = Head (setting known) t k x

  -- an item before the terminator's place of a target
  pub record IsHead (t : ℕ) (g : Site) (st : Stood g) (k : ℕ) (x : Item) : Type 0 where
    pub head : HeadOf t k (item_inst (insts_at g st) x)
    pub below : AreBelow (body_count g.block) (x ∷ [])

  pub is_head :
      (t : ℕ) (g : Site) (st : Stood g) → Parts g.block g.plan → lk t ≡ g.start → place_of t ≡ g.plan.place → (k : ℕ) (x : Item)
      → slice_get (items_of g.plan) k ≡ Some x → k < g.plan.place → IsHead t g st k x
  is_head t g st parts start place_is k x e l =
      let pl = parts.place in
      let in_front = get_left parts.front parts.back k x (omega arith) (ap (λ items. slice_get items k) (sym parts.whole) ∙ e) in
      let below = below_at (body_count g.block) parts.front k x parts.body in_front in
      let there = item_stands cd ins g.start (insts_at g st) parts.front k x
      (stands_left cd ins g.start (words (insts_at g st) parts.front) _ (parts_stand g st parts)) in_front in
      let on : lk t + k ≡ g.start + k = omega arith in
      record {
        head = record { at = ap cd on ∙ there.at; within = ap ins on ∙ there.within; plain = item_plain g st parts x below; before = omega arith };
        below = below;
      }

  -- a copied word is that of the target's plan
  pub copy_word :
      (s g : Site) (st : Stood g) → g.block.first ≡ goal_of s.block.end → (c : Copied) (a : ℕ) (x own' : Item)
      → AreBelow (body_count g.block) (x ∷ []) → is_op (Some x) ≡ true
      → inst_at lk source.statements c a (over (goal_of s.block.end) x (own s.block.first own')) ≡ item_inst (insts_at g st) x
  copy_word s g st first c a Nop own' b e = absurd (false≢true e)
  copy_word s g st first c a (Op k) own' b e =
      let go = goes known g st.of in
      let w = body_within g.block in
      let l = b.0 in
      let within : k < size g.block = omega arith in
      let x = there (linked_site g st) k within in
      ap (λ n. linked_statement lk no_copies a (slice_get source.statements (n + k))) (sym first)
      ∙ ap (linked_statement lk no_copies a) x.is_there
      ∙ linked_anywhere lk no_copies (filling all g) a (g.start + g.plan.place) x.statement (goes_on (linked_site g st) k x.statement l x.is_there)
      ∙ sym (inst_there (linked_site g st) k within)

pub never : (list : List Site) → site_of (λ b. false) list ≡ None
never [] = refl
never (s ∷ list) = never list

-- what a transfer goes to is the site of the leader
pub target_test : (e : End) (list : List Site) (g : Site) → site_of (is_target e) list ≡ Some g → site_of (λ b. eqb b.first (goal_of e)) list ≡ Some g
target_test (Branches t) list g h = h
target_test (Calls t) list g h = h
target_test _ list g h = absurd (let n = never list in cc)

-- an item that may be copied
record Copyable (plan : Plan) (k : ℕ) : Type 0 where
  before : k < plan.place
  item : Item
  there : slice_get (items_of plan) k ≡ Some item
  op : is_op (Some item) ≡ true
  is_at : item_at plan k ≡ item

copyable_there : (plan : Plan) (k : ℕ) → may_copy plan k ≡ true → Copyable plan k
copyable_there plan k e =
    let parts = and_parts (ltb k plan.place) (is_op (slice_get (items_of plan) k)) e in
    by_item (slice_get (items_of plan) k) refl parts.1 (below k plan.place parts.0)
  where
    below : (m n : ℕ) → ltb m n ≡ true → m < n
    below m n t = grind (arith, nat_tests)

    by_item : (o : Option Item) → slice_get (items_of plan) k ≡ o → is_op (slice_get (items_of plan) k) ≡ true → k < plan.place → Copyable plan k
    by_item None f t l = absurd (false≢true (sym (ap is_op f) ∙ t))
    by_item (Some x) f t l = record { before = l; item = x; there = f; op = sym (ap is_op f) ∙ t; is_at = get_or_from_slice_get (items_of plan) k x Nop f }

pub record RoomForBoth (r : ℕ) (a b : Bool) : Type 0 where
  pub first : a ≡ true
  pub second : b ≡ true
  pub two : r ≡ 2

pub record RoomForOne (r : ℕ) (stays b : Bool) : Type 0 where
  pub second : b ≡ true
  pub surely : stays ≡ false
  pub one : r ≡ 1

pub room_cases :
    (e : End) (stays a b : Bool) → (is_branch_end e ≡ false → stays ≡ false) → 1 ≤ room_for e stays a b
    → RoomForBoth (room_for e stays a b) a b ⊎ RoomForOne (room_for e stays a b) stays b
room_cases (Branches t) stays true true f h = inl (record { first = refl; second = refl; two = refl })
room_cases (Branches t) true true false f h = absurd (omega arith)
room_cases (Branches t) false true false f h = absurd (omega arith)
room_cases (Branches t) false false true f h = inr (record { second = refl; surely = refl; one = refl })
room_cases (Branches t) true false true f h = absurd (omega arith)
room_cases (Branches t) stays false false f h = absurd (omega arith)
room_cases (Calls t) stays true true f h = inl (record { first = refl; second = refl; two = refl })
room_cases (Calls t) stays true false f h = absurd (omega arith)
room_cases (Calls t) stays false true f h = inr (record { second = refl; surely = f refl; one = refl })
room_cases (Calls t) stays false false f h = absurd (omega arith)
room_cases _ stays a b f h = absurd (omega arith)

reads_none : (i : Inst) → reads i 0 ≡ false
reads_none i = grind arith

-- no copies
pub from_zero : (free n : ℕ) (x y : Item) → n ≡ 0 → filled free n x y ≡ Nop ∷ Nop ∷ []
from_zero free n x y e = cond-true (eqb n 0) _ _ (grind (arith, nat_tests))

pub from_second : (free n : ℕ) (x y : Item) → free ≡ 1 → n ≡ 1 → filled free n x y ≡ Nop ∷ x ∷ []
from_second free n x y e f = cond-false (eqb n 0) _ _ (grind (arith, nat_tests)) ∙ cond-true (eqb free 1) _ _ (grind (arith, nat_tests))

pub from_first : (free n : ℕ) (x y : Item) → free ≡ 2 → n ≡ 1 → filled free n x y ≡ x ∷ Nop ∷ []
from_first free n x y e f =
    cond-false (eqb n 0) _ _ (grind (arith, nat_tests)) ∙ cond-false (eqb free 1) _ _ (grind (arith, nat_tests))
    ∙ cond-true (eqb n 1) _ _ (grind (arith, nat_tests))

pub from_both : (free n : ℕ) (x y : Item) → free ≡ 2 → n ≡ 2 → filled free n x y ≡ x ∷ y ∷ []
from_both free n x y e f =
    cond-false (eqb n 0) _ _ (grind (arith, nat_tests)) ∙ cond-false (eqb free 1) _ _ (grind (arith, nat_tests))
    ∙ cond-false (eqb n 1) _ _ (grind (arith, nat_tests))

-- a site that ends with a transfer, and the two items behind it
pub record Slotted (known : Known) : Type 0 where
  pub site : Site
  pub standing : Standing known site
  pub parts : Parts site.block site.plan
  pub f : Item
  pub g : Item
  pub three : parts.back ≡ Op (body_count site.block) ∷ f ∷ g ∷ []
  pub below_f : AreBelow (body_count site.block) (f ∷ [])
  pub below_g : AreBelow (body_count site.block) (g ∷ [])

-- what the copies of a site say of its slots where they are so many words of a target
pub record CopiesOf (n : ℕ) (s gs : Site) (c : Copied) : Type 0 where
  pub count_is : c.count ≡ n
  pub from_is : c.from ≡ filled (room s.block s.plan) n (item_at gs.plan 0) (item_at gs.plan 1)
  pub squash_is : c.squash ≡ (ltb 0 n && may_stay s.block)

pub words_copied : (n : ℕ) (s gs : Site) (c : Copied) → c ≡ copied_words n s.block s.plan gs.plan → CopiesOf n s gs c
words_copied n s gs c e = record {
  count_is = ap (λ (d : Copied). d.count) e;
  from_is = ap (λ (d : Copied). d.from) e;
  squash_is = ap (λ (d : Copied). d.squash) e;
}

-- an end that is no branch leaves nothing to a copy
pub stays_not : (s : Site) → is_branch_end s.block.end ≡ false → may_stay s.block ≡ false
stays_not s e = ap (λ b. b && not (always_goes (terminator s.block))) e

module _ (known : Known) (here : Slotted known) where
  open known use {linking.{filling, source, sites as all}, bare, fills}
  open here use {site as s, standing as st, parts, f, g, three, below_f, below_g}
  open setting known use {link as lk, place_of}

  abbrev StoodAt : Site → Type 0
  StoodAt s = Stood known s

  abbrev insts_of_site : (s : Site) → StoodAt s → List Inst
  insts_of_site s st = insts_at known s st

  abbrev c : Copied
  c = filling all s

  abbrev sure : Bool
  sure = not (may_stay s.block)

  abbrev goal : ℕ
  goal = goal_of s.block.end

  -- the word in a slot, by what is copied to it
  abbrev pub slot_word : ℕ → Item → Item → Inst
  slot_word q copy item = inst_at lk source.statements c (s.start + (s.plan.place + q)) (over goal copy (own s.block.first item))

  abbrev pub x : Inst
  x = slot_word 1 (copied_to c s.plan.place (s.plan.place + 1)) f

  abbrev pub y : Inst
  y = slot_word 2 (copied_to c s.plan.place (s.plan.place + 2)) g

  slot_one : copied_to c s.plan.place (s.plan.place + 1) ≡ slice_index_or c.from 0 Nop
  slot_one = cond-true (eqb (s.plan.place + 1) (s.plan.place + 1)) _ _ (grind (arith, nat_tests))

  slot_two : copied_to c s.plan.place (s.plan.place + 2) ≡ slice_index_or c.from 1 Nop
  slot_two =
      cond-false (eqb (s.plan.place + 2) (s.plan.place + 1)) _ _ (grind (arith, nat_tests))
      ∙ cond-true (eqb (s.plan.place + 2) (s.plan.place + 2)) _ _ (grind (arith, nat_tests))

  x_is : (i : Item) → slice_index_or c.from 0 Nop ≡ i → x ≡ slot_word 1 i f
  x_is i e = ap (λ j. slot_word 1 j f) (slot_one ∙ e)

  y_is : (i : Item) → slice_index_or c.from 1 Nop ≡ i → y ≡ slot_word 2 i g
  y_is i e = ap (λ j. slot_word 2 j g) (slot_two ∙ e)

  own_item : (q : ℕ) (item : Item) → AreBelow (body_count s.block) (item ∷ []) → slot_word q Nop item ≡ item_inst (insts_of_site s st) item
  own_item q item b = body_word (linked_site known s st) (s.start + (s.plan.place + q)) item b

  -- the two words, as they stand
  abbrev pub slots_there : TheSlots (setting known)
  slots_there = record { target = goal; count = c.count; squash = c.squash; sure = sure; first = x; second = y }

  abbrev FilledHere : Type 0
  FilledHere = Filled (setting known) (insts_of_site s st) f g slots_there

  all_own : c.count ≡ 0 → c.squash ≡ false → c.from ≡ Nop ∷ Nop ∷ [] → FilledHere
  all_own n sq e = Own n sq
      (x_is Nop (ap (λ l. slice_index_or l 0 Nop) e) ∙ own_item 1 f below_f)
      (y_is Nop (ap (λ l. slice_index_or l 1 Nop) e) ∙ own_item 2 g below_g)

  items_are : items_of s.plan ≡ parts.front ++ Op (body_count s.block) ∷ f ∷ g ∷ []
  items_are = parts.whole ∙ ap (λ l. parts.front ++ l) three

  pub slot_f : slot s.plan 1 ≡ Some f
  slot_f = (λ k. slice_get (items_are k) (parts.place k + 1)) ∙ get_front parts.front (Op (body_count s.block)) f g 0

  pub slot_g : slot s.plan 2 ≡ Some g
  slot_g = (λ k. slice_get (items_are k) (parts.place k + 2)) ∙ get_front parts.front (Op (body_count s.block)) f g 1

  -- copies from a target, of so many words that no rule forbids it
  module _
      (gs : Site) (found : site_of (is_target s.block.end) all ≡ Some gs) (n : ℕ) (allowed : copy_fault n s (Some gs) ≡ None)
      (is_c : c ≡ copied_words n s.block s.plan gs.plan) (copying : bare ≡ false) where
    goal_facts : Goal known s gs
    goal_facts = goal_is known s gs found

    gst : StoodAt gs
    gst = (site_found StoodAt (is_target s.block.end) all gs (standing known) found).0

    goal_place : place_of goal ≡ gs.plan.place
    goal_place = ap (λ b. cond b 0 (place_in (site_of (λ b. eqb b.first goal) all))) copying ∙ ap place_in (target_test s.block.end all gs found)

    goal_leads : is_leader source goal ≡ true
    goal_leads = ap (is_leader source) (sym goal_facts.first) ∙ gst.of.block.leader

    headed : (k : ℕ) (w : Copyable gs.plan k) → IsHead known goal gs gst k w.item
    headed k w = is_head known goal gs gst (has_parts gs.block gs.plan gst.of.valid) goal_facts.found goal_place k w.item w.there w.before

    copied_in : (q k : ℕ) (w : Copyable gs.plan k) (item : Item) → slot_word q w.item item ≡ item_inst (insts_of_site gs gst) w.item
    copied_in q k w item = copy_word known s gs gst goal_facts.first c (s.start + (s.plan.place + q)) w.item item (headed k w).below w.op

    told : CopiesOf n s gs c
    told = words_copied n s gs c is_c

    -- where words are copied, the branch squashes unless it always goes
    set : 1 ≤ n → sure ≡ false → c.squash ≡ true
    set some e = told.squash_is ∙ both (ltb 0 n) (may_stay s.block) (grind (arith, nat_tests)) e
      where
        both : (a b : Bool) → a ≡ true → not b ≡ false → (a && b) ≡ true
        both a b h k = grind arith

    -- a load in slot 1 does not feed the word in slot 2
    free :
        (w : Copyable gs.plan 0) → room s.block s.plan ≡ 1 → is_fed s gs ≡ false → (xi : Item) → f ≡ xi
        → AreBelow (body_count s.block) (xi ∷ []) → reads (item_inst (insts_of_site gs gst) w.item) (loads_to (item_inst (insts_of_site s st) xi))
        ≡ false
    free w one fed Nop e b = reads_none (item_inst (insts_of_site gs gst) w.item)
    free w one fed (Op k) e b = by_item w.item (w.there) w.op (headed 0 w).below
      where
        no_hazard : is_hazard s.block s.plan gs.block gs.plan ≡ false
        no_hazard = second (eqb (room s.block s.plan) 1) (is_hazard s.block s.plan gs.block gs.plan) (grind (arith, nat_tests)) fed
          where
            second : (a b : Bool) → a ≡ true → (a && b) ≡ false → b ≡ false
            second a b h k = grind arith

        by_item :
            (wi : Item) → slice_get (items_of gs.plan) 0 ≡ Some wi → is_op (Some wi) ≡ true → AreBelow (body_count gs.block) (wi ∷ [])
            → reads (item_inst (insts_of_site gs gst) wi) (loads_to (inst_number (insts_of_site s st) k)) ≡ false
        by_item Nop there op bw = absurd (false≢true op)
        by_item (Op j) there op bw =
            let ws = body_within s.block in
            let wg = body_within gs.block in
            let lk' = b.0 in
            let lj = bw.0 in
            let own_k : slice_get (insts_of s.block) k ≡ Some (inst_number (insts_of s.block) k) =
            slice_get-get_or (insts_of s.block) k HaltInst (omega arith) in
            let own_j : slice_get (insts_of gs.block) j ≡ Some (inst_number (insts_of gs.block) j) =
            slice_get-get_or (insts_of gs.block) j HaltInst (omega arith) in
            let fed : feeds (inst_number (insts_of s.block) k) (inst_number (insts_of gs.block) j) ≡ false =
            sym (ap (λ o. feeds_any (block_item s.block o) (block_item gs.block (slice_get (items_of gs.plan) 0))) (slot_f ∙ ap (λ i. Some i) e)
            ∙ ap (λ o. feeds_any (slice_get (insts_of s.block) k) (block_item gs.block o)) there
            ∙ ap (λ o. feeds_any o (slice_get (insts_of gs.block) j)) own_k
            ∙ ap (λ o. feeds_any (Some (inst_number (insts_of s.block) k)) o) own_j) ∙ no_hazard in
            let lay_s = laid_at known s st in
            let lay_g = laid_at known gs gst in
            let vs : SameViews (inst_number (insts_of s.block) k) (inst_number (insts_of_site s st) k) =
            laid_out_views (insts_of s.block) (insts_of_site s st) k (sym lay_s.filled) in
            let vg : SameViews (inst_number (insts_of gs.block) j) (inst_number (insts_of_site gs gst) j) =
            laid_out_views (insts_of gs.block) (insts_of_site gs gst) j (sym lay_g.filled) in
            ap (λ (r : ℕ → Bool). r (loads_to (inst_number (insts_of_site s st) k))) (sym vg.reads)
            ∙ ap (λ t. reads (inst_number (insts_of gs.block) j) (cond t (dest (inst_number (insts_of_site s st) k)) 0)) (sym vs.load)
            ∙ ap (λ d. reads (inst_number (insts_of gs.block) j) (cond (is_load (inst_number (insts_of s.block) k)) d 0)) (sym vs.dest)
            ∙ not_fed (inst_number (insts_of gs.block) j) (is_load (inst_number (insts_of s.block) k)) (dest (inst_number (insts_of s.block) k)) fed
          where
            not_fed : (i : Inst) (t : Bool) (d : ℕ) → (t && reads i d) ≡ false → reads i (cond t d 0) ≡ false
            not_fed i true d e = e
            not_fed i false d e = reads_none i

    some_copied : 1 ≤ n → FilledHere
    some_copied some =
        let small = fault_small n s gs allowed in
        let few = small.0 in
        let less = small.1 in
        let first = copyable_there gs.plan 0 (copyable_first gs.plan (omega arith)) in
        let nop_g : is_nop (slot s.plan 2) ≡ true → g ≡ Nop = λ e. nop_is g (sym (ap is_nop slot_g) ∙ e) in
        let nop_f : is_nop (slot s.plan 1) ≡ true → f ≡ Nop = λ e. nop_is f (sym (ap is_nop slot_f) ∙ e) in
        ⊎_elim
        (λ (r : RoomForBoth (room s.block s.plan) (is_nop (slot s.plan 1)) (is_nop (slot s.plan 2))). ⊎_elim
        (λ (one : n ≡ 1).
        let e = told.from_is ∙ from_first (room s.block s.plan) n (item_at gs.plan 0) (item_at gs.plan 1) r.two one in
        InFirst (told.count_is ∙ one) (set some) (nop_f r.first) (nop_g r.second)
        (subst (λ i. HeadOf known goal 0 i) (sym (x_is first.item (ap (λ l. slice_index_or l 0 Nop) e ∙ first.is_at) ∙ copied_in 1 0 first f))
        (headed 0 first).head)
        (y_is Nop (ap (λ l. slice_index_or l 1 Nop) e) ∙ own_item 2 g below_g ∙ ap (item_inst (insts_of_site s st)) (nop_g r.second))
        goal_leads)
        (λ (more : n ≢ 1).
        let two : n ≡ 2 = (let t = at_most_two (may_copy gs.plan 0) (may_copy gs.plan 1) in omega arith) in
        let second = copyable_there gs.plan 1 (copyable_second gs.plan (omega arith)) in
        let e = told.from_is ∙ from_both (room s.block s.plan) n (item_at gs.plan 0) (item_at gs.plan 1) r.two two in
        InBoth (told.count_is ∙ two) (set some) (nop_f r.first) (nop_g r.second)
        (subst (λ i. HeadOf known goal 0 i) (sym (x_is first.item (ap (λ l. slice_index_or l 0 Nop) e ∙ first.is_at) ∙ copied_in 1 0 first f))
        (headed 0 first).head)
        (subst (λ i. HeadOf known goal 1 i) (sym (y_is second.item (ap (λ l. slice_index_or l 1 Nop) e ∙ second.is_at) ∙ copied_in 2 1 second g))
        (headed 1 second).head)
        goal_leads)
        (cases_eq n 1))
        (λ (r : RoomForOne (room s.block s.plan) (may_stay s.block) (is_nop (slot s.plan 2))).
        let room_one = r.one in
        let one : n ≡ 1 = omega arith in
        let e = told.from_is ∙ from_second (room s.block s.plan) n (item_at gs.plan 0) (item_at gs.plan 1) r.one one in
        let x_own = x_is Nop (ap (λ l. slice_index_or l 0 Nop) e) ∙ own_item 1 f below_f in
        let y_copy = y_is first.item (ap (λ l. slice_index_or l 1 Nop) e ∙ first.is_at) ∙ copied_in 2 0 first g in
        InSecond (told.count_is ∙ one) (ap not r.surely) (nop_g r.second) x_own
        (subst (λ i. HeadOf known goal 0 i) (sym y_copy) (headed 0 first).head)
        ((λ k. reads (y_copy k) (loads_to (x_own k))) ∙ free first r.one (no_load n s gs some allowed) f refl below_f)
        goal_leads)
        (room_cases s.block.end (may_stay s.block) (is_nop (slot s.plan 1)) (is_nop (slot s.plan 2)) (stays_not s) (omega arith))

    from_goal : FilledHere
    from_goal = ⊎_elim
        (λ (z : n ≡ 0). all_own (told.count_is ∙ z) (told.squash_is ∙ ap (λ m. ltb 0 m && may_stay s.block) z)
        (told.from_is ∙ from_zero (room s.block s.plan) n (item_at gs.plan 0) (item_at gs.plan 1) z))
        (λ (z : n ≢ 0). some_copied (omega arith))
        (cases_eq n 0)

  bare_slots : c ≡ no_copies → FilledHere
  bare_slots e = all_own (ap (λ (d : Copied). d.count) e) (ap (λ (d : Copied). d.squash) e) (ap (λ (d : Copied). d.from) e)

  by_goal : (o : Option Site) → site_of (is_target s.block.end) all ≡ o → IsCopied s o c → bare ≡ false → FilledHere
  by_goal None e w copying = bare_slots w.2
  by_goal (Some gs) e w copying = from_goal gs e w.0 w.1 w.2 copying

  pub filled_there : FilledHere
  filled_there = ⊎_elim
      bare_slots
      (λ e. by_goal (site_of (is_target s.block.end) all) refl e.1 e.0)
      (fills s)

  -- where there is no target, the slots are its own
  pub record OwnSlots : Type 0 where
    pub first : x ≡ item_inst (insts_of_site s st) f
    pub second : y ≡ item_inst (insts_of_site s st) g

  pub own_slots : site_of (is_target s.block.end) all ≡ None → OwnSlots
  own_slots none =
      let e : c.from ≡ Nop ∷ Nop ∷ [] = ⊎_elim
      (λ e. ap (λ (d : Copied). d.from) e)
      (λ e. ap (λ (d : Copied). d.from) (subst (λ o. IsCopied s o c) none e.1).2)
      (fills s) in
      record {
        first = x_is Nop (ap (λ l. slice_index_or l 0 Nop) e) ∙ own_item 1 f below_f;
        second = y_is Nop (ap (λ l. slice_index_or l 1 Nop) e) ∙ own_item 2 g below_g;
      }
