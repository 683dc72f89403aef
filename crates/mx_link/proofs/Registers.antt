-- Each statement of a source stands in its linked code as it is, so that its registers are those of its word.
use Rattle.std.proofs.Common.{◌≡◌, ◌↔◌, ℕ, suc, ◌+◌, ◌-◌, ◌<◌, ◌≤◌, Bool, true, false, cond, eqb, List, [], ◌∷◌, length, Option, Some, None, refl, sym, ap, ◌∙◌, subst, inl, inr, ⊎_elim, arith}
use Rattle.std.specs.Prelude.{slice_get, slice_index_or, ◌⊎◌}
use Rattle.std.proofs.lemmas.Bool.{cases_lt, false≢true}
use Rattle.std.proofs.lemmas.Bool.Decides.{nat_tests}
use Rattle.std.proofs.lemmas.Option.{same_Some, slice_get-get_or}
use Rattle.mx_code.specs.Codes.{HasRegisters}
use Rattle.mx_source.specs.declared.Statement.{Statement}
use Rattle.mx_source.specs.declared.Statement.TheVariants.{Halt}
use Rattle.mx_source.specs.SourceValue.{SourceValue}
use Rattle.mx_blocks.specs.declared.Item.{Item}
use Rattle.mx_blocks.specs.declared.Item.TheVariants.{Op, Nop}
use Rattle.mx_blocks.specs.declared.End.{End}
use Rattle.mx_blocks.specs.declared.End.TheVariants.{Branches, Calls}
use Rattle.mx_blocks.specs.Items.{StandsAt}
use Rattle.mx_blocks.specs.Leaders.{BlocksFrom, size, inst_of}
use Rattle.mx_validate.specs.Padded.{items_of}
use Rattle.mx_validate.specs.Validity.{Valid}
use Rattle.mx_validate.proofs.Listed.{counted_stands, once_all}
use Rattle.mx_squash.specs.declared.Copied.{Copied}
use Rattle.mx_squash.specs.Copies.{Site, site_of, is_target, is_nop, slot, room, room_for, may_stay, filled, item_at}
use Rattle.mx_squash.specs.Chosen.{copy_fault, copies_of}
use Rattle.mx_layout.specs.Layout.{IsLayout, blocks_in}
use Rattle.mx_isa.specs.declared.Place.{Place}
use Rattle.mx_link.specs.declared.code.Slots.{Slots}
use Rattle.mx_link.specs.Origins.{goal_of, own, over, copied_to}
use Rattle.mx_link.specs.Words.{linked_inst, linked_statement, inst_at}
use Rattle.mx_link.specs.Parts.{filling_of, EachInst, HaveRegisters}
use Rattle.mx_link.proofs.Places.{at_place}
use Rattle.mx_link.proofs.SlotWords.{copied_none, nop_op}
use Rattle.mx_link.proofs.Chosen.{fault_small, slots_allowed}

-- one more site
pub next_site :
    (Q : Site → Type 0) (all : List Site) (n : ℕ) (s : Site) → slice_get all n ≡ Some s → Q s
    → ((k : ℕ) (t : Site) → k < n → slice_get all k ≡ Some t → Q t) → (k : ℕ) (t : Site) → k < n + 1 → slice_get all k ≡ Some t → Q t
next_site Q all n s e q h k t low f = ⊎_elim
    (λ below. h k t below f)
    (λ at. let same : n ≡ k = omega arith in subst Q (same_Some s t (sym e ∙ ap (slice_get all) same ∙ f)) q)
    (cases_lt k n)

-- a word is copied to slot 1 or to slot 2
slot_places :
    (c : Copied) (place p k : ℕ) → copied_to c place p ≡ Op k
    → ((p ≡ place + 1) × (slice_index_or c.from 0 Nop ≡ Op k)) ⊎ ((p ≡ place + 2) × (slice_index_or c.from 1 Nop ≡ Op k))
slot_places c place p k = by_tests (eqb p (place + 1)) (eqb p (place + 2)) refl refl
  where
    equal : (m n : ℕ) → eqb m n ≡ true → m ≡ n
    equal m n e = grind (arith, nat_tests)

    by_tests :
        (a b : Bool) → eqb p (place + 1) ≡ a → eqb p (place + 2) ≡ b
        → cond a (slice_index_or c.from 0 Nop) (cond b (slice_index_or c.from 1 Nop) Nop) ≡ Op k
        → ((p ≡ place + 1) × (slice_index_or c.from 0 Nop ≡ Op k)) ⊎ ((p ≡ place + 2) × (slice_index_or c.from 1 Nop ≡ Op k))
    by_tests true b f g e = inl (equal p (place + 1) f, e)
    by_tests false true f g e = inr (equal p (place + 2) g, e)
    by_tests false false f g e = absurd (nop_op k e)

-- slot 1 is filled only where more than one word fits
first_filled :
    (free n : ℕ) (first second : Item) (k : ℕ) → slice_index_or (filled free n first second) 0 Nop ≡ Op k → (1 ≤ n) × (eqb free 1 ≡ false)
first_filled free n first second k = by_tests (eqb n 0) (eqb free 1) (eqb n 1) refl refl
  where
    some : eqb n 0 ≡ false → 1 ≤ n
    some f = grind (arith, nat_tests)

    by_tests :
        (a b c : Bool) → eqb n 0 ≡ a → eqb free 1 ≡ b → slice_index_or
        (cond a (Nop ∷ Nop ∷ []) (cond b (Nop ∷ first ∷ []) (cond c (first ∷ Nop ∷ []) (first ∷ second ∷ [])))) 0 Nop ≡ Op k
        → (1 ≤ n) × (eqb free 1 ≡ false)
    by_tests true b c f g e = absurd (nop_op k e)
    by_tests false true c f g e = absurd (nop_op k e)
    by_tests false false c f g e = (some f, g)

second_filled : (free n : ℕ) (first second : Item) (k : ℕ) → slice_index_or (filled free n first second) 1 Nop ≡ Op k → 1 ≤ n
second_filled free n first second k = by_tests (eqb n 0) (eqb free 1) (eqb n 1) refl
  where
    some : eqb n 0 ≡ false → 1 ≤ n
    some f = grind (arith, nat_tests)

    by_tests :
        (a b c : Bool) → eqb n 0 ≡ a → slice_index_or (cond a (Nop ∷ Nop ∷ [])
        (cond b (Nop ∷ first ∷ []) (cond c (first ∷ Nop ∷ []) (first ∷ second ∷ [])))) 1 Nop ≡ Op k → 1 ≤ n
    by_tests true b c f e = absurd (nop_op k e)
    by_tests false b c f e = some f

room_first :
    (end : End) (stays first second : Bool) → 1 ≤ room_for end stays first second → eqb (room_for end stays first second) 1 ≡ false → first ≡ true
room_first (Branches target) stays first second h f = grind (arith, nat_tests)
room_first (Calls target) stays first second h f = grind (arith, nat_tests)
room_first _ stays first second h f = absurd (omega arith)

room_second : (end : End) (stays first second : Bool) → 1 ≤ room_for end stays first second → second ≡ true
room_second (Branches target) stays first second h = grind (arith, nat_tests)
room_second (Calls target) stays first second h = grind (arith, nat_tests)
room_second _ stays first second h = absurd (omega arith)

no_op_there : (s : Site) (p k n : ℕ) → p ≡ s.plan.place + n → is_nop (slot s.plan n) ≡ true → StandsAt (items_of s.plan) p k → ⊥
no_op_there s p k n at e stands = false≢true (sym (ap is_nop (ap (slice_get (items_of s.plan)) (sym at) ∙ stands)) ∙ e)

-- no copy stands over an instruction
pub kept_free :
    (n : ℕ) (s g : Site) (p k j : ℕ) → n ≤ room s.block s.plan → StandsAt (items_of s.plan) p k → copied_to (copies_of n s (Some g)) s.plan.place p ≡ Op j
    → ⊥
kept_free n s g p k j small stands e =
    let free = room s.block s.plan in
    ⊎_elim
    (λ h.
    let some = first_filled free n (item_at g.plan 0) (item_at g.plan 1) j h.1 in
    let one = some.0 in
    no_op_there s p k 1 h.0 (room_first s.block.end (may_stay s.block) (is_nop (slot s.plan 1)) (is_nop (slot s.plan 2)) (omega arith) some.1) stands)
    (λ h.
    let one = second_filled free n (item_at g.plan 0) (item_at g.plan 1) j h.1 in
    no_op_there s p k 2 h.0 (room_second s.block.end (may_stay s.block) (is_nop (slot s.plan 1)) (is_nop (slot s.plan 2)) (omega arith)) stands)
    (slot_places (copies_of n s (Some g)) s.plan.place p j e)

copies_free :
    (n : ℕ) (s : Site) (o : Option Site) (p k j : ℕ) → copy_fault n s o ≡ None → StandsAt (items_of s.plan) p k
    → copied_to (copies_of n s o) s.plan.place p ≡ Op j → ⊥
copies_free n s None p k j allowed stands e = copied_none s.plan.place p j e
copies_free n s (Some g) p k j allowed stands e = kept_free n s g p k j (fault_small n s g allowed).0 stands e

filling_free :
    (slots : Slots) (all : List Site) (s : Site) (p k j : ℕ) → StandsAt (items_of s.plan) p k → copied_to (filling_of slots all s) s.plan.place p ≡ Op j
    → ⊥
filling_free slots all s p k j stands e =
    let allowed = slots_allowed slots all s in
    copies_free allowed.0 s (site_of (is_target s.block.end) all) p k j allowed.1 stands
    (sym (ap (λ (c : Copied). copied_to c s.plan.place p) allowed.2) ∙ e)

-- an instruction stands as it is
pub kept :
    (slots : Slots) (all : List Site) (s : Site) (p k : ℕ) → StandsAt (items_of s.plan) p k → copied_to (filling_of slots all s) s.plan.place p ≡ Nop
kept slots all s p k stands = by_item (copied_to (filling_of slots all s) s.plan.place p) refl
  where
    by_item : (x : Item) → copied_to (filling_of slots all s) s.plan.place p ≡ x → copied_to (filling_of slots all s) s.plan.place p ≡ Nop
    by_item Nop e = e
    by_item (Op j) e = absurd (filling_free slots all s p k j stands e)

-- the registers of a statement are those of its word, wherever it is linked
pub linked_registers : (link : ℕ → ℕ) (c : Copied) (at : ℕ) (t : Statement) → HasRegisters (inst_of t) ↔ HasRegisters (linked_inst link c at t)
linked_registers link c at Halt = (λ h. h, λ h. h)
linked_registers link c at _ = (λ h. h, λ h. h)

-- the site at which a statement stands
pub record Covers (all : List Site) (i : ℕ) : Type 0 where
  pub at : ℕ
  pub site : Site
  pub is : slice_get all at ≡ Some site
  pub low : site.block.first ≤ i
  pub high : i < site.block.first + size site.block

pub covers : (source : SourceValue) (i j : ℕ) (all : List Site) → BlocksFrom source i j (blocks_in all) → (t : ℕ) → i ≤ t → t < j → Covers all t
covers source i j [] h t l m = absurd (let same : i ≡ j = h in omega arith)
covers source i j (s ∷ all) h t l m = ⊎_elim
    (λ below. record { at = 0; site = s; is = refl; low = let first = h.0 in omega arith; high = let first = h.0 in omega arith })
    (λ above. let rest = covers source (i + size s.block) j all h.2 t above m in
    record { at = suc rest.at; site = rest.site; is = rest.is; low = rest.low; high = rest.high })
    (cases_lt t (i + size s.block))

-- the registers of all statements are registers, where those of all linked instructions are
pub have_registers :
    (source : SourceValue) (place : Place) (link : ℕ → ℕ) (slots : Slots) (all : List Site) → IsLayout Valid source place all
    → ((k : ℕ) (s : Site) → slice_get all k ≡ Some s → EachInst HasRegisters link source.statements s (filling_of slots all s))
    → HaveRegisters source.statements
have_registers source place link slots all h each i d low =
    let at = covers source 0 (length source.statements) all h.blocks i (omega arith) low in
    let s = at.site in
    let k = i - s.block.first in
    let from = at.low in
    let to = at.high in
    let v = at_place (λ (x : Site). Valid x.block x.plan) all at.at s h.plans at.is in
    let once = once_all (size s.block) (items_of s.plan) v.once k (omega arith) in
    let stands = counted_stands k (items_of s.plan) (omega arith) in
    let c = filling_of slots all s in
    let place_is : s.block.first + k ≡ i = omega arith in
    let t = slice_index_or source.statements i d in
    let is : slice_get source.statements (s.block.first + k) ≡ Some t = ap (slice_get source.statements) place_is
    ∙ slice_get-get_or source.statements i d low in
    (linked_registers link c (s.start + stands.at) t).1
    (subst (λ (o : Option Statement). HasRegisters (linked_statement link c (s.start + stands.at) o)) is
    (subst (λ (x : Item). HasRegisters (inst_at link source.statements c (s.start + stands.at) (over (goal_of s.block.end) x (own s.block.first (Op k)))))
    (kept slots all s stands.at k stands.stands)
    (each at.at s at.is stands.at (Op k) stands.stands)))
