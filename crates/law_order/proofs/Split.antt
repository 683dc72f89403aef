-- The parts of a valid plan.
use Rattle.std.proofs.Common.{◌≡◌, ℕ, zero, suc, ◌+◌, ◌-◌, ◌*◌, ◌<◌, ◌≤◌, Bool, true, false, cond, ltb, List, [], ◌∷◌, ◌++◌, length, take, drop, Option, Some, refl, sym, ap, ◌∙◌, subst, arith, ⊎_elim}
use Rattle.std.specs.Prelude.{slice_get}
use Rattle.std.proofs.Math.Seq.{take-suc}
use Rattle.std.proofs.lemmas.Bool.{cases_lt, cases_Bool, cond-true, cond-false, or_parts, not-true}
use Rattle.std.proofs.lemmas.Bool.Decides.{nat_tests}
use Rattle.std.proofs.lemmas.List.{take-append-drop, length-take-le, length-drop, get_or-take, take_all, get_or_past}
use Rattle.std.proofs.lemmas.Option.{slice_get-get_or}
use Rattle.mx_isa.specs.declared.inst.Inst.{Inst}
use Rattle.mx_isa.specs.declared.inst.Inst.TheVariants.{Halt}
use Rattle.mx_isa.specs.declared.place.Place.{Place}
use Rattle.mx_isa.specs.Effect.{decides}
use Rattle.mx_isa.specs.Views.{is_transfer}
use Rattle.mx_isa.proofs.Frame.{decides_anywhere}
use Rattle.mx_depend.specs.Graphs.{inst_at}
use Rattle.mx_blocks.specs.declared.block.Block.{Block}
use Rattle.mx_blocks.specs.declared.block.Plan.{Plan}
use Rattle.mx_blocks.specs.declared.block.Item.{Item}
use Rattle.mx_blocks.specs.declared.block.Item.TheVariants.{Op, Nop}
use Rattle.mx_blocks.specs.declared.block.End.{End}
use Rattle.mx_blocks.specs.declared.block.End.TheVariants.{Falls, Halts, Branches, Calls, Jumps}
use Rattle.mx_blocks.specs.Ends.{is_last, is_some_and, end_is}
use Rattle.mx_blocks.specs.Items.{StandsAt, ops, times}
use Rattle.mx_validate.specs.Padded.{insts_of, items_of, falls, body_count}
use Rattle.mx_validate.specs.Validity.{EachOnce, end_count, Valid}
use Rattle.mx_validate.proofs.Listed.{ops_append, times_append, once_below}
use Rattle.mx_validate.proofs.PaddedLists.{padded_length}
use Rattle.law_order.specs.Running.{Ran, run_one, run_source, run_items}
use Rattle.law_order.specs.Laws.{IsPlanned}
use Rattle.law_order.specs.Parts.{AreBelow, IsTransfer, EndsWith, Parts, ValidPlanHasParts, TerminatorDecidesAlike}
use Rattle.law_order.proofs.Order.{not_last, laid_out_views, same_length, run_items_append, keeps_effect}

pub are_below : (n : ℕ) (items : List Item) → ((k : ℕ) → 1 ≤ times k (ops items) → k < n) → AreBelow n items
are_below n [] h = tt
are_below n (Op k ∷ items) h = (h k (grind (arith, nat_tests)), are_below n items (λ j l. h j (grind (arith, nat_tests))))
are_below n (Nop ∷ items) h = are_below n items h

pub below_right : (n : ℕ) (xs ys : List Item) → AreBelow n (xs ++ ys) → AreBelow n ys
below_right n [] ys h = h
below_right n (Op k ∷ xs) ys h = below_right n xs ys h.1
below_right n (Nop ∷ xs) ys h = below_right n xs ys h

-- where each number up to n stands once, only lower ones stand beside n
below_beside :
    (n : ℕ) (front rest : List Item) → EachOnce (suc n) (front ++ Op n ∷ rest) → (k : ℕ) → 1 ≤ times k (ops front) + times k (ops rest) → k < n
below_beside n front rest once k h = beside_at (times k (ops front)) (times k (ops rest)) (sym parts ∙ once k) h
  where
    parts : times k (ops (front ++ Op n ∷ rest)) ≡ times k (ops front) + times k (n ∷ ops rest)
    parts = ap (times k) (ops_append front (Op n ∷ rest)) ∙ times_append k (ops front) (n ∷ ops rest)

    beside_at : (a b : ℕ) → a + times k (n ∷ ops rest) ≡ cond (ltb k (suc n)) 1 0 → 1 ≤ a + times k (ops rest) → k < n
    beside_at a b e l = ⊎_elim
        (λ (q : k < n). q)
        (λ (g : n ≤ k). absurd (grind (arith, nat_tests)))
        (cases_lt k n)

pub below_front : (n : ℕ) (front rest : List Item) → EachOnce (suc n) (front ++ Op n ∷ rest) → AreBelow n front
below_front n front rest once = are_below n front (λ k l. below_beside n front rest once k (omega arith))

pub below_rest : (n : ℕ) (front rest : List Item) → EachOnce (suc n) (front ++ Op n ∷ rest) → AreBelow n rest
below_rest n front rest once = are_below n rest (λ k l. below_beside n front rest once k (omega arith))

below_all : (n : ℕ) (items : List Item) → EachOnce n items → AreBelow n items
below_all n items once = are_below n items (λ k l. let o = once k in grind (arith, nat_tests))

get_drop : (n : ℕ) (items : List Item) → slice_get (drop n items) 0 ≡ slice_get items n
get_drop zero items = refl
get_drop (suc n) [] = refl
get_drop (suc n) (x ∷ items) = get_drop n items

no_items : (items : List Item) → length items ≡ 0 → items ≡ []
no_items [] h = refl
no_items (x ∷ items) h = absurd (omega arith)

one_item : (items : List Item) (k : ℕ) → length items ≡ 1 → slice_get items 0 ≡ Some (Op k) → items ≡ Op k ∷ []
one_item [] k h e = absurd (cc)
one_item (x ∷ []) k h e = let same : x ≡ Op k = cc in ap (λ (i : Item). i ∷ []) same
one_item (x ∷ y ∷ items) k h e = absurd (omega arith)

three_items :
    (items : List Item) (k : ℕ) → length items ≡ 3 → slice_get items 0 ≡ Some (Op k)
    → (first : Item) × (second : Item) × (items ≡ Op k ∷ first ∷ second ∷ [])
three_items [] k h e = absurd (cc)
three_items (x ∷ []) k h e = absurd (omega arith)
three_items (x ∷ y ∷ []) k h e = absurd (omega arith)
three_items (x ∷ y ∷ z ∷ []) k h e = let same : x ≡ Op k = cc in (y, z, ap (λ (i : Item). i ∷ y ∷ z ∷ []) same)
three_items (x ∷ y ∷ z ∷ u ∷ items) k h e = absurd (omega arith)

-- of the body nothing transfers or halts
falling : (end : End) (i : Inst) → falls end ≡ true → end_is end i ≡ true → is_last i ≡ false
falling Falls i h e = not-true (is_last i) e
falling Halts i h e = absurd (cc)
falling (Branches target) i h e = absurd (cc)
falling (Calls target) i h e = absurd (cc)
falling Jumps i h e = absurd (cc)

pub body_goes_on : (block : Block) (k : ℕ) → k < body_count block → is_last (inst_at (insts_of block) k) ≡ false
body_goes_on block k l = by_end (falls block.end) refl l
  where
    by_end :
        (b : Bool) → falls block.end ≡ b → k < cond b (length (insts_of block)) (length (insts_of block) - 1)
        → is_last (inst_at (insts_of block) k) ≡ false
    by_end false e h = not_last (insts_of block) k block.body (omega arith)
    by_end true e h = ⊎_elim
        (λ (m : suc k < length (insts_of block)). not_last (insts_of block) k block.body m)
        (λ (m : length (insts_of block) ≤ suc k).
        let last : length (insts_of block) - 1 ≡ k = omega arith in
        falling block.end (inst_at (insts_of block) k) e
        (sym (ap (λ o. is_some_and o (end_is block.end)) (ap (slice_get (insts_of block)) last ∙ slice_get-get_or (insts_of block) k Halt h))
        ∙ block.last))
        (cases_lt (suc k) (length (insts_of block)))

pub body_within : (block : Block) → body_count block ≤ length (insts_of block)
body_within block = ⊎_elim (λ e. grind arith) (λ e. grind arith) (cases_Bool (falls block.end))

room_of : (block : Block) (plan : Plan) → Valid block plan → plan.place ≤ 2 * body_count block
room_of block plan valid =
    let body = take (body_count block) (insts_of block) in
    let size = length-take-le (body_count block) (insts_of block) (body_within block) in
    let most = padded_length 0 body
    (λ i l. let within : i < body_count block = omega arith in
    ap is_transfer (get_or-take (body_count block) (insts_of block) i Halt within) ∙ (or_parts _ _ (body_goes_on block i within)).0) in
    let room = valid.room in
    omega arith

pub below_left : (n : ℕ) (xs ys : List Item) → AreBelow n (xs ++ ys) → AreBelow n xs
below_left n [] ys h = tt
below_left n (Op k ∷ xs) ys h = (h.0, below_left n xs ys h.1)
below_left n (Nop ∷ xs) ys h = below_left n xs ys h

module _ (block : Block) (plan : Plan) (valid : Valid block plan) where
  abbrev pub count : ℕ
  count = length (insts_of block)

  -- before the terminator's place, and from there on
  abbrev pub front : List Item
  front = take plan.place (items_of plan)

  abbrev pub back : List Item
  back = drop plan.place (items_of plan)

  whole : items_of plan ≡ front ++ back
  whole = sym (take-append-drop plan.place (items_of plan))

  back_length : (e : End) → block.end ≡ e → length back ≡ end_count e
  back_length e h = let l = length-drop plan.place (items_of plan) in let t = valid.tail in let c = ap end_count h in omega arith

  -- the terminator stands first in the back
  stands : (e : End) → block.end ≡ e → falls e ≡ false → StandsAt (items_of plan) plan.place (count - 1)
  stands e h f = valid.terminator (ap falls h ∙ f)

  first_behind : (e : End) → block.end ≡ e → falls e ≡ false → slice_get back 0 ≡ Some (Op (count - 1))
  first_behind e h f = get_drop plan.place (items_of plan) ∙ stands e h f

  some : (e : End) → block.end ≡ e → falls e ≡ false → count ≡ suc (count - 1)
  some e h f = let l = once_below (length (insts_of block)) (items_of plan) valid.once plan.place (count - 1) (stands e h f) in omega arith

  once_of :
      (rest : List Item) → count ≡ suc (count - 1) → back ≡ Op (count - 1) ∷ rest → EachOnce (suc (count - 1)) (front ++ Op (count - 1) ∷ rest)
  once_of rest n b k =
      ap (λ l. times k (ops l)) (ap (λ l. front ++ l) (sym b) ∙ sym whole) ∙ valid.once k ∙ ap (λ m. cond (ltb k m) 1 0) n

  -- the parts for one end
  pub record Ends (e : End) : Type 0 where
    pub body : AreBelow (cond (falls e) count (count - 1)) front
    pub end : EndsWith e (cond (falls e) count (count - 1)) back

  goes : (e : End) → block.end ≡ e → falls e ≡ false → end_count e ≡ 3 → AreBelow (count - 1) front × IsTransfer (count - 1) back
  goes e h f c =
      let n = some e h f in
      let t = three_items back (count - 1) (back_length e h ∙ c) (first_behind e h f) in
      let once = once_of (t.0 ∷ t.1 ∷ []) n t.2 in (
        below_front (count - 1) front (t.0 ∷ t.1 ∷ []) once,
        record {
          first = t.0;
          second = t.1;
          is = t.2;
          slots = below_rest (count - 1) front (t.0 ∷ t.1 ∷ []) once;
        },
      )

  ends : (e : End) → block.end ≡ e → Ends e
  ends Falls h = record {
    body = below_left count front back (subst (AreBelow count) whole (below_all count (items_of plan) once));
    end = no_items back (back_length Falls h);
  }
    where
      once : EachOnce count (items_of plan)
      once = valid.once
  ends Halts h =
      let n = some Halts h refl in
      let b = one_item back (count - 1) (back_length Halts h) (first_behind Halts h refl) in
      record { body = below_front (count - 1) front [] (once_of [] n b); end = b }
  ends (Branches target) h = let g = goes (Branches target) h refl refl in record { body = g.0; end = g.1 }
  ends (Calls target) h = let g = goes (Calls target) h refl refl in record { body = g.0; end = g.1 }
  ends Jumps h = let g = goes Jumps h refl refl in record { body = g.0; end = g.1 }

pub has_parts : ValidPlanHasParts
has_parts block plan valid =
    let e = ends block plan valid block.end refl in
    let within : plan.place ≤ length (items_of plan) = (let t = valid.tail in omega arith) in
    let size = length-take-le plan.place (items_of plan) within in
    let room = room_of block plan valid in
    record {
      front = front block plan valid;
      back = back block plan valid;
      whole = whole block plan valid;
      place = sym size;
      body = e.body;
      room = (omega arith);
      end = e.end;
    }

-- numbers below n that do not transfer keep where it leads
pub leads_kept : (p : Place) (input : Option (List ℕ)) (at : ℕ) (insts : List Inst) (n : ℕ) (items : List Item) (s : Ran)
    → AreBelow n items → ((k : ℕ) → k < n → is_transfer (inst_at insts k) ≡ false) → (run_items p input at insts items s).leads ≡ s.leads
leads_kept p input at insts n [] s b h = refl
leads_kept p input at insts n (Op k ∷ items) s b h =
    leads_kept p input at insts n items (run_one p input at (inst_at insts k) s) b.1 h ∙ cond-false _ _ _ (h k b.0)
leads_kept p input at insts n (Nop ∷ items) s b h = leads_kept p input at insts n items s b h

pub run_source_append :
    (p : Place) (input : Option (List ℕ)) (at : ℕ) (xs ys : List Inst) (s : Ran)
    → run_source p input at (xs ++ ys) s ≡ run_source p input at ys (run_source p input at xs s)
run_source_append p input at [] ys s = refl
run_source_append p input at (i ∷ xs) ys s = run_source_append p input at xs ys (run_one p input at i s)

-- what stands behind the terminator is of the body
pub record Behind (body : ℕ) (back : List Item) : Type 0 where
  pub rest : List Item
  pub is : back ≡ Op body ∷ rest
  pub slots : AreBelow body rest

pub behind : (e : End) (body : ℕ) (back : List Item) → falls e ≡ false → EndsWith e body back → Behind body back
behind Falls body back f h = absurd (cc)
behind Halts body back f h = record { rest = []; is = h; slots = tt }
behind (Branches target) body back f h = record { rest = h.first ∷ h.second ∷ []; is = h.is; slots = h.slots }
behind (Calls target) body back f h = record { rest = h.first ∷ h.second ∷ []; is = h.is; slots = h.slots }
behind Jumps body back f h = record { rest = h.first ∷ h.second ∷ []; is = h.is; slots = h.slots }

-- past the end there is no transfer
past_goes_on : (insts : List Inst) (k : ℕ) → length insts ≤ k → is_transfer (inst_at insts k) ≡ false
past_goes_on insts k h = ap is_transfer (get_or_past insts k Halt h)

module _ (block : Block) (plan : Plan) (insts : List Inst) (input : Option (List ℕ)) (laid : IsPlanned block plan insts input)
    (parts : Parts block plan) where
  abbrev pub body : ℕ
  body = body_count block

  same_count : length insts ≡ length (insts_of block)
  same_count = same_length insts (insts_of block) laid.filled

  -- the body as it is laid out does not transfer
  pub body_stays : (k : ℕ) → k < body → is_transfer (inst_at insts k) ≡ false
  body_stays k l = sym (laid_out_views (insts_of block) insts k (sym laid.filled)).transfer ∙ (or_parts _ _ (body_goes_on block k l)).0

  -- behind the body stands the terminator, if there is one, and then nothing
  terminator_last : falls block.end ≡ false → insts ≡ take body insts ++ inst_at insts body ∷ []
  terminator_last f =
      let is : body ≡ length (insts_of block) - 1 = cond-false (falls block.end) (length (insts_of block)) (length (insts_of block) - 1) f in
      let l = once_below (length (insts_of block)) (items_of plan) laid.valid.once plan.place (length (insts_of block) - 1) (laid.valid.terminator f) in
      let n = same_count in
      let within : body < length insts = omega arith in
      let all : length insts ≤ suc body = omega arith in
      sym (take_all (suc body) insts all) ∙ take-suc insts body Halt within

  no_terminator : falls block.end ≡ true → is_transfer (inst_at insts body) ≡ false
  no_terminator f =
      let is : body ≡ length (insts_of block) = cond-true (falls block.end) (length (insts_of block)) (length (insts_of block) - 1) f in
      let n = same_count in
      past_goes_on insts body (omega arith)

  module _ (p : Place) (at : ℕ) (s : Ran) where
    abbrev before : Ran
    before = run_items p input at insts parts.front s

    abbrev in_source : Ran
    in_source = run_source p input at (take body insts) s

    -- where a block with a transfer leads, in either order
    leads_in_plan : falls block.end ≡ false → is_transfer (inst_at insts body) ≡ true
        → (run_items p input at insts (items_of plan) s).leads ≡ decides (inst_at insts body) at before.core.regs
    leads_in_plan f t =
        let b = behind block.end body parts.back f parts.end in
        ap (λ (r : Ran). r.leads) (
        ap (λ l. run_items p input at insts l s) (parts.whole ∙ ap (λ l. parts.front ++ l) b.is)
        ∙ run_items_append p input at insts parts.front (Op body ∷ b.rest) s
        )
        ∙ leads_kept p input at insts body b.rest (run_one p input at (inst_at insts body) before) b.slots body_stays
        ∙ cond-true _ _ _ t

    leads_in_source : falls block.end ≡ false → is_transfer (inst_at insts body) ≡ true
        → (run_source p input at insts s).leads ≡ decides (inst_at insts body) at in_source.core.regs
    leads_in_source f t =
        ap (λ (r : Ran). r.leads) (
        ap (λ l. run_source p input at l s) (terminator_last f)
        ∙ run_source_append p input at (take body insts) (inst_at insts body ∷ []) s
        )
        ∙ cond-true _ _ _ t

    -- the block leads where its terminator, if it has one, decides at its place
    pub leads_by_terminator : falls block.end ≡ false → is_transfer (inst_at insts body) ≡ true
        → (run_source p input at insts s).leads ≡ decides (inst_at insts body) at before.core.regs
    leads_by_terminator f t =
        sym (ap (λ (r : Ran). r.leads) (keeps_effect block plan insts p input at s laid)) ∙ leads_in_plan f t

    pub decides_at_place : decides (inst_at insts body) at before.core.regs ≡ decides (inst_at insts body) at in_source.core.regs
    decides_at_place = ⊎_elim
        (λ t. ⊎_elim
        (λ f. absurd (let n = no_terminator f in grind arith))
        (λ f. sym (leads_by_terminator f t) ∙ leads_in_source f t)
        (cases_Bool (falls block.end)))
        (λ t. decides_anywhere (inst_at insts body) at before.core.regs t ∙ sym (decides_anywhere (inst_at insts body) at in_source.core.regs t))
        (cases_Bool (is_transfer (inst_at insts body)))

pub decides_alike : TerminatorDecidesAlike
decides_alike block plan insts p input at s parts laid = decides_at_place block plan insts input laid parts p at s
