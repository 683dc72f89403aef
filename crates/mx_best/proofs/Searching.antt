-- Steps of the search: what is put at a place, and which plans a failed attempt rules out.
use Rattle.std.proofs.Common.{◌≡◌, ℕ, zero, suc, ◌+◌, ◌<◌, ◌≤◌, true, eqb, List, [], ◌∷◌, length, drop, Some, refl, sym, ap, ◌∙◌, subst, ⊎_elim, arith}
use Rattle.std.specs.Prelude.{slice_get, slice_set, slice_index_or}
use Rattle.std.proofs.lemmas.Bool.{cases_lt, false≢true}
use Rattle.std.proofs.lemmas.Bool.Decides.{nat_tests}
use Rattle.std.proofs.lemmas.List.{drop-drop, drop-set, drop-set-lt, length-set}
use Rattle.std.proofs.lemmas.Option.{slice_get-get_or}
use Rattle.mx_source.proofs.Grouped.{slice_get-set_cases}
use Rattle.mx_source.proofs.Printing.{drop-slice_get}
use Rattle.mx_blocks.specs.declared.block.Block.{Block}
use Rattle.mx_blocks.specs.declared.block.Plan.{Plan}
use Rattle.mx_blocks.specs.declared.block.Item.{Item}
use Rattle.mx_blocks.specs.declared.block.Item.TheVariants.{Op, Nop}
use Rattle.mx_blocks.specs.Items.{StandsAt}
use Rattle.mx_validate.specs.Padded.{insts_of, items_of}
use Rattle.mx_validate.specs.Validity.{Valid}
use Rattle.mx_validate.proofs.Listed.{once_below}
use Rattle.mx_best.specs.Visits.{MayPrecede, MayStand, no_ops, EndsAs}
use Rattle.mx_best.proofs.Visited.{get_drop, may_stand, few_no_ops}

-- only instructions of the block stand
abbrev pub AreKnown : Block → List Item → Type 0
AreKnown block items = (p k : ℕ) → StandsAt items p k → k < length (insts_of block)

-- no valid plan that ends as this one has at the place before an instruction of a lower number
abbrev pub Tried : Block → Plan → ℕ → ℕ → Type 0
Tried block plan at k = (j : ℕ) → j < k → (other : Plan) → EndsAs plan (suc at) other → StandsAt (items_of other) at j → ¬ Valid block other

-- what the loop over the instructions keeps
pub record IsTrying (block : Block) (plan : Plan) (at k : ℕ) (now : Plan) : Type 0 where
  pub kept : EndsAs plan (suc at) now
  pub known : AreKnown block (items_of now)
  pub tried : Tried block plan at k

pub known_behind : (block : Block) (items : List Item) (n : ℕ) → AreKnown block items → AreKnown block (drop n items)
known_behind block items n known p k s = known (n + p) k (sym (get_drop n items p (n + p) refl) ∙ s)

pub known_put : (block : Block) (items : List Item) (at : ℕ) (x : Item) → ((k : ℕ) → x ≡ Op k → k < length (insts_of block)) → AreKnown block items
    → AreKnown block (slice_set items at x)
known_put block items at x fits known p k s = ⊎_elim (λ h. fits k h.1) (λ h. known p k h.1) (slice_get-set_cases items at p x (Op k) s)

pub ends_same : (plan : Plan) (from : ℕ) → EndsAs plan from plan
ends_same plan from = record { place = refl; size = refl; behind = refl }

pub ends_through : (a b c : Plan) (from : ℕ) → EndsAs a from b → EndsAs b from c → EndsAs a from c
ends_through a b c from e f = record { place = f.place ∙ e.place; size = f.size ∙ e.size; behind = f.behind ∙ e.behind }

pub ends_less : (a b : Plan) (at : ℕ) → EndsAs a at b → EndsAs a (suc at) b
ends_less a b at e = record {
  place = e.place;
  size = e.size;
  behind = sym (one (items_of b)) ∙ ap (drop 1) e.behind ∙ one (items_of a);
}
  where
    one : (xs : List Item) → drop 1 (drop at xs) ≡ drop (suc at) xs
    one xs = let same : at + 1 ≡ suc at = omega arith in drop-drop 1 at xs ∙ ap (λ n. drop n xs) same

-- after is before with an item put at a place
pub record IsPut (before : Plan) (at : ℕ) (x : Item) (after : Plan) : Type 0 where
  pub within : at < length (items_of before)
  pub items : items_of after ≡ slice_set (items_of before) at x
  pub place : after.place ≡ before.place

pub put_drop : (before after : Plan) (at : ℕ) (x : Item) → IsPut before at x after → drop at (items_of after) ≡ x ∷ drop (suc at) (items_of before)
put_drop before after at x h =
    let same : at + 1 ≡ suc at = omega arith in
    ap (drop at) h.items ∙ drop-set (items_of before) at x h.within ∙ ap (λ n. x ∷ drop n (items_of before)) same

pub put_ends : (before after : Plan) (at : ℕ) (x : Item) → IsPut before at x after → EndsAs before (suc at) after
put_ends before after at x h = record {
  place = h.place;
  size = ap length h.items ∙ length-set (items_of before) at x;
  behind = ap (drop (suc at)) h.items ∙ drop-set-lt (suc at) (items_of before) at x (omega arith);
}

-- what ends as the plan did, with this item before it, ends as the plan with the item
pub other_put : (plan before after other : Plan) (at : ℕ) (x : Item) → EndsAs plan (suc at) before → IsPut before at x after → EndsAs plan (suc at) other
    → slice_get (items_of other) at ≡ Some x → EndsAs after at other
other_put plan before after other at x kept h e s =
    let put = put_ends before after at x h in
    record {
      place = e.place ∙ sym kept.place ∙ sym put.place;
      size = e.size ∙ sym kept.size ∙ sym put.size;
      behind = drop-slice_get (items_of other) at x s ∙ ap (λ l. x ∷ l) (e.behind ∙ sym kept.behind) ∙ sym (put_drop before after at x h);
    }

-- where an instruction may not stand, no valid plan has it
pub ruled_out : (block : Block) (plan before other : Plan) (at k : ℕ) → ¬ MayStand block before at (Op k) → EndsAs plan (suc at) before
    → EndsAs plan (suc at) other → StandsAt (items_of other) at k → ¬ Valid block other
ruled_out block plan before other at k not_may kept e s v =
    let may = may_stand block other v at (Op k) s in
    not_may record {
      place = ap (λ p. eqb at p) (kept.place ∙ sym e.place) ∙ may.place;
      precedes = subst (λ (l : List Item). MayPrecede block l k) (e.behind ∙ sym kept.behind) may.precedes;
    }

-- no valid plan that ends so has a no-op at the place
abbrev pub NoNoOp : Block → Plan → ℕ → Type 0
NoNoOp block plan at = (other : Plan) → EndsAs plan (suc at) other → slice_get (items_of other) at ≡ Some Nop → ¬ Valid block other

-- all items have been tried
pub none_left : (block : Block) (plan : Plan) (at : ℕ) → at < length (items_of plan) → Tried block plan at (length (insts_of block)) → NoNoOp block plan at
    → (other : Plan) → EndsAs plan (suc at) other → ¬ Valid block other
none_left block plan at within tried nop other e v =
    let size = e.size in
    by (slice_index_or (items_of other) at Nop) (slice_get-get_or (items_of other) at Nop (omega arith))
  where
    by : (x : Item) → slice_get (items_of other) at ≡ Some x → ⊥
    by (Op j) s = tried j (once_below (length (insts_of block)) (items_of other) v.once at j s) other e s v
    by Nop s = nop other e s v

no_ops_drop : (n : ℕ) (items : List Item) → no_ops (drop n items) ≤ no_ops items
no_ops_drop zero items = omega arith
no_ops_drop (suc n) [] = omega arith
no_ops_drop (suc n) (Op k ∷ items) = no_ops_drop n items
no_ops_drop (suc n) (Nop ∷ items) = let rest = no_ops_drop n items in omega arith

-- where all no-ops stand behind the place
pub none_spare : (block : Block) (plan : Plan) (at : ℕ) → no_ops (drop (suc at) (items_of plan)) + length (insts_of block) ≡ length (items_of plan)
    → NoNoOp block plan at
none_spare block plan at count other e s v =
    let few = few_no_ops block other v in
    let more = no_ops_drop at (items_of other) in
    let here = ap no_ops (drop-slice_get (items_of other) at Nop s) in
    let behind = ap no_ops e.behind in
    let size = e.size in
    omega arith

-- at the terminator's place
pub not_there : (block : Block) (plan : Plan) (at : ℕ) → at ≡ plan.place → NoNoOp block plan at
not_there block plan at here other e s v =
    let may = may_stand block other v at Nop s in
    let place = e.place in
    let test : eqb at other.place ≡ true = grind (arith, nat_tests) in
    false≢true (sym may.place ∙ test)

pub put_count : (plan before after : Plan) (at : ℕ) (x : Item) → EndsAs plan (suc at) before → IsPut before at x after
    → no_ops (drop at (items_of after)) ≡ no_ops (x ∷ drop (suc at) (items_of plan))
put_count plan before after at x kept h = ap no_ops (put_drop before after at x h) ∙ ap (λ l. no_ops (x ∷ l)) kept.behind

pub put_size : (plan before after : Plan) (at : ℕ) (x : Item) → EndsAs plan (suc at) before → IsPut before at x after
    → length (items_of after) ≡ length (items_of plan)
put_size plan before after at x kept h = let put = put_ends before after at x h in put.size ∙ kept.size

-- what is filled before an item that was put
pub through_put : (plan before after end : Plan) (at : ℕ) (x : Item) → EndsAs plan (suc at) before → IsPut before at x after → EndsAs after at end
    → EndsAs plan (suc at) end
through_put plan before after end at x kept h e =
    ends_through plan before end (suc at) kept (ends_through before after end (suc at) (put_ends before after at x h) (ends_less after end at e))

pub tried_more : (block : Block) (plan : Plan) (at k : ℕ) → Tried block plan at k
    → ((other : Plan) → EndsAs plan (suc at) other → StandsAt (items_of other) at k → ¬ Valid block other) → Tried block plan at (k + 1)
tried_more block plan at k before here j l other e s v = ⊎_elim
    (λ less. before j less other e s v)
    (λ more. let same : j ≡ k = omega arith in here other e (subst (λ i. StandsAt (items_of other) at i) same s) v)
    (cases_lt j k)
