use Rattle.std.proofs.Common.{◌≡◌, ℕ, suc, ◌+◌, ◌-◌, ◌<◌, true, eqb, length, drop, Some, sym, ap, ◌∙◌, subst, arith}
use Rattle.std.specs.Prelude.{slice_set}
use Rattle.std.proofs.lemmas.Bool.{false≢true}
use Rattle.std.proofs.lemmas.Bool.Decides.{nat_tests}
use Rattle.mx_blocks.specs.declared.block.Block.{Block}
use Rattle.mx_blocks.specs.declared.block.Plan.{Plan}
use Rattle.mx_blocks.specs.declared.block.Item.{Item}
use Rattle.mx_blocks.specs.declared.block.Item.TheVariants.{Op, Nop}
use Rattle.mx_validate.specs.Padded.{insts_of, items_of}
use Rattle.mx_best.specs.Visits.{EndsAs, no_ops}
use Rattle.mx_best.proofs.Visited.{same_op}
use Rattle.mx_best.proofs.Searching.{IsTrying, Tried, AreKnown, NoNoOp, IsPut, known_put, through_put, other_put, put_count, put_size, tried_more, ruled_out, none_left, none_spare, not_there}
use Rattle.mx_best.proofs.search.+fill.Goals as goal
use Rattle.mx_best.proofs.search.+fill.Goals.{then-may_stand+else-fill, else-may_stand, then-spare-eq0-via-then-spare-eq0, then-spare-eq0-via-else-spare-eq0+then-is_place}

known_op : (n k : ℕ) → k < n → (j : ℕ) → Op k ≡ Op j → j < n
known_op n k l j e = let same = same_op k j (ap (λ x. Some x) e) in omega arith

known_nop : (n j : ℕ) → Nop ≡ Op j → j < n
known_nop n j e = absurd (cc)

-- a place within the plan, and what was put there
put_at : (plan before after : Plan) (at : ℕ) (x : Item) → EndsAs plan (suc at) before → at < length (items_of plan)
    → (items_of after ≡ slice_set (items_of before) at x) × (after.place ≡ before.place) → IsPut before at x after
put_at plan before after at x kept l h = record { within = let size = kept.size in omega arith; items = h.0; place = h.1 }

known_after : (block : Block) (before after : Plan) (at : ℕ) (x : Item) → ((k : ℕ) → x ≡ Op k → k < length (insts_of block)) → AreKnown block (items_of before)
    → items_of after ≡ slice_set (items_of before) at x → AreKnown block (items_of after)
known_after block before after at x fits known e = subst (AreKnown block) (sym e) (known_put block (items_of before) at x fits known)

moved : (plan other : Plan) (from at : ℕ) → at ≡ from → EndsAs plan at other → EndsAs plan from other
moved plan other from at e h = subst (λ n. EndsAs plan n other) e h

pub fill-requires : goal.fill-requires
fill-requires t c =
    let plan = c.args.plan.now in
    let at = c.args.from - 1 in
    let next : suc at ≡ c.args.from = omega arith in
    let kept = c.loop-k.invariant.kept in
    let step = put_at plan c.loop-k.plan c.put.new.plan at (Op c.loop-k.k) kept (omega arith) (c.put.ensures.items, c.put.ensures.place) in
    let count = put_count plan c.loop-k.plan c.put.new.plan at (Op c.loop-k.k) kept step in
    let size = put_size plan c.loop-k.plan c.put.new.plan at (Op c.loop-k.k) kept step in
    let same : no_ops (drop (suc at) (items_of plan)) ≡ no_ops (drop c.args.from (items_of plan)) = ap (λ n. no_ops (drop n (items_of plan))) next in
    let known = known_after c.args.block.now c.loop-k.plan c.put.new.plan at (Op c.loop-k.k)
    (known_op _ c.loop-k.k (omega arith)) c.loop-k.invariant.known c.put.ensures.items in
    (omega arith, (omega arith, (known, omega arith)))

pub returns-then-fill-clause-kept : goal.returns-then-fill-clause-kept
returns-then-fill-clause-kept t c =
    let plan = c.args.plan.now in
    let at = c.args.from - 1 in
    let kept = c.loop-k.invariant.kept in
    let step = put_at plan c.loop-k.plan c.put.new.plan at (Op c.loop-k.k) kept (omega arith) (c.put.ensures.items, c.put.ensures.place) in
    moved plan c.fill.new.plan c.args.from (suc at) (omega arith)
    (through_put plan c.loop-k.plan c.put.new.plan c.fill.new.plan at (Op c.loop-k.k) kept step c.fill.ensures.kept)

pub loop-k-preserved : goal.loop-k-preserved
loop-k-preserved t c =
    let block = c.args.block.now in
    let plan = c.args.plan.now in
    let at = c.args.from - 1 in
    let kept = c.loop-k.invariant.kept in
    elim c.if-may_stand.branch [
      | then-may_stand+else-fill w ↦
          let step = put_at plan c.loop-k.plan w.put.new.plan at (Op c.loop-k.k) kept (omega arith) (w.put.ensures.items, w.put.ensures.place) in
          subst (IsTrying block plan at (c.loop-k.k + 1)) (sym w.plan-is) record {
            kept = through_put plan c.loop-k.plan w.put.new.plan w.fill.new.plan at (Op c.loop-k.k) kept step w.fill.ensures.kept;
            known = w.fill.ensures.known;
            tried = tried_more block plan at c.loop-k.k c.loop-k.invariant.tried
                (λ other e s. w.fill.ensures.none w.if-fill.false other (other_put plan c.loop-k.plan w.put.new.plan other at (Op c.loop-k.k) kept step e s));
          }
      | else-may_stand w ↦
          subst (IsTrying block plan at (c.loop-k.k + 1)) (sym w.plan-is) record {
            kept = kept;
            known = c.loop-k.invariant.known;
            tried = tried_more block plan at c.loop-k.k c.loop-k.invariant.tried
                (λ other e s. ruled_out block plan c.loop-k.plan other at c.loop-k.k
                (λ m. false≢true (sym w.if-may_stand.false ∙ c.may_stand.ensures.1 m)) kept e s);
          }
    ]

pub returns-then-spare-eq0-clause-none : goal.returns-then-spare-eq0-clause-none
returns-then-spare-eq0-clause-none t c = λ f other e v.
    let block = c.args.block.now in
    let plan = c.args.plan.now in
    let at = c.args.from - 1 in
    let next : suc at ≡ c.args.from = omega arith in
    let kept = c.loop-k.invariant.kept in
    let place = kept.place in
    let same : no_ops (drop (suc at) (items_of plan)) ≡ no_ops (drop c.args.from (items_of plan)) = ap (λ n. no_ops (drop n (items_of plan))) next in
    let all : Tried block plan at (length (insts_of block)) = λ j l. c.loop-k.invariant.tried j (omega arith) in
    let nop : NoNoOp block plan at = elim c.then-spare-eq0.branch [
      | then-spare-eq0-via-then-spare-eq0 w ↦ none_spare block plan at (omega arith)
      | then-spare-eq0-via-else-spare-eq0+then-is_place w ↦
          let test : eqb at c.loop-k.plan.place ≡ true = sym w.is_place.ensures ∙ w.if-is_place.true in
          let here : at ≡ c.loop-k.plan.place = grind (arith, nat_tests) in
          not_there block plan at (omega arith)
    ] in
    none_left block plan at (omega arith) all nop other (moved plan other (suc at) c.args.from (sym next) e) v

pub fill-requires-2 : goal.fill-requires-2
fill-requires-2 t c =
    let plan = c.args.plan.now in
    let at = c.args.from - 1 in
    let next : suc at ≡ c.args.from = omega arith in
    let kept = c.loop-k.invariant.kept in
    let step = put_at plan c.loop-k.plan c.put-2.new.plan at Nop kept (omega arith) (c.put-2.ensures.items, c.put-2.ensures.place) in
    let count = put_count plan c.loop-k.plan c.put-2.new.plan at Nop kept step in
    let size = put_size plan c.loop-k.plan c.put-2.new.plan at Nop kept step in
    let same : no_ops (drop (suc at) (items_of plan)) ≡ no_ops (drop c.args.from (items_of plan)) = ap (λ n. no_ops (drop n (items_of plan))) next in
    let known = known_after c.args.block.now c.loop-k.plan c.put-2.new.plan at Nop (known_nop _) c.loop-k.invariant.known c.put-2.ensures.items in
    (omega arith, (omega arith, (known, omega arith)))

pub returns-clause-kept : goal.returns-clause-kept
returns-clause-kept t c =
    let plan = c.args.plan.now in
    let at = c.args.from - 1 in
    let kept = c.loop-k.invariant.kept in
    let step = put_at plan c.loop-k.plan c.put-2.new.plan at Nop kept (omega arith) (c.put-2.ensures.items, c.put-2.ensures.place) in
    moved plan c.fill-2.new.plan c.args.from (suc at) (omega arith)
    (through_put plan c.loop-k.plan c.put-2.new.plan c.fill-2.new.plan at Nop kept step c.fill-2.ensures.kept)

pub returns-clause-none : goal.returns-clause-none
returns-clause-none t c = λ f other e v.
    let block = c.args.block.now in
    let plan = c.args.plan.now in
    let at = c.args.from - 1 in
    let next : suc at ≡ c.args.from = omega arith in
    let kept = c.loop-k.invariant.kept in
    let step = put_at plan c.loop-k.plan c.put-2.new.plan at Nop kept (omega arith) (c.put-2.ensures.items, c.put-2.ensures.place) in
    let all : Tried block plan at (length (insts_of block)) = λ j l. c.loop-k.invariant.tried j (omega arith) in
    let nop : NoNoOp block plan at = λ o g s. c.fill-2.ensures.none f o (other_put plan c.loop-k.plan c.put-2.new.plan o at Nop kept step g s) in
    none_left block plan at (omega arith) all nop other (moved plan other (suc at) c.args.from (sym next) e) v
