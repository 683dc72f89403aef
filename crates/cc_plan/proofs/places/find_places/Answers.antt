use Rattle.std.proofs.Common.{arith}
use Rattle.std.proofs.lemmas.Option.{slice_get-get_or, slice_get_within}
use native.Mathlib.Numerals.{unary_clauses}
use Rattle.cc_plan.proofs.Placing.{placed_next}
use Rattle.cc_plan.proofs.places.find_places.Goals as goal

pub loop-number-preserved : goal.loop-number-preserved
loop-number-preserved c =
    let test = c.loop-number-test.true in let count = c.min-count.ensures in let size = c.loop-number.auto.plans in
    simp unary_clauses (placed_next c.args.program.now c.args.function.now c.args.items.now c.loop-number.plans
    c.loop-number.knowledge c.place_item.new.knowledge
    c.loop-number.number _ c.place_item.new.plan c.loop-number.invariant
    (slice_get-get_or c.args.items.now c.loop-number.number _ (omega (arith, test, count))) (omega (arith, test, count, size)) (record {
      place = c.place_item.ensures.place;
      known = c.place_item.ensures.known;
      entry = c.place_item.ensures.entry;
      points = c.place_item.ensures.points;
      computes = c.place_item.ensures.computes;
    }))

pub returns : goal.returns
returns c s i trace item plan t at there =
    let test = c.loop-number-test.false in let count = c.min-count.ensures in let size = c.loop-number.auto.plans in
    let a = slice_get_within c.args.items.now i item at in let b = slice_get_within c.loop-number.plans i plan there in
    c.loop-number.invariant.places s i trace item plan (omega (arith, test, count, size, a, b)) t at there
