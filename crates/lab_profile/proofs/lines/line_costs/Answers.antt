use Rattle.std.proofs.Common.{slice_index, ◌∙◌, arith}
use Rattle.lab_profile.specs.Lines.{executed_of, penalty_of}
use Rattle.lab_profile.proofs.Gathered.{gathers_more, gathers_all}
use Rattle.lab_profile.proofs.EachColumn.{charges_more, charges_all, all_columns, none_yet}
use Rattle.lab_profile.proofs.lines.line_costs.Goals as goal

pub loop-place-preserved : goal.loop-place-preserved
loop-place-preserved c =
    let size = c.loop-place.invariant.size in
    record {
      size = c.add_word.ensures.size ∙ size;
      columns = λ column column_is i h.
          charges_more column c.args.tally.now i c.args.origin.now column_is c.loop-place.place c.loop-place.owner c.owner_at-owner.result _
          c.loop-place.costs.items c.add_word.new.costs.items c.loop-place-test.true c.owner_at-owner.ensures
          (c.add_word.ensures.each i (omega (arith, h, size))) (c.loop-place.invariant.columns column column_is i h);
      executed = λ i h.
          let (n, e, f) = c.loop-place.invariant.executed i h in
          gathers_more executed_of (slice_index c.args.tally.now.executed.items) i c.args.origin.now c.loop-place.place n _ c.add_word.new.costs.items
          c.loop-place-test.true (c.add_word.ensures.executed i n (omega (arith, h, size)) e) f;
      penalty = λ i h.
          let (n, e, f) = c.loop-place.invariant.penalty i h in
          gathers_more penalty_of (slice_index c.args.tally.now.penalty.items) i c.args.origin.now c.loop-place.place n _ c.add_word.new.costs.items
          c.loop-place-test.true (c.add_word.ensures.penalty i n (omega (arith, h, size)) e) f;
    }

pub returns-clause-columns : goal.returns-clause-columns
returns-clause-columns c i h =
    all_columns _ _ (λ column column_is.
    charges_all column c.args.tally.now i c.args.origin.now c.loop-place.place c.loop-place.owner c.loop-place.costs.items
    c.loop-place-test.false (c.loop-place.invariant.columns column column_is i h))

pub returns-clause-executed : goal.returns-clause-executed
returns-clause-executed c i h =
    gathers_all executed_of (slice_index c.args.tally.now.executed.items) i c.args.origin.now c.loop-place.place c.loop-place.costs.items
    c.loop-place-test.false (c.loop-place.invariant.executed i h)

pub returns-clause-penalty : goal.returns-clause-penalty
returns-clause-penalty c i h =
    gathers_all penalty_of (slice_index c.args.tally.now.penalty.items) i c.args.origin.now c.loop-place.place c.loop-place.costs.items
    c.loop-place-test.false (c.loop-place.invariant.penalty i h)
