use Rattle.std.proofs.Common.{◌+◌, arith}
use Rattle.std.proofs.lemmas.List.{take_rest}
use Rattle.lab_measures.proofs.Paired.{first_step}
use Rattle.lab_measures.proofs.sweep.pairs.Goals as goal

pub loop-at-preserved : goal.loop-at-preserved
loop-at-preserved g c =
    let come = c.in_ok-forward-2.ensures.come c.loop-at.invariant.come in
    let test = c.loop-at-test.true in
    record {
      come = come;
      rows = c.in_ok-add_pairs.ensures.rows come c.loop-at.invariant.rows;
      pairs = first_step c.loop-at.at 0 c.args.swept.now.cycles.now _ _ _ (omega (arith, test)) (take_rest c.args.swept.now.cycles.now (c.loop-at.at + 1))
          c.in_ok-add_pairs.ensures.pairs c.loop-at.invariant.pairs;
    }
