use Rattle.std.proofs.Common.{map}
use Rattle.lab_measures.specs.Sweeps.{requests_of}
use Rattle.lab_measures.proofs.Paired.{pair_step}
use Rattle.lab_measures.proofs.sweep.add_pairs.Goals as goal

pub loop-second-preserved : goal.loop-second-preserved
loop-second-preserved g c = record {
  rows = λ come all. c.in_ok-add_pair.ensures.rows come (c.loop-second.invariant.rows come all);
  pairs = pair_step c.args.first c.loop-second.second-index _ c.args.others.now (map requests_of c.args.rows.now.items)
      (map requests_of c.loop-second.rows.items) (map requests_of c.add_pair.new.rows.items) c.loop-second-test.true
      c.in_ok-add_pair.ensures.pair c.loop-second.invariant.pairs;
}
