use Rattle.std.proofs.Common.{◌+◌, ◌<◌, length, ap, ◌∙◌, arith}
use Rattle.std.proofs.lemmas.Bool.Decides.{nat_tests}
use Rattle.std.proofs.lemmas.List.{length_push}
use Rattle.mx_layout.proofs.Taken.{IsTaken, taken_more}
use Rattle.mx_layout.proofs.choosing.choose_all.Goals as goal

pub loop-block-preserved : goal.loop-block-preserved
loop-block-preserved g c =
    let added = c.in_ok-add.ensures in
    let before = c.loop-block.invariant in
    let told = c.choose.ensures in
    let within : c.loop-block.block-index < length c.args.blocks.now = omega arith in
    let is : IsTaken g.P.Proposer.proposes c.block-item.result c.choose.result.plan c.choose.result.proposal c.choose.result.rejected = record {
      told = told.proposes;
      invalid = told.rejected.0;
      padded = told.padded;
      kept = told.kept;
      valid = told.valid;
    } in
    record {
      plans = ap length added.plans ∙ length_push _ _ ∙ ap (λ n. n + 1) before.plans;
      rejected = let more = added.rejected in let few = before.rejected in grind (arith, nat_tests);
      taken =
          taken_more g.P.Proposer.proposes c.args.blocks.now c.loop-block.block-index c.loop-block.choices.rejected _ _ _ _ _ c.block-item.result _ _
          c.choose.result.rejected within c.block-item.is before.plans before.taken is added.proposals added.plans added.rejected;
    }
