use Rattle.std.proofs.Common.{◌<◌, arith}
use Rattle.mx_blocks.specs.Leaders.{size}
use Rattle.lab_blocks.proofs.Spans.{with_span}
use Rattle.lab_blocks.proofs.bound.greatest_of.Goals as goal

pub loop-x-preserved : goal.loop-x-preserved
loop-x-preserved c =
    let count = c.len-count.ensures.value in
    let test = c.loop-x-test.true in
    let within : c.loop-x.x < size c.args.block.now = omega arith in
    with_span c.args.block.now c.loop-x.x c.loop-x.greatest _ _ within c.max-greatest.ensures c.loop-x.invariant (c.requires c.loop-x.x within)
