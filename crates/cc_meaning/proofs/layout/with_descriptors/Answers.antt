use Rattle.std.proofs.Common.{◌+◌, ◌<◌, length, arith}
use Rattle.cc_meaning.specs.Layouts.{extended}
use Rattle.cc_meaning.proofs.Walks.{fold_step}
use Rattle.cc_meaning.proofs.layout.with_descriptors.Goals as goal

pub loop-object-preserved : goal.loop-object-preserved
loop-object-preserved c =
    fold_step (extended c.args.program.now) c.args.none c.loop-object.bytes c.extended-bytes.result
    c.args.objects.now c.loop-object.object-index c.object-item.result (omega arith) c.object-item.is c.loop-object.invariant c.extended-bytes.ensures
