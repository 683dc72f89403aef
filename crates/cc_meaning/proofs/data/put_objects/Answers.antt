use Rattle.std.proofs.Common.{◌+◌, ◌<◌, length, arith}
use Rattle.cc_meaning.specs.Start.{with_object}
use Rattle.cc_meaning.proofs.Walks.{fold_step}
use Rattle.cc_meaning.proofs.data.put_objects.Goals as goal

pub loop-object-preserved : goal.loop-object-preserved
loop-object-preserved c =
    fold_step (with_object c.args.program.now c.args.layout.now) c.args.memory.now.items c.loop-object.memory.items c.put_object.new.memory.items
    c.args.objects.now c.loop-object.object-index c.object-item.result (omega arith) c.object-item.is c.loop-object.invariant c.put_object.ensures
