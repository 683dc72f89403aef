use Rattle.std.proofs.Common.{◌∙◌}
use Rattle.cc_emit.specs.Images.{seen}
use Rattle.cc_emit.proofs.Images.{objects_step}
use Rattle.cc_emit.proofs.words.write_objects.Goals as goal

pub loop-i-preserved : goal.loop-i-preserved
loop-i-preserved c =
    objects_step c.args.program.now c.args.end c.loop-i.i c.args.objects.now c.index-objects-i.result (seen c.loop-i.image)
    (seen c.write_object.new.image) c.loop-i-test.true c.index-objects-i.is c.write_object.ensures
    ∙ c.loop-i.invariant
