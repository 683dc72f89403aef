use Rattle.cc_emit.proofs.Overlay.{overlay_step}
use Rattle.cc_emit.proofs.words.write_bytes.Goals as goal

pub loop-i-preserved : goal.loop-i-preserved
loop-i-preserved c =
    overlay_step c.args.at c.loop-i.i c.args.new.now c.args.bytes.now c.loop-i.bytes c.write_byte.new.bytes c.loop-i-test.true c.loop-i.invariant
    c.write_byte.ensures
