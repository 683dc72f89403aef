use Rattle.lab_faults.specs.Checked.{caret}
use Rattle.std.proofs.Common.{◌∙◌, refl, arith}
use Rattle.lab_faults.proofs.Marks.{push_more}
use Rattle.lab_faults.proofs.marked.push_carets.Goals as goal

pub loop-byte-preserved : goal.loop-byte-preserved
loop-byte-preserved c =
    push_more caret c.loop-byte.marks.items c.push.new.self.items c.args.token.now c.loop-byte.byte-index 0 94 (omega (arith, c.loop-byte-test.true))
    c.in_ok-push.ensures.items refl
    ∙ c.loop-byte.invariant
