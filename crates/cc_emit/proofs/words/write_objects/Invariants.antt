use Rattle.std.proofs.Common.{◌≡◌, drop}
use Rattle.cc_emit.specs.Images.{seen, with_objects}
use Rattle.cc_emit.proofs.words.write_objects.Given as goal

abbrev pub invariant-loop-i : goal.invariant-loop-i
invariant-loop-i l = with_objects l.program l.end l.i (drop l.i l.objects) (seen l.image) ≡ with_objects l.program l.end 0 l.objects (seen l.initial.image)
