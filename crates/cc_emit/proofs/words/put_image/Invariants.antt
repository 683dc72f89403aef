use Rattle.std.proofs.Common.{◌≡◌, ◌++◌, drop}
use Rattle.cc_emit.specs.declared.words.Writing.TheVariants.{Nothing}
use Rattle.cc_emit.specs.Images.{image_text}
use Rattle.cc_emit.proofs.words.put_image.Given as goal

abbrev pub invariant-loop-one : goal.invariant-loop-one
invariant-loop-one l =
    l.text ++ image_text l.program l.left l.writing (drop l.one-index l.said) ≡ l.initial.text ++ image_text l.program l.bytes Nothing l.said
