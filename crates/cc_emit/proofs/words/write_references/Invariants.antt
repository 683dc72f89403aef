use Rattle.std.proofs.Common.{◌≡◌, take}
use Rattle.std.specs.List.{fold}
use Rattle.cc_emit.specs.Images.{seen, with_reference}
use Rattle.cc_emit.proofs.words.write_references.Given as goal

abbrev pub invariant-loop-one : goal.invariant-loop-one
invariant-loop-one l = seen l.image ≡ fold (with_reference l.program l.end l.start) (seen l.initial.image) (take l.one-index l.references)
