use Rattle.std.proofs.Common.{◌≡◌, drop}
use Rattle.std.specs.List.{fold}
use Rattle.cc_meaning.specs.Layouts.{extended}
use Rattle.cc_meaning.proofs.layout.with_descriptors.Given as goal

-- the data that are left make of the bytes what all make of them
abbrev pub invariant-loop-object : goal.invariant-loop-object
invariant-loop-object l =
    fold (extended l.program) l.bytes (drop l.object-index l.objects) ≡ fold (extended l.program) l.fn.none l.objects
