use Rattle.std.proofs.Common.{◌≡◌, drop}
use Rattle.std.specs.List.{fold}
use Rattle.cc_meaning.specs.Start.{with_object}
use Rattle.cc_meaning.proofs.data.put_objects.Given as goal

-- the data that are left make of memory what all make of it
abbrev pub invariant-loop-object : goal.invariant-loop-object
invariant-loop-object l =
    fold (with_object l.program l.layout) l.memory.items (drop l.object-index l.objects)
    ≡ fold (with_object l.program l.layout) l.initial.memory.items l.objects
