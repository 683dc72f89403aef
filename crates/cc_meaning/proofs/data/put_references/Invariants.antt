use Rattle.std.proofs.Common.{◌≡◌, drop}
use Rattle.std.specs.List.{fold}
use Rattle.cc_meaning.specs.Start.{with_reference}
use Rattle.cc_meaning.proofs.data.put_references.Given as goal

-- the words that are left make of memory what all make of it
abbrev pub invariant-loop-one : goal.invariant-loop-one
invariant-loop-one l =
    fold (with_reference l.program l.layout l.start) l.memory.items (drop l.one-index l.references)
    ≡ fold (with_reference l.program l.layout l.start) l.initial.memory.items l.references
