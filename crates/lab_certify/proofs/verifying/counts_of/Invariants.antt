use Rattle.std.proofs.Common.{◌≡◌, ◌++◌, drop}
use Rattle.lab_certify.specs.Verified.{counts_of}
use Rattle.lab_certify.proofs.verifying.counts_of.Given as goal

abbrev pub invariant-loop-k : goal.invariant-loop-k
invariant-loop-k l = l.counts.items ++ counts_of (drop l.k l.blocks) (drop l.k l.heads) ≡ counts_of l.blocks l.heads
