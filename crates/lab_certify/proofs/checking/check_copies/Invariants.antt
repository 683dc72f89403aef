use Rattle.mx_link.specs.Parts.{sites_of}
use Rattle.lab_certify.specs.Verified.{Before, MayCopy}
use Rattle.lab_certify.proofs.checking.check_copies.Given as goal

abbrev pub invariant-loop-k : goal.invariant-loop-k
invariant-loop-k l = Before (MayCopy (sites_of l.layout) l.heads) l.k
