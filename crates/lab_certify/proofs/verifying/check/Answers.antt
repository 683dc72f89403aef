use Rattle.std.proofs.Common.{ℕ, List, subst}
use Rattle.mx_link.specs.Parts.{sites_of}
use Rattle.lab_certify.specs.declared.certificate.Head.{Head}
use Rattle.lab_certify.specs.Verified.{MayCopy}
use Rattle.lab_certify.proofs.verifying.check.Goals as goal

pub returns-clause-passes : goal.returns-clause-passes
returns-clause-passes c = record {
  sited = c.in_default.ensures.sited;
  may =
      subst (λ (heads : List Head). (k : ℕ) → MayCopy (sites_of c.args.layout.now) heads k) c.as_slice.ensures.value
      c.in_default-check_copies.ensures.may;
}
