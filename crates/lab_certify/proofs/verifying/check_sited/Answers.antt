use Rattle.std.proofs.Common.{ℕ, List, subst}
use Rattle.lab_certify.specs.declared.certificate.Head.{Head}
use Rattle.lab_certify.specs.Verified.{AtBoth}
use Rattle.lab_certify.specs.Checks.{Begins}
use Rattle.lab_certify.proofs.verifying.check_sited.Goals as goal

pub returns-clause-sited : goal.returns-clause-sited
returns-clause-sited c =
    let l = c.args.layout.now in record {
      planned = c.in_default.ensures.planned;
      begin =
          subst (λ (heads : List Head). (k : ℕ) → AtBoth Begins l.starts.items heads k) c.as_slice-2.ensures.value
          (subst (λ (starts : List ℕ). (k : ℕ) → AtBoth Begins starts c.as_slice-2.result.now k) c.as_slice.ensures.value
          c.in_default-check_addresses.ensures.begin);
    }
