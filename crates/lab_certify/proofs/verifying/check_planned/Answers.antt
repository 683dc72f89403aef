use Rattle.std.proofs.Common.{ℕ, List, length, ap, ◌∙◌, subst}
use Rattle.mx_blocks.specs.declared.Block.{Block}
use Rattle.mx_blocks.specs.declared.Plan.{Plan}
use Rattle.mx_validate.specs.Validity.{Valid}
use Rattle.lab_certify.specs.Verified.{AtBoth}
use Rattle.lab_certify.proofs.verifying.check_planned.Goals as goal

pub returns-clause-planned : goal.returns-clause-planned
returns-clause-planned c =
    let l = c.args.layout.now in record {
      of = record { hash = c.in_default.ensures.hash; count = c.in_default.ensures.count ∙ ap length c.as_slice.ensures.value };
      valid =
          subst (λ (plans : List Plan). (k : ℕ) → AtBoth Valid l.blocks.items plans k) c.as_slice-3.ensures.value
          (subst (λ (blocks : List Block). (k : ℕ) → AtBoth Valid blocks c.as_slice-3.result.now k) c.as_slice-2.ensures.value
          c.in_default-check_plans.ensures.valid);
    }
