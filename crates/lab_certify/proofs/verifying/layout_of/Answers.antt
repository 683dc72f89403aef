use Rattle.mx_plans.specs.Says.{IsProposed}
use Rattle.lab_certify.specs.Texts.{claims_of}
use Rattle.lab_certify.proofs.Verdict.{proposals_count}
use Rattle.lab_certify.proofs.verifying.layout_of.Goals as goal

pub returns-clause-proposals : goal.returns-clause-proposals
returns-clause-proposals c =
    proposals_count (IsProposed c.args.source.now (claims_of c.args.certificate.now).plans) c.args.source.now c.in_ok-layout.layout
    c.in_ok-layout.ensures.laid c.in_ok-layout.ensures.kept
