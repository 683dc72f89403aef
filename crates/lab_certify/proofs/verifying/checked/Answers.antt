use Rattle.lab_certify.specs.Texts.{claims_of}
use Rattle.lab_certify.proofs.Verdict.{linkable, rejection}
use Rattle.lab_certify.proofs.verifying.checked.Goals as goal

pub returns-in-Ok-clause-count : goal.returns-in-Ok-clause-count
returns-in-Ok-clause-count c = c.in-Ok.ensures.passes.sited.planned.of.count

pub returns-in-Ok-clause-linkable : goal.returns-in-Ok-clause-linkable
returns-in-Ok-clause-linkable c = λ text source given.
    linkable text c.args.digits.now source c.args.layout.now (claims_of c.args.certificate.now) given c.in-Ok.ensures.passes

pub returns-in-Err-clause-refused : goal.returns-in-Err-clause-refused
returns-in-Err-clause-refused c = λ text source image given.
    rejection text c.args.digits.now source c.args.layout.now (claims_of c.args.certificate.now) given image c.in-Err.rejection c.in-Err.ensures.fails
