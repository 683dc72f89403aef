use Rattle.std.proofs.Common.{ap, ◌∙◌}
use Rattle.mx_link.specs.Parts.{sites_of}
use Rattle.lab_certify.specs.Texts.{claims_of}
use Rattle.lab_certify.specs.Verified.{claimed_code}
use Rattle.lab_certify.proofs.verifying.verify_on.Goals as goal

pub returns-in-Err-clause-refused : goal.returns-in-Err-clause-refused
returns-in-Err-clause-refused c = λ text given. c.in-Err.ensures.refused text c.args.source.now c.args.image.now given

pub returns-in-Ok-clause-verified : goal.returns-in-Ok-clause-verified
returns-in-Ok-clause-verified c = λ text given.
    let claims = claims_of c.args.certificate.now in
    let all = sites_of c.args.layout.now in
    c.compared.ensures.verified text c.args.source.now all claims (record {
      linkable = c.in_default.ensures.linkable text c.args.source.now given;
      code = c.in-Ok.ensures.code ∙ ap (claimed_code c.args.source.now all) c.as_slice.ensures.value;
      user_data = c.in-Ok.ensures.user_data;
    })

pub returns-in-Ok-clause-refused : goal.returns-in-Ok-clause-refused
returns-in-Ok-clause-refused c = λ text given.
    let claims = claims_of c.args.certificate.now in
    let all = sites_of c.args.layout.now in
    c.compared.ensures.refused text c.args.source.now all claims (record {
      linkable = c.in_default.ensures.linkable text c.args.source.now given;
      code = c.in-Ok.ensures.code ∙ ap (claimed_code c.args.source.now all) c.as_slice.ensures.value;
      user_data = c.in-Ok.ensures.user_data;
    })
