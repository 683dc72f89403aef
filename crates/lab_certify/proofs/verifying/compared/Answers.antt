use Rattle.std.proofs.Common.{◌∙◌}
use Rattle.lab_certify.proofs.Verdict.{other_image}
use Rattle.lab_certify.proofs.verifying.compared.Goals as goal

pub returns-in-Ok-clause-verified : goal.returns-in-Ok-clause-verified
returns-in-Ok-clause-verified c = λ text source all claims h. record {
  sites = all;
  linkable = h.linkable;
  code = c.in-Ok.ensures.code ∙ h.code;
  user_data = c.in-Ok.ensures.user_data ∙ h.user_data;
}

pub returns-in-Err-clause-refused : goal.returns-in-Err-clause-refused
returns-in-Err-clause-refused c = λ text source all claims h.
    other_image text source all claims c.args.expected.now c.args.image.now h c.in-Err.rejection c.in-Err.ensures.rejected
