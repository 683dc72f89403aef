use Rattle.lab_certify.proofs.Unique.{not_rejected}
use Rattle.lab_certify.proofs.laws.verified_is_not_rejected.Goals as goal

pub returns : goal.returns
returns c = not_rejected
