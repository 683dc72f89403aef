use Rattle.law_certify.proofs.Verified.{verified_means}
use Rattle.law_certify.proofs.laws.verified_image_means_its_source.Goals as goal

pub returns : goal.returns
returns c = verified_means
