use Rattle.law_profile.proofs.Meant.{counts_as_meant}
use Rattle.law_profile.proofs.laws.profile_is_meant.Goals as goal

pub returns : goal.returns
returns c = counts_as_meant
