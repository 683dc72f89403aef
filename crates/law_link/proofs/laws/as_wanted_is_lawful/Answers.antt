use Rattle.law_link.proofs.Lawful.{as_wanted_lawful}
use Rattle.law_link.proofs.laws.as_wanted_is_lawful.Goals as goal

pub returns : goal.returns
returns c = as_wanted_lawful
