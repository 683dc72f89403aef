use Rattle.law_link.proofs.Lawful.{as_chosen_lawful}
use Rattle.law_link.proofs.laws.as_chosen_is_lawful.Goals as goal

pub returns : goal.returns
returns c = as_chosen_lawful
