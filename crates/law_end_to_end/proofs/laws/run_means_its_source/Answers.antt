use Rattle.law_end_to_end.proofs.Composed.{run_means}
use Rattle.law_end_to_end.proofs.Accepted.{text_means}
use Rattle.law_end_to_end.proofs.laws.run_means_its_source.Goals as goal

pub returns-clause-linked : goal.returns-clause-linked
returns-clause-linked c = run_means

pub returns-clause-text : goal.returns-clause-text
returns-clause-text c = text_means
