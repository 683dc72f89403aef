use Rattle.law_tasks.proofs.Texts.{texts_mean}
use Rattle.law_tasks.proofs.laws.shared_texts_mean.Goals as goal

pub returns : goal.returns
returns c = texts_mean
