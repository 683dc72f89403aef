use Rattle.law_emit.proofs.Labels.{labels_found}
use Rattle.law_emit.proofs.laws.labels_are_found.Goals as goal

pub returns : goal.returns
returns c = labels_found
