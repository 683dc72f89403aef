use Rattle.law_link.proofs.Shown.{is_clean}
use Rattle.law_link.proofs.laws.linked_code_is_clean.Goals as goal

pub returns : goal.returns
returns c = is_clean
