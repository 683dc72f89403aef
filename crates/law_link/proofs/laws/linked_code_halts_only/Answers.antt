use Rattle.law_link.proofs.Shown.{halts_only}
use Rattle.law_link.proofs.laws.linked_code_halts_only.Goals as goal

pub returns : goal.returns
returns c = halts_only
