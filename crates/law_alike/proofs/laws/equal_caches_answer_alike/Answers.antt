use Rattle.law_alike.proofs.Ways.{cache_alike}
use Rattle.law_alike.proofs.laws.equal_caches_answer_alike.Goals as goal

pub returns : goal.returns
returns c = cache_alike
