use Rattle.mx_icache.proofs.Resident.{plain_keeps}
use Rattle.mx_icache.proofs.plain_cache.PlainCacheFetchCache.reach.Goals as goal

pub returns-clause-keeps : goal.returns-clause-keeps
returns-clause-keeps c = λ past a h here. plain_keeps c.args.self.now past a h here
