use Rattle.std.proofs.Common.{◌<◌, ◌/◌, ◌%◌, length, get_or, arith}
use Rattle.std.proofs.lemmas.Option.{slice_get-get_or}
use Rattle.mx_icache.specs.PlainSets.{PlainSetHolds}
use Rattle.mx_icache.proofs.PlainSteps.{plain_other}
use Rattle.mx_icache.proofs.CacheSteps.{sets_step}
use Rattle.mx_icache.proofs.plain_cache.PlainCacheFetchCache.fetch.Goals as goal

pub returns-clause-next : goal.returns-clause-next
returns-clause-next c = λ past h.
    let within : c.args.address / 16 % 4 < length c.args.self.now.sets = grind arith in
    sets_step PlainSetHolds c.args.self.now.sets c.args.address past
    (get_or c.args.self.now.sets (c.args.address / 16 % 4) c.index-self-address.result) c.fetch.new.self
    (λ one s ne h. plain_other one c.args.address past s ne h)
    (slice_get-get_or c.args.self.now.sets (c.args.address / 16 % 4) c.index-self-address.result within) (c.fetch.ensures.next past) h
