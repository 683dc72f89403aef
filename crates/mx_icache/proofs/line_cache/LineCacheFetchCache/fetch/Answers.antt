use Rattle.std.proofs.Common.{◌<◌, ◌/◌, ◌%◌, length, get_or, arith}
use Rattle.std.proofs.lemmas.Option.{slice_get-get_or}
use Rattle.mx_icache.specs.LineSets.{SetHolds}
use Rattle.mx_icache.proofs.SetSteps.{set_other}
use Rattle.mx_icache.proofs.CacheSteps.{sets_step}
use Rattle.mx_icache.proofs.line_cache.LineCacheFetchCache.fetch.Goals as goal

pub returns-clause-next : goal.returns-clause-next
returns-clause-next c = λ past h.
    let within : c.args.address / 16 % 4 < length c.args.self.now.sets = grind arith in
    sets_step SetHolds c.args.self.now.sets c.args.address past
    (get_or c.args.self.now.sets (c.args.address / 16 % 4) c.index-self-address.result) c.fetch.new.self
    (λ one s ne h. set_other one c.args.address past s ne h)
    (slice_get-get_or c.args.self.now.sets (c.args.address / 16 % 4) c.index-self-address.result within) (c.fetch.ensures.next past) h
