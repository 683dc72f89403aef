use Rattle.std.proofs.Common.{◌<◌, ◌/◌, ◌%◌, length, get_or, arith}
use Rattle.std.proofs.lemmas.Option.{slice_get-get_or}
use Rattle.mx_icache.proofs.Resident.{cache_keeps}
use Rattle.mx_icache.proofs.line_cache.LineCacheFetchCache.reach.Goals as goal

pub returns-clause-within : goal.returns-clause-within
returns-clause-within c =
    let line = c.reach.ensures.within in
    let small = c.requires in
    omega (arith, line, small)

pub returns-clause-resident : goal.returns-clause-resident
returns-clause-resident c = λ past h.
    let within : c.args.address / 16 % 4 < length c.args.self.now.sets = grind arith in
    c.reach.ensures.resident past (h (c.args.address / 16 % 4) (get_or c.args.self.now.sets (c.args.address / 16 % 4) c.index-self-address.result)
    (slice_get-get_or c.args.self.now.sets (c.args.address / 16 % 4) c.index-self-address.result within))

pub returns-clause-keeps : goal.returns-clause-keeps
returns-clause-keeps c = λ past a h here. cache_keeps c.args.self.now past a h here
