use Rattle.std.proofs.Common.{◌≡◌, true, subst}
use Rattle.mx_icache.specs.LineSets.{is_set}
use Rattle.lab_cache.proofs.Known.{idle_visits}
use Rattle.lab_cache.proofs.Ones.{none_new}
use Rattle.lab_cache.proofs.quick.QuickCache.visit.Goals as goal

pub returns-else-groups-known-ne0 : goal.returns-else-groups-known-ne0
returns-else-groups-known-ne0 c =
    idle_visits c.args.self.now c.args.line c.args.groups
    (λ j e. subst (λ n. is_set n j ≡ true) c.known.ensures
    (none_new c.args.groups c.known.result c.ranges.groups.fits c.known.type_inv c.if-groups-known-ne0.false j e))
