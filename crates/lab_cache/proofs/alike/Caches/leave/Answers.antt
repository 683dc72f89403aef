use Rattle.lab_cache.proofs.Going.{going_left, going_still}
use Rattle.lab_cache.proofs.alike.Caches.leave.Goals as goal

pub returns-then-groups-ne0 : goal.returns-then-groups-ne0
returns-then-groups-ne0 c = λ gs brings before visit h.
    going_left c.args.self.now gs brings before visit h c.visit_all.new.caches c.if-groups-ne0.true c.visit_all.ensures

pub returns-else-groups-ne0 : goal.returns-else-groups-ne0
returns-else-groups-ne0 c = λ gs brings before visit h.
    going_still c.args.self.now gs brings before visit h c.if-groups-ne0.false
