use Rattle.std.proofs.Common.{subst, sym}
use Rattle.lab_cache.specs.Alike.{AreHeld}
use Rattle.lab_cache.proofs.alike.Caches.end.Goals as goal

pub returns : goal.returns
returns c = λ gs past h.
    subst (λ p. AreHeld gs c.leave.new.self.caches.items p) (sym h.all) ((c.leave.ensures gs h.brings h.before h.visit h.going).caches)
