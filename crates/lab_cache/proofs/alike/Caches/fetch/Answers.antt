use Rattle.std.proofs.Common.{◌∷◌, ◌++◌, [], ap}
use Rattle.lab_cache.proofs.Going.{going_on}
use Rattle.lab_cache.proofs.alike.Caches.fetch.Goals as goal

pub returns-in-Some : goal.returns-in-Some
returns-in-Some c = λ gs past h. record {
  brings = h.brings;
  before = h.before;
  visit = c.args.address ∷ h.visit;
  all = ap (λ p. c.args.address ∷ p) h.all;
  going = going_on c.args.self.now gs h.brings h.before h.visit h.going c.args.address c.in-Some.bit c.in-Some.ensures.within c.in-Some.ensures.bit;
}

pub returns-in-None : goal.returns-in-None
returns-in-None c = λ gs past h. record {
  brings = h.brings;
  before = h.visit ++ h.before;
  visit = c.args.address ∷ [];
  all = ap (λ p. c.args.address ∷ p) h.all;
  going = c.enter.ensures gs h.brings (h.visit ++ h.before) (c.leave.ensures gs h.brings h.before h.visit h.going);
}
