use Rattle.std.proofs.Common.{◌≡◌, ◌∷◌, sym, ap, ◌∙◌, subst}
use Rattle.mx_delay.specs.Delay.{next_of}
use Rattle.mx_icache.specs.Residency.{resident}
use Rattle.mx_pcchain.specs.Fetch.{Fetch}
use Rattle.mx_lane.specs.Lanes.{lead_of}
use Rattle.mx_lane.proofs.queue.Queue.is_near.Goals as goal
use Rattle.mx_lane.proofs.queue.Queue.is_near.Given as given
use Rattle.mx_lane.proofs.queue.Queue.is_near.Goals.{After-has}

-- where the word leads is what the window is asked for
asked : (g : given.Over) (c : After-has g)
    → next_of (lead_of c.args.inst.now c.args.self.now c.args.lane.now).target c.args.self.now.next.address ≡ c.address.result
asked g c =
    sym (ap (λ t. next_of t c.args.self.now.next.address) c.in-Some.ensures.target)
    ∙ sym (ap (λ (f : Fetch). f.address) c.led_to-coming.ensures)
    ∙ sym c.address.ensures.value

pub returns-clause-resident : goal.returns-clause-resident
returns-clause-resident g c = λ e past h. ap (resident past) (asked g c) ∙ c.has.ensures.resident e past h

pub returns-clause-keeps : goal.returns-clause-keeps
returns-clause-keeps g c = λ e past h.
    subst (λ a. g.C.FetchCache.holds c.args.cache.now (a ∷ past)) (sym (asked g c)) (c.has.ensures.keeps e past h)
