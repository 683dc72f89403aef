use Rattle.mx_icache.specs.Residency.{resident}
use Rattle.mx_pipe.proofs.Lanes.{first_within}
use Rattle.mx_pipe.proofs.pipe.Pipe.may_run.Goals as goal

pub returns-in-NotAsked-clause-resident : goal.returns-in-NotAsked-clause-resident
returns-in-NotAsked-clause-resident g c = λ e past h.
    first_within past c.address.result c.args.self.now.next.address c.reach.result e c.address.ensures.value (c.reach.ensures.resident past h)

pub returns-in-NotAsked-clause-cache : goal.returns-in-NotAsked-clause-cache
returns-in-NotAsked-clause-cache g c = λ e past h.
    c.reach.ensures.keeps past c.args.self.now.next.address h
    (first_within past c.address.result c.args.self.now.next.address c.reach.result e c.address.ensures.value (c.reach.ensures.resident past h))
