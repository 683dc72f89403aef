use Rattle.std.proofs.Common.{[]}
use Rattle.mx_icache.specs.PlainSets.{PlainSetHolds}
use Rattle.mx_icache.proofs.PlainSteps.{plain_begins}
use Rattle.mx_icache.proofs.CacheSteps.{each_of_four}
use Rattle.mx_icache.proofs.plain_cache.PlainCache.new.Goals as goal

pub returns : goal.returns
returns c = λ s one at.
    each_of_four (λ set. PlainSetHolds set [] s) _ _ _ _ one s
    (plain_begins c.new.result s c.new.ensures) (plain_begins c.new-2.result s c.new-2.ensures) (plain_begins c.new-3.result s c.new-3.ensures)
    (plain_begins c.new-4.result s c.new-4.ensures) at
