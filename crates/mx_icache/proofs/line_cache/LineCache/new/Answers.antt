use Rattle.std.proofs.Common.{[]}
use Rattle.mx_icache.specs.LineSets.{SetHolds}
use Rattle.mx_icache.proofs.CacheSteps.{each_of_four, set_begins}
use Rattle.mx_icache.proofs.line_cache.LineCache.new.Goals as goal

pub returns : goal.returns
returns c = λ s one at.
    let holds : SetHolds c.empty.result [] s = set_begins c.empty.result s c.empty.ensures.next c.empty.ensures.lines in
    each_of_four (λ set. SetHolds set [] s) _ _ _ _ one s holds holds holds holds at
