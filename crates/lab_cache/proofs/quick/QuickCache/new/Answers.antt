use Rattle.std.proofs.Common.{subst, sym}
use Rattle.lab_cache.specs.Misses.{IsCache}
use Rattle.lab_cache.proofs.Known.{quick_begins}
use Rattle.lab_cache.proofs.quick.QuickCache.new.Goals as goal

pub returns-clause-begins : goal.returns-clause-begins
returns-clause-begins c = λ is.
    quick_begins (record { cache = c.in_ok-new.field-0; known = c.in_ok-rows.field-0 }) (subst IsCache (sym c.in_ok-new.ensures.geometry) is)
    c.in_ok-new.ensures.begins c.in_ok-rows.ensures
