use Rattle.std.proofs.Common.{refl}
use Rattle.lab_cache.proofs.Going.{going_begins}
use Rattle.lab_cache.proofs.alike.Caches.new.Goals as goal

pub returns : goal.returns
returns c = λ alike.
    going_begins
    (record { line = c.args.line; bits = c.in_ok-bits_of.field-0; caches = c.in_ok-caches_of.field-0; visit = record { line = 0; first = 0; groups = 0 } })
    c.args.geometries.now c.args.brings alike (c.in_ok-bits_of.ensures alike.short alike.brought)
    (c.in_ok-caches_of.ensures c.args.line c.args.brings alike) refl
