use Rattle.std.proofs.Common.{◌≡◌, ◌+◌, get_or, slice_get, Some, sym, ◌∙◌, ap}
use Rattle.std.proofs.lemmas.Option.{slice_get-get_or}
use Rattle.lab_cache.specs.declared.set.Held.{Held}
use Rattle.lab_cache.specs.Misses.{misses_in}
use Rattle.lab_cache.proofs.SetSteps.{nothing, set_held, set_absent, touched_misses, allocated_misses, gone_touched, gone_allocated}
use Rattle.lab_cache.proofs.set.Set.fetch.Goals as goal
use Rattle.lab_cache.proofs.set.Set.fetch.Goals.{After-touch}

-- what is in the place that was found
abbrev found : After-touch → Held
found c = get_or c.args.self.now.places.items c.in-Some.place nothing

at : (c : After-touch) → slice_get c.args.self.now.places.items c.in-Some.place ≡ Some (found c)
at c = slice_get-get_or c.args.self.now.places.items c.in-Some.place nothing c.in-Some.ensures.within

pub returns-in-Some-clause-missed : goal.returns-in-Some-clause-missed
returns-in-Some-clause-missed c = λ g past visit is v h.
    touched_misses g c.args.self.now past c.args.line c.in-Some.place c.args.groups visit (found c) is v h (at c) (c.in-Some.ensures.found (found c) (at c))
    (c.touch.ensures.small (found c) (at c)) ∙ ap (λ n. misses_in g past + n) (sym (c.touch.ensures.missed (found c) (at c)))

pub returns-in-Some-clause-gone : goal.returns-in-Some-clause-gone
returns-in-Some-clause-gone c = λ g past is h.
    gone_touched g c.args.self.now past c.args.line c.in-Some.place (found c) h (at c) (c.in-Some.ensures.found (found c) (at c))

pub returns-in-Some-clause-next : goal.returns-in-Some-clause-next
returns-in-Some-clause-next c = λ g past visit is v h.
    set_held g c.args.self.now c.touch.new.self past c.args.line c.in-Some.place c.args.groups visit (found c) is v h (at c)
    (c.in-Some.ensures.found (found c) (at c)) (c.touch.ensures.places (found c) (at c))

pub returns-in-None-clause-missed : goal.returns-in-None-clause-missed
returns-in-None-clause-missed c = λ g past visit is v h.
    allocated_misses g c.args.self.now past c.args.line c.args.groups visit is v c.ranges.groups.fits h c.in-None.ensures.none

pub returns-in-None-clause-gone : goal.returns-in-None-clause-gone
returns-in-None-clause-gone c = λ g past is h.
    gone_allocated g c.args.self.now past c.args.line c.args.groups c.allocate.result is h c.in-None.ensures.none c.allocate.ensures.last

pub returns-in-None-clause-next : goal.returns-in-None-clause-next
returns-in-None-clause-next c = λ g past visit is v h.
    set_absent g c.args.self.now c.allocate.new.self past c.args.line c.args.groups visit is v h c.in-None.ensures.none
    c.allocate.ensures.ways c.allocate.ensures.places
