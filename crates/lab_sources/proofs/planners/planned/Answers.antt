use Rattle.std.proofs.Common.{◌≡◌, IfOk, refl, sym, subst}
use Rattle.mx_io.specs.Shelves.{Told, Counts}
use Rattle.lab_options.specs.declared.options.PlansOf.{PlansOf}
use Rattle.lab_sources.specs.declared.planners.Planner.TheVariants.{Scheduler}
use Rattle.lab_sources.specs.Planners.{IsAskedFor}
use Rattle.lab_sources.proofs.Asked.{weaker}
use Rattle.lab_sources.proofs.planners.planned.Goals as goal

pub returns-in-File-clause-by : goal.returns-in-File-clause-by
returns-in-File-clause-by g c =
    let told : Told = g.S.Shelf.told c.args.shelf.now in
    let before : Counts = g.S.Shelf.counts c.args.shelf.now in
    let after : Counts = g.S.Shelf.counts c.read_planned.new.shelf in
    subst (λ (p : PlansOf). IfOk c.read_planned.result (λ made. IsAskedFor told p c.args.program.source before after made.by))
    (sym c.in-File.is) c.read_planned.ensures.by

pub returns-in-Scheduler-clause-by : goal.returns-in-Scheduler-clause-by
returns-in-Scheduler-clause-by g c =
    let told : Told = g.S.Shelf.told c.args.shelf.now in
    let before : Counts = g.S.Shelf.counts c.args.shelf.now in
    let source = c.args.program.source in
    let chosen = Scheduler c.in-Scheduler.scheduler in
    subst (λ (p : PlansOf). IfOk c.scheduled.result (λ made. IsAskedFor told p source before before made.by)) (sym c.in-Scheduler.is)
    (weaker c.scheduled.result (λ made. made.by ≡ chosen) (λ made. (made.by ≡ chosen) × (before ≡ before))
    (λ made same. (same, refl)) c.scheduled.ensures.by)
