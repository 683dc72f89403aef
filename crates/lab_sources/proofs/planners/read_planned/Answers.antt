use Rattle.mx_io.specs.Shelves.{Told, Counts}
use Rattle.lab_sources.proofs.Asked.{by_lines}
use Rattle.lab_sources.proofs.planners.read_planned.Goals as goal

pub returns-clause-by : goal.returns-clause-by
returns-clause-by g c =
    let told : Told = g.S.Shelf.told c.args.shelf.now in
    let before : Counts = g.S.Shelf.counts c.args.shelf.now in
    let after : Counts = g.S.Shelf.counts c.plans_of.new.shelf in
    by_lines told c.args.file.now c.args.program.source before after c.in_ok-lines.lines.items c.in_ok-made.made.by c.in_ok-made.ensures.by
    c.in_ok-lines.ensures.read
