use Rattle.std.proofs.Common.{List, All, sym, subst}
use Rattle.std.proofs.lemmas.List.Elements.{All-push}
use Rattle.lab_measures.specs.declared.row.Row.{Row}
use Rattle.lab_measures.specs.Sweeps.{IsRowOf}
use Rattle.lab_measures.proofs.sweep.add_pair.Goals as goal

pub returns-clause-rows : goal.returns-clause-rows
returns-clause-rows g c = λ come all.
    let swept = c.args.swept.now in
    subst (λ (rows : List Row). All (IsRowOf swept) rows) (sym c.in_ok-push_row.ensures)
    (All-push (IsRowOf swept) c.args.rows.now.items c.in_ok-row.row all (c.in_ok-row.ensures.row come))
