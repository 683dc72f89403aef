use Rattle.std.proofs.Common.{◌≡◌, List, All, None, sym, subst}
use Rattle.std.proofs.lemmas.List.Elements.{All-push}
use Rattle.lab_measures.specs.declared.row.Row.{Row}
use Rattle.lab_measures.specs.Sweeps.{IsRowOf}
use Rattle.lab_measures.proofs.Paired.{firsts_more}
use Rattle.lab_measures.proofs.sweep.singles.Goals as goal

pub loop-first-preserved : goal.loop-first-preserved
loop-first-preserved g c =
    let swept = c.args.swept.now in
    let old = c.loop-first.rows.items in
    let row = c.in_ok-row.row in
    let inv = c.loop-first.invariant in
    let come = c.in_ok-forward-2.ensures.come inv.come in
    let told = c.in_ok-row.ensures in
    let more = c.in_ok-push_row.ensures in
    record {
      come = come;
      rows = subst (λ (rows : List Row). All (IsRowOf swept) rows) (sym more) (All-push (IsRowOf swept) old row inv.rows (told.row come));
      firsts = firsts_more old c.push_row.new.rows.items row swept.cycles.now c.loop-first.first-index _ c.loop-first-test.true more told.first inv.firsts;
      alone = subst (λ (rows : List Row). All (λ (r : Row). r.second ≡ None) rows) (sym more)
          (All-push (λ (r : Row). r.second ≡ None) old row inv.alone told.second);
    }
