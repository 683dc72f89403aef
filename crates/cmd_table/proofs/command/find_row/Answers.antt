use Rattle.std.proofs.Common.{sym, ◌∙◌}
use Rattle.cmd_table.proofs.Table.{here, beyond, nowhere}
use Rattle.cmd_table.proofs.command.find_row.Goals as goal

pub returns-then-eq : goal.returns-then-eq
returns-then-eq c =
    sym (c.loop-row.invariant ∙ here c.args.first.now c.args.rows.now c.loop-row.row-index _ c.loop-row-test.true (sym c.eq.ensures ∙ c.if-eq.true))

pub loop-row-preserved : goal.loop-row-preserved
loop-row-preserved c =
    c.loop-row.invariant ∙ beyond c.args.first.now c.args.rows.now c.loop-row.row-index _ c.loop-row-test.true (sym c.eq.ensures ∙ c.if-eq.false)

pub returns : goal.returns
returns c = sym (c.loop-row.invariant ∙ nowhere c.args.first.now c.args.rows.now c.loop-row.row-index c.loop-row-test.false)
