use Rattle.std.proofs.Common.{sym, ◌∙◌, arith}
use Rattle.std.proofs.lemmas.Bool.{false≢true}
use Rattle.mx_validate.proofs.Listed.{times_op, times_other}
use Rattle.mx_validate.proofs.rules.times_standing.Goals as goal
use Rattle.mx_validate.proofs.rules.times_standing.Goals.{then-is_op, else-is_op}

pub loop-item-preserved : goal.loop-item-preserved
loop-item-preserved c =
    let items = c.args.items.now in
    elim c.if-is_op.branch [
      | then-is_op w ↦
          let step = times_op c.args.k items c.loop-item.item-index _ c.loop-item-test.true (c.is_op.ensures.0 w.if-is_op.true) in
          (omega arith, omega (arith, step))
      | else-is_op w ↦
          let step = times_other c.args.k items c.loop-item.item-index _ c.loop-item-test.true (λ e. false≢true (sym w.if-is_op.false ∙ c.is_op.ensures.1 e)) in
          (omega arith, omega (arith, step))
    ]
