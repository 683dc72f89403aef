use Rattle.std.proofs.Common.{sym, subst}
use Rattle.lab_measures.specs.Forward.{ComesFor}
use Rattle.lab_measures.proofs.sweep.come_to.Goals.{then-cycle+in_ok-begun, else-cycle}
use Rattle.lab_measures.proofs.sweep.come_to.Goals as goal

pub returns-clause-come : goal.returns-clause-come
returns-clause-come c = λ come. c.in_ok-gone.ensures.come _ (elim c.if-cycle.branch [
  | then-cycle+in_ok-begun w ↦ subst (ComesFor c.args.swept.now) (sym w.begun-is) w.in_ok-begun.ensures.come
  | else-cycle w ↦ subst (ComesFor c.args.swept.now) (sym w.begun-is) come
])
