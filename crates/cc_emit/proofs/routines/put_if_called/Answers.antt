use Rattle.std.proofs.Common.{sym, ◌∙◌}
use Rattle.std.proofs.lemmas.Result.{on_ok_weaker}
use Rattle.cc_emit.proofs.Adding.{adds_called, adds_uncalled}
use Rattle.cc_emit.proofs.routines.put_if_called.Goals as goal

pub returns-then-not-needs-clause-lines : goal.returns-then-not-needs-clause-lines
returns-then-not-needs-clause-lines c =
    adds_uncalled c.args.out.now.lines.items c.args.out.now.routines.items c.args.which (sym c.needs.ensures ∙ c.if-not-needs.true)

pub returns-clause-lines : goal.returns-clause-lines
returns-clause-lines c =
    on_ok_weaker c.put_routine.result (λ h. adds_called c.args.out.now.lines.items c.put_routine.new.out.lines.items c.args.out.now.routines.items
    c.args.which (sym c.needs.ensures ∙ c.if-not-needs.false) h) c.put_routine.ensures.lines
