use Rattle.std.proofs.Common.{ap}
use Rattle.std.proofs.lemmas.Result.{on_ok_weaker}
use Rattle.cc_emit.specs.Routines.{all_needed}
use Rattle.cc_emit.proofs.Adding.{adds_noted}
use Rattle.cc_emit.proofs.routines.put_routines.Goals as goal

pub returns-clause-lines : goal.returns-clause-lines
returns-clause-lines c =
    on_ok_weaker c.put_called.result (λ h. adds_noted c.args.out.now.lines.items c.need_called.new.out.lines.items c.put_called.new.out.lines.items
    (all_needed c.args.out.now.routines.items) c.need_called.new.out.routines.items (ap (λ v. v.items) c.in_ok-need_called.ensures.lines)
    c.in_ok-need_called.ensures.noted h) c.put_called.ensures.lines
