use Rattle.std.proofs.Common.{refl, ap, ◌∙◌}
use Rattle.cc_emit.proofs.Adding.{adds_none, adds_more, adds_all}
use Rattle.cc_emit.proofs.routines.put_called.Goals as goal

pub loop-which-init : goal.loop-which-init
loop-which-init c = record { lines = adds_none c.args.out.now.lines.items c.args.out.now.routines.items; routines = refl }

pub loop-which-preserved : goal.loop-which-preserved
loop-which-preserved c = record {
  lines = adds_more c.args.out.now.lines.items c.loop-which.out.lines.items c.put_if_called.new.out.lines.items c.args.out.now.routines.items
      c.loop-which.out.routines.items c.args.routines.now c.loop-which.which-index _ (ap (λ v. v.items) c.loop-which.invariant.routines)
      c.loop-which-test.true c.loop-which.invariant.lines c.in_ok-put_if_called.ensures.lines;
  routines = c.in_ok-put_if_called.ensures.routines ∙ c.loop-which.invariant.routines;
}

pub returns-clause-lines : goal.returns-clause-lines
returns-clause-lines c =
    adds_all c.args.out.now.lines.items c.loop-which.out.lines.items c.args.out.now.routines.items c.args.routines.now c.loop-which.which-index
    c.loop-which-test.false c.loop-which.invariant.lines
