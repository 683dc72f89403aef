use Rattle.std.proofs.Common.{◌+◌, sym, subst, ◌∙◌, slice_index_or, arith}
use Rattle.mx_depend.proofs.Paths.{IsHeightBelow, weight_small, height_small, with_edge, with_no_edge, whole_height}
use Rattle.mx_depend.proofs.graph.height_of.Goals as goal
use Rattle.mx_depend.proofs.graph.height_of.Goals.{then-depends, else-depends}

pub overflow_add-edge_weight : goal.overflow_add-edge_weight
overflow_add-edge_weight c =
    let later = c.requires.known c.loop-y.y (omega arith) c.loop-y-test.true in
    let h = height_small c.args.insts.now c.args.input c.loop-y.y (slice_index_or c.args.heights.now c.loop-y.y 0) c.loop-y-test.true later in
    let w = weight_small c.args.insts.now c.args.x c.loop-y.y in
    let few = c.requires.few in
    omega arith

pub loop-y-preserved : goal.loop-y-preserved
loop-y-preserved c =
    let insts = c.args.insts.now in
    let later = c.requires.known c.loop-y.y (omega arith) c.loop-y-test.true in
    elim c.if-depends.branch [
      | then-depends w ↦
          with_edge insts c.args.input c.args.x c.loop-y.y c.loop-y.greatest _ _ _ w.edge_weight.ensures
          (w.greatest-is ∙ w.max-greatest.ensures) c.loop-y.invariant (c.depends.ensures.0 w.if-depends.true) later
      | else-depends w ↦
          subst (IsHeightBelow insts c.args.input c.args.x (c.loop-y.y + 1)) (sym w.greatest-is)
          (with_no_edge insts c.args.input c.args.x c.loop-y.y c.loop-y.greatest c.loop-y.invariant (λ e. absurd (grind (arith, c.depends.ensures.1 e))))
    ]

pub returns : goal.returns
returns c = whole_height c.args.insts.now c.args.input c.args.x c.loop-y.y c.loop-y.greatest c.loop-y.invariant c.loop-y-test.false
