use Rattle.std.proofs.Common.{◌+◌, ◌<◌, ◌≤◌, sym, subst, ◌∙◌, slice_index_or, arith}
use Rattle.mx_depend.proofs.Paths.{weight_small}
use Rattle.mx_blocks.specs.Leaders.{size}
use Rattle.mx_validate.specs.Padded.{insts_of}
use Rattle.lab_blocks.proofs.Spans.{IsSpanBelow, greatest_small, with_edge, with_no_edge, whole_span}
use Rattle.lab_blocks.proofs.bound.span_of.Goals as goal
use Rattle.lab_blocks.proofs.bound.span_of.Goals.{then-depends, else-depends}

pub overflow_add-edge_weight : goal.overflow_add-edge_weight
overflow_add-edge_weight c =
    let count = c.len-y-end.ensures.value in
    let test = c.loop-y-test.true in
    let within : c.loop-y.y < size c.args.block.now = omega arith in
    let later = c.requires.known c.loop-y.y (omega arith) within in
    let h = greatest_small c.args.block.now c.loop-y.y (slice_index_or c.args.spans.now c.loop-y.y 0) within later in
    let w = weight_small (insts_of c.args.block.now) c.args.x c.loop-y.y in
    let few = c.requires.few in
    omega arith

pub loop-y-preserved : goal.loop-y-preserved
loop-y-preserved c =
    let block = c.args.block.now in
    let count = c.len-y-end.ensures.value in
    let test = c.loop-y-test.true in
    let within : c.loop-y.y < size block = omega arith in
    let later = c.requires.known c.loop-y.y (omega arith) within in
    elim c.if-depends.branch [
      | then-depends w ↦
          with_edge block c.args.x c.loop-y.y c.loop-y.greatest _ _ _ w.edge_weight.ensures
          (w.greatest-is ∙ w.max-greatest.ensures) c.loop-y.invariant (c.depends.ensures.0 w.if-depends.true) later
      | else-depends w ↦
          subst (IsSpanBelow block c.args.x (c.loop-y.y + 1)) (sym w.greatest-is)
          (with_no_edge block c.args.x c.loop-y.y c.loop-y.greatest c.loop-y.invariant (λ e. absurd (grind (arith, c.depends.ensures.1 e))))
    ]

pub returns : goal.returns
returns c =
    let count = c.len-y-end.ensures.value in
    let test = c.loop-y-test.false in
    let all : size c.args.block.now ≤ c.loop-y.y = omega arith in
    whole_span c.args.block.now c.args.x c.loop-y.y c.loop-y.greatest c.loop-y.invariant all
