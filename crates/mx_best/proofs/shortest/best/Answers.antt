use Rattle.std.proofs.Common.{arith}
use Rattle.mx_best.proofs.Visited.{few_no_ops}
use Rattle.mx_best.proofs.shortest.best.Goals as goal

pub loop-place-init : goal.loop-place-init
loop-place-init c = λ other l v.
    let few = few_no_ops c.args.block.now other v in
    let tail = v.tail in
    let greedy = c.propose-greedy.ensures.valid.tail in
    omega arith
