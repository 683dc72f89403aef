use Rattle.lab_blocks.proofs.Shorter.{no_plan_is_shorter}
use Rattle.lab_blocks.proofs.bound.lower_bound.Goals as goal

pub returns-clause-shortest : goal.returns-clause-shortest
returns-clause-shortest c = λ plan v. no_plan_is_shorter c.args.block.now plan c.greatest_of.result v c.greatest_of.ensures
