use Rattle.cc_plan.specs.declared.knowledge.Known.TheVariants.{Nothing}
use Rattle.cc_plan.proofs.Learning.{each_is}
use Rattle.cc_plan.proofs.knowledge.Knowledge.new.Goals as goal

pub returns-clause-known : goal.returns-clause-known
returns-clause-known c n one at = each_is 32 n Nothing one at
