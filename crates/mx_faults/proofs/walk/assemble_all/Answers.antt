use Rattle.std.proofs.Common.{ap, sym, ◌∙◌, arith}
use Rattle.mx_faults.specs.Found.{first, faults_in}
use Rattle.mx_faults.proofs.Texts.{first_is, first_take}
use Rattle.mx_faults.proofs.walk.assemble_all.Goals as goal

pub returns-in-Ok-clause-first : goal.returns-in-Ok-clause-first
returns-in-Ok-clause-first c = λ more.
    ap first c.in-Ok.ensures.found
    ∙ first_take c.args.at_most (faults_in c.args.data_start c.args.end c.args.text.now) more
    ∙ sym (first_is c.args.data_start c.args.end c.args.text.now (omega arith) (omega arith))
