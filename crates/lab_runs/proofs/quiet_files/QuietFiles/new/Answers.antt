use Rattle.std.proofs.Common.{◌∙◌, codes}
use Rattle.lab_runs.proofs.quiet_files.QuietFiles.new.Goals as goal

pub invariant_of-result : goal.invariant_of-result
invariant_of-result c = record {
  never_fails = λ n. c.add-2.ensures.failing n ∙ c.add.ensures.failing n ∙ c.new-files.ensures.failing n;
}

pub returns-clause-interrupts : goal.returns-clause-interrupts
returns-clause-interrupts c = c.in_ok-add-2.ensures.ok (codes "interrupts") ∙ c.in_ok-add.ensures.ok (codes "interrupts")

pub returns-clause-input : goal.returns-clause-input
returns-clause-input c = c.in_ok-add-2.ensures.ok (codes "input")
