use Rattle.std.proofs.Common.{◌≡◌, ◌++◌, drop, map}
use Rattle.lab_blocks.specs.Ran.{runs_by}
use Rattle.lab_blocks.proofs.report.all_facts.Given as goal

-- how often the blocks so far and those that are left ran is how often all did
abbrev pub invariant-loop-block : goal.invariant-loop-block
invariant-loop-block l = map (λ facts. facts.ran) l.all.items ++ runs_by l.counts (drop l.block-index l.blocks) ≡ runs_by l.counts l.blocks
