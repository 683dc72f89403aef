-- How often the blocks of a source ran.
use Rattle.std.specs.Prelude.{◌≡◌, ℕ, List, map, vec_len}
use Rattle.mx_blocks.specs.declared.block.Block.{Block}
use Rattle.mx_blocks.specs.Leaders.{AreBlocks}
use Rattle.mx_link.specs.Gathered.{gathered}
use Rattle.mx_turn.specs.Run.{run_of}
use Rattle.lab_blocks.specs.declared.facts.Facts.{Facts}
use Rattle.lab_profile.specs.Charges.{executed_at}
use Rattle.lab_profile.specs.Lines.{saturated}
use Rattle.lab_sources.specs.declared.runs.GivenRun.{GivenRun}
use Rattle.lab_runs.specs.declared.blocks_ran.RanBlocks.{RanBlocks}
use Rattle.lab_sources.specs.Runs.{loaded}

-- the number of words of the code
abbrev pub words_of : GivenRun → ℕ
words_of run = vec_len run.program.linked.image.code

-- how often the words of statement i, its own and its copies, were executed in the run, as far as 64 bits hold it
abbrev pub executed_in : GivenRun → ℕ → ℕ
executed_in run i =
    saturated (gathered (executed_at (loaded run) run.stimulus.requests (words_of run) run.budget) i 0 run.program.linked.origin.items)

-- each block of the source ran as often as its first statement was executed
pub record HaveRun (run : GivenRun) (all : List Facts) : Type 0 where
  pub blocks : List Block
  pub are : AreBlocks run.program.source blocks
  pub ran : map (λ facts. facts.ran) all ≡ map (λ block. executed_in run block.first) blocks

-- so it is told, and whether the run halted
pub record AreOfRun (run : GivenRun) (ran : RanBlocks) : Type 0 where
  pub blocks : HaveRun run ran.blocks.items
  pub halted : ran.halted ≡ (run_of (loaded run) run.stimulus.requests run.budget).halted
