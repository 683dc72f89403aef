-- Each block begins with a statement, whose number is how often it was executed.
use Rattle.std.proofs.Common.{ℕ, List, length, ap, ◌∙◌}
use Rattle.std.specs.Prelude.{slice_index}
use Rattle.lab_blocks.specs.Ran.{runs_by}
use Rattle.lab_runs.specs.Ran.{executed_in}
use Rattle.lab_runs.proofs.Ran.{runs_same}
use Rattle.lab_runs.proofs.blocks_ran.blocks_by.Goals as goal

pub returns : goal.returns
returns c =
    let run = c.args.run.now in
    let source = run.program.source in
    let told = c.in_ok-blocks.ensures in
    record {
      blocks = told.blocks;
      are = told.are;
      ran = told.ran ∙ ap (λ (counts : List ℕ). runs_by counts told.blocks) c.as_slice.ensures.value
          ∙ runs_same source 0 (length source.statements) told.blocks (slice_index c.in-Ok.counts.items) (executed_in run) told.are c.in-Ok.ensures;
    }
