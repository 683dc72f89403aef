use Rattle.lab_runs.proofs.blocks_ran.ran_blocks.Goals as goal

pub returns : goal.returns
returns g c = (c.in_ok-run.run', c.in_ok-run.ensures.run, c.in_ok-ran.ensures)
