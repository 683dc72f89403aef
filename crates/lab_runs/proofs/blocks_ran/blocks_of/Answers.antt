use Rattle.lab_runs.proofs.blocks_ran.blocks_of.Goals as goal

pub returns : goal.returns
returns g c = record { blocks = c.in_ok-blocks.ensures; halted = c.in_ok-profile.ensures.halted }
