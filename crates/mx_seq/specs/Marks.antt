-- How a run of the meaning stands, as the code keeps it.
use Rattle.mx_source.specs.Meaning as meant
use Rattle.mx_seq.specs.declared.execution.Mark.{Mark}
use Rattle.mx_seq.specs.declared.execution.Mark.TheVariants.{Going, Halted, Stuck}

-- how the run stands
abbrev pub mark_of : Mark → meant.Mark
mark_of Going = meant.Going
mark_of Halted = meant.Halted
mark_of (Stuck why) = meant.Stuck why
