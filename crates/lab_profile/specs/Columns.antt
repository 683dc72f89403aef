-- What rows are put in order by.
use Rattle.std.specs.Prelude.{ℕ, ◌*◌, ◌/◌, ◌==◌, if◌then◌else◌}
use Rattle.lab_profile.specs.declared.lines.LineCost.{LineCost}
use Rattle.lab_profile.specs.Lines.{saturated, caused_in}
use Rattle.lab_profile.specs.declared.columns.Column.{Column}
use Rattle.lab_profile.specs.declared.columns.Column.TheVariants.{Line, Count, Cycles, Caused, Cpi, Stalls, Noops, Squashed, Killed}

-- the number of a cost in a column: that of the cycles that it causes for each statement in thousandths; in the order of the source all are the same
abbrev pub number_in : Column → LineCost → ℕ
number_in Line c = 0
number_in Count c = c.executed
number_in Cycles c = c.cycles
number_in Caused c = caused_in c
number_in Cpi c = if c.executed == 0 then 0 else saturated (caused_in c * 1000) / c.executed
number_in Stalls c = c.stalls
number_in Noops c = c.noops
number_in Squashed c = c.cancelled
number_in Killed c = c.killed
