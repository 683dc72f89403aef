-- What a frame shows of a fetch.
use Rattle.std.specs.Prelude.{ℕ, ◌-◌, cond, eqb, nat_lt, ◌&&◌, ◌||◌}
use Rattle.mx_turn.specs.declared.latches.Stage.{Stage}
use Rattle.mx_turn.specs.declared.latches.Stage.TheVariants.{Empty}
use Rattle.mx_turn.specs.declared.latches.Latches.{Latches}
use Rattle.lab_draw.specs.declared.cell.Cell.{Cell}
use Rattle.lab_draw.specs.declared.cell.Cell.TheVariants.{Waits}
use Rattle.lab_draw.specs.declared.frame.Frame.{Frame}
use Rattle.lab_draw.specs.Cells.{cell_of}

-- a stage by its number
abbrev pub by_number : ℕ → Latches → Stage
by_number n l = cond (eqb n 0) l.fetch (cond (eqb n 1) l.rf (cond (eqb n 2) l.alu (cond (eqb n 3) l.mem (cond (eqb n 4) l.wb Empty))))

abbrev pub stage_in : Frame → ℕ → Stage
stage_in f row = cond (f.cycled.stalled || nat_lt f.turn row) Empty (by_number (f.turn - row) f.shown)

abbrev pub cell_in : Frame → ℕ → Cell
cell_in f row = cond (f.cycled.stalled && eqb row f.turn) Waits (cell_of f.cycled.taken (f.turn - row) (stage_in f row))
