-- Rows while the frames are passed, one after the other.
use Rattle.std.specs.Prelude.{◌≡◌, ℕ, ◌+◌, ◌<◌, All, List, map, length, slice_get, Some}
use Rattle.lab_draw.specs.declared.frame.Frame.{Frame}
use Rattle.lab_draw.specs.declared.rows.Row.{Row}
use Rattle.lab_draw.specs.Rows.{IsRow, numbers_from}

-- one row for each fetch from the first to the last to whose turn so many frames have come
pub record HaveCome (frames : List Frame) (first passed : ℕ) (rows : List Row) : Type 0 where
  pub numbers : map (λ (row : Row). row.fetch) rows ≡ numbers_from first (length rows)
  pub each : All (IsRow frames) rows
  pub all : (k : ℕ) (f : Frame) → k < passed → slice_get frames k ≡ Some f → f.turn < first + length rows
