-- The rows of a drawing.
use Rattle.std.specs.Prelude.{◌≡◌, ℕ, zero, suc, ◌+◌, ◌-◌, ◌<◌, leb, All, List, [], ◌∷◌, map, length, take, drop, position, Option, Some, None, fold}
use Rattle.mx_turn.specs.declared.latches.Stage.{Stage}
use Rattle.mx_turn.specs.declared.latches.Stage.TheVariants.{Empty, Live, Squashed}
use Rattle.lab_draw.specs.declared.frame.Frame.{Frame}
use Rattle.lab_draw.specs.declared.rows.Row.{Row}
use Rattle.lab_draw.specs.Stages.{stage_in, cell_in}

abbrev pub address_of : Stage → Option ℕ
address_of Empty = None
address_of (Live a) = Some a
address_of (Squashed a) = Some a

abbrev pub earlier : Option ℕ → Option ℕ → Option ℕ
earlier None later = later
earlier (Some a) later = Some a

-- the address of a fetch in the first frame of which a stage holds it
abbrev pub first_address : ℕ → List Frame → Option ℕ
first_address fetch frames = fold (λ known f. earlier known (address_of (stage_in f fetch))) None frames

-- how many frames a row has at most: five turns, of three cycles each at most
abbrev pub span : ℕ
span = 15

-- the place of the first frame that has come to the turn of a fetch
abbrev pub first_come : ℕ → List Frame → Option ℕ
first_come fetch frames = position (λ (f : Frame). leb fetch f.turn) frames

-- the row of a fetch: it begins at the first frame that has come to its turn, and has its cells in so many frames from there on
pub record IsRow (frames : List Frame) (row : Row) : Type 0 where
  pub cells : row.cells.items ≡ map (λ f. cell_in f row.fetch) (take span (drop row.begins frames))
  pub address : row.address ≡ first_address row.fetch (take span (drop row.begins frames))
  pub begins : first_come row.fetch frames ≡ Some row.begins

-- so many numbers, from one on
abbrev pub numbers_from : ℕ → ℕ → List ℕ
numbers_from n zero = []
numbers_from n (suc count) = n ∷ numbers_from (suc n) count

-- the oldest fetch that may be in a stage in the first frame
abbrev pub first_fetch : List Frame → ℕ
first_fetch [] = 0
first_fetch (f ∷ fs) = f.turn - 4

-- one row for each fetch from the first to the last to whose turn the frames have come, in the order of fetches
pub record AreRows (frames : List Frame) (first : ℕ) (rows : List Row) : Type 0 where
  pub numbers : map (λ (row : Row). row.fetch) rows ≡ numbers_from first (length rows)
  pub each : All (IsRow frames) rows
  pub all : All (λ (f : Frame). f.turn < first + length rows) frames
