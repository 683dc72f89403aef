-- The calls of a run that have not returned, the outermost first.
use Rattle.std.specs.Prelude.{◌≡◌, ℕ, ◌+◌, ◌-◌, ◌^◌, ◌<◌, ◌≤◌, min, Bool, true, false, List, length, Option, Some, None, ◌==◌}
use Rattle.std.specs.List.{slice_get}
use Rattle.lab_profile.specs.declared.calling.Frame.{Frame}
use Rattle.lab_profile.specs.declared.calling.Progress.{Progress}

-- a call returns to the word after its two slots
abbrev pub returns_there : ℕ → Frame → Bool
returns_there address frame = min (frame.site + 3) (2 ^ 32 - 1) == address

-- none of them from an index on returns to an address
abbrev pub NoneReturns : ℕ → List Frame → ℕ → Type 0
NoneReturns address frames from = (k : ℕ) (frame : Frame) → from ≤ k → slice_get frames k ≡ Some frame → returns_there address frame ≡ false

-- the innermost of them that returns to an address
pub record IsInnermost (address : ℕ) (frames : List Frame) (at : ℕ) : Type 0 where
  pub within : at < length frames
  pub frame : Frame
  pub is : slice_get frames at ≡ Some frame
  pub returns : returns_there address frame ≡ true
  pub last : NoneReturns address frames (at + 1)

abbrev pub IsInnermostOf : ℕ → List Frame → Option ℕ → Type 0
IsInnermostOf address frames (Some at) = IsInnermost address frames at
IsInnermostOf address frames None = NoneReturns address frames 0

-- those of a run so far
abbrev pub open_in : Progress → List Frame
open_in progress = progress.frames.items
