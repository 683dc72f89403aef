-- What the arrays, masks and counters of a line cache stand for.
use Rattle.std.specs.Prelude.{◌≡◌, ℕ, ◌+◌, ◌-◌, ◌%◌, ◌<◌, ◌≤◌, Bool, ◌==◌, if◌then◌else◌, List, length, slice_index, Option, Some, None}
use Rattle.std.specs.Int.{bit_at}
use Rattle.std.specs.List.{slice_get}
use Rattle.mx_icache.specs.declared.line_set.Set.{Set}
use Rattle.mx_icache.specs.declared.line_cache.LineCache.{LineCache}
use Rattle.mx_icache.specs.Residency.{allocated}
use Rattle.mx_icache.specs.Places.{Apart, ValidWhereResident}

-- the bit of a mask
unfoldable pub is_set : ℕ → ℕ → Bool
is_set mask j = bit_at mask j == 1

-- the line that a way holds: its tag, where its mask is not 0
abbrev pub line_in : Set → ℕ → Option ℕ
line_in set w = if slice_index set.masks w == 0 then None else Some (slice_index set.tags w)

-- bit j of a way's mask
abbrev pub word_in : Set → ℕ → ℕ → Bool
word_in set w j = is_set (slice_index set.masks w) j

-- lines, the newest first, go round 8 ways: the k-th, counted from the oldest, goes to way k % 8, and the last 8 are there
pub record GoesRound (next : ℕ) (line : ℕ → Option ℕ) (lines : List ℕ) : Type 0 where
  pub next_way : next ≡ length lines % 8
  pub held : (k : ℕ) → k < length lines → length lines ≤ k + 8 → line (k % 8) ≡ Some (slice_index lines (length lines - 1 - k))
  pub empty : (w : ℕ) → length lines ≤ w → w < 8 → line w ≡ None

-- a set stands for set number s after these fetches
pub record SetHolds (set : Set) (past : List ℕ) (s : ℕ) : Type 0 where
  pub ring : GoesRound set.next (line_in set) (allocated past s)
  pub apart : Apart (line_in set)
  pub words : ValidWhereResident (line_in set) (word_in set) past

-- a cache stands for these fetches, the newest first
abbrev pub CacheHolds : LineCache → List ℕ → Type 0
CacheHolds cache past = (s : ℕ) (set : Set) → slice_get cache.sets s ≡ Some set → SetHolds set past s
