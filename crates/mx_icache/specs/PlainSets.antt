-- What the lists of a plain cache stand for.
use Rattle.std.specs.Prelude.{◌≡◌, ℕ, Bool, false, List, take, map, Option, Some, None, option_map, slice_index_or}
use Rattle.std.specs.List.{slice_get}
use Rattle.mx_icache.specs.declared.plain_set.HeldLine.{HeldLine}
use Rattle.mx_icache.specs.declared.plain_set.PlainSet.{PlainSet}
use Rattle.mx_icache.specs.declared.plain_cache.PlainCache.{PlainCache}
use Rattle.mx_icache.specs.Residency.{allocated}
use Rattle.mx_icache.specs.Places.{Apart, ValidWhereResident}

-- the line at a place of the list
abbrev pub line_at : PlainSet → ℕ → Option ℕ
line_at set i = option_map (λ h. h.line) (slice_get set.lines.items i)

-- whether word j of a line is valid
abbrev pub valid_in : Option HeldLine → ℕ → Bool
valid_in None j = false
valid_in (Some h) j = slice_index_or h.valid j false

abbrev pub word_at : PlainSet → ℕ → ℕ → Bool
word_at set i j = valid_in (slice_get set.lines.items i) j

-- a set stands for set number s after these fetches: it lists the last 8 lines, the newest first
pub record PlainSetHolds (set : PlainSet) (past : List ℕ) (s : ℕ) : Type 0 where
  pub lines : map (λ h. h.line) set.lines.items ≡ take 8 (allocated past s)
  pub apart : Apart (line_at set)
  pub words : ValidWhereResident (line_at set) (word_at set) past

-- a cache stands for these fetches, the newest first
abbrev pub PlainHolds : PlainCache → List ℕ → Type 0
PlainHolds cache past = (s : ℕ) (set : PlainSet) → slice_get cache.sets s ≡ Some set → PlainSetHolds set past s
