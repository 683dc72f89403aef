-- How numbers are spread.
use Rattle.std.specs.Prelude.{◌≡◌, ℕ, ◌-◌, ◌/◌, ◌<◌, ℤ, ◌<ℤ◌, List, [], ◌∷◌, length, replicate, slice_get, Option, Some, None}
use Rattle.std.specs.List.{All, flat_map}
use Rattle.std.specs.List.Sorted.{IsPermutation, IsSorted}
use Rattle.std.specs.Ordering.{int_cmp}
use Rattle.lab_measures.specs.declared.spread.Bin.{Bin}
use Rattle.lab_measures.specs.declared.spread.Spread.{Spread}

-- the numbers that bins tell of, each as often as it stands
abbrev pub told_by : List Bin → List ℤ
told_by = flat_map (λ bin. replicate bin.runs bin.number)

-- the numbers of bins rise
abbrev pub Rises : List Bin → Type 0
Rises [] = Unit {0}
Rises (bin ∷ bins) = All (λ other. bin.number <ℤ other.number) bins × Rises bins

-- bins tell how often each of some numbers in order stands: a bin for each number, the numbers rising
pub record Tells (bins : List Bin) (sorted : List ℤ) : Type 0 where
  pub numbers : told_by bins ≡ sorted
  pub some : All (λ bin. 0 < bin.runs) bins
  pub rising : Rises bins

-- of numbers in order the first, the one in the middle (the lower of two), the last, and how often each stands
pub record IsSpread (numbers : List ℤ) (s : Spread) : Type 0 where
  pub sorted : List ℤ
  pub same : IsPermutation numbers sorted
  pub in_order : IsSorted int_cmp sorted
  pub least : slice_get sorted 0 ≡ Some s.least
  pub median : slice_get sorted ((length sorted - 1) / 2) ≡ Some s.median
  pub greatest : slice_get sorted (length sorted - 1) ≡ Some s.greatest
  pub bins : Tells s.bins.items sorted

-- the spread of some numbers, or none where there is no number
abbrev pub IsSpreadOf : List ℤ → Option Spread → Type 0
IsSpreadOf numbers None = numbers ≡ []
IsSpreadOf numbers (Some s) = IsSpread numbers s
