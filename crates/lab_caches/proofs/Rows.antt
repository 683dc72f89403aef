-- Rows without saturation.
use Rattle.std.proofs.Common.{◌≡◌, ◌≤◌, ◌<◌, ◌+◌, ◌*◌, ◌-◌, ◌^◌, ℕ, zero, suc, List, [], ◌∷◌, ◌++◌, length, map, take, slice_get, slice_index_or, Some, refl, sym, ap, ◌∙◌, arith}
use Rattle.std.specs.Prelude.{min}
use Rattle.std.proofs.lemmas.Nat.{mul-le}
use Rattle.lab_terms.specs.declared.geometry.Geometry.{Geometry}
use Rattle.lab_terms.specs.Geometries.{saturated, cycles_with}
use Rattle.lab_cache.specs.declared.all.Counted.{Counted}
use Rattle.lab_cache.specs.Misses.{misses_in}
use Rattle.lab_cache.specs.All.{counted}
use Rattle.lab_caches.specs.declared.study.CacheRow.{CacheRow}
use Rattle.lab_caches.specs.Rows.{row_over, row_for}
use Rattle.lab_caches.proofs.Counts.{misses_few}

pub at_index : {X : Type 0} (xs : List X) (i : ℕ) (x d : X) → slice_get xs i ≡ Some x → slice_index_or xs i d ≡ x
at_index [] i x d e = absurd (cc)
at_index (y ∷ xs) zero x d e = cc
at_index (y ∷ xs) (suc i) x d e = at_index xs i x d e

-- the elements in front, with one more
pub map_more : {X Y : Type 0} (f : X → Y) (xs : List X) (i : ℕ) (d : X) → i < length xs
    → map f (take i xs) ++ f (slice_index_or xs i d) ∷ [] ≡ map f (take (i + 1) xs)
map_more f xs i d below = let next : suc i ≡ i + 1 = omega arith in more xs i below ∙ ap (λ n. map f (take n xs)) next
  where
    more : (ys : List _) (k : ℕ) → k < length ys → map f (take k ys) ++ f (slice_index_or ys k d) ∷ [] ≡ map f (take (suc k) ys)
    more [] k h = absurd (omega (arith, h))
    more (y ∷ ys) zero h = refl
    more (y ∷ ys) (suc k) h = ap (λ zs. f y ∷ zs) (more ys k (omega (arith, h)))

-- a number of 32 bits times another one, and a third added, has 64 bits
small_sum : (n m q : ℕ) → n < 2 ^ 32 → m ≤ n → q < 2 ^ 32 → saturated (n + saturated (m * q)) ≡ n + m * q
small_sum n m q a b c =
    let most : m * q ≤ (2 ^ 32 - 1) * (2 ^ 32 - 1) = mul-le m q (2 ^ 32 - 1) (2 ^ 32 - 1) (omega (arith, a, b)) (omega (arith, c)) in
    sum_of (m * q) most
  where
    sum_of : (z : ℕ) → z ≤ (2 ^ 32 - 1) * (2 ^ 32 - 1) → saturated (n + saturated z) ≡ n + z
    sum_of z h = omega (arith, a, h)

module _ (past : List ℕ) (few : length past < 2 ^ 32) where
  row_is : (g : Geometry) → g.penalty < 2 ^ 32 → row_for (length past) (counted past g) ≡ row_over past g
  row_is g small =
      let less = misses_few g past in
      let same : saturated (misses_in g past) ≡ misses_in g past = omega (arith, few, less) in
      let sum = small_sum (length past) (misses_in g past) g.penalty few less small in
      λ k. record {
        geometry = g;
        misses = same k;
        cycles = (ap (λ m. cycles_with g (length past) m) same ∙ sum) k;
      }

  pub rows_are : (gs : List Geometry) → ((k : ℕ) (c : Counted) → slice_get (map (counted past) gs) k ≡ Some c → c.geometry.penalty < 2 ^ 32)
      → map (row_for (length past)) (map (counted past) gs) ≡ map (row_over past) gs
  rows_are [] small = refl
  rows_are (g ∷ gs) small = λ k. row_is g (small 0 (counted past g) refl) k ∷ rows_are gs (λ n. small (suc n)) k
