-- A loop over the front of a list that passes a test.
use Rattle.std.proofs.Common.{◌≡◌, ℕ, ◌+◌, ◌<◌, ◌≤◌, Bool, true, false, List, length, get_or, drop, arith}
use Rattle.std.specs.List.{prefix_len}
use Rattle.std.proofs.lemmas.List.Sums.{prefix_len-drop_yes, prefix_len-drop_no, prefix_len-drop_all}

-- the loop has come to a place within the list, and the front of what is left ends where the whole front does
pub record Comes (p : ℕ → Bool) (xs : List ℕ) (from end : ℕ) : Type 0 where
  pub after : from ≤ end
  pub within : end ≤ length xs
  pub same : end + prefix_len p (drop end xs) ≡ from + prefix_len p (drop from xs)

pub comes_more : (p : ℕ → Bool) (xs : List ℕ) (from end : ℕ) → Comes p xs from end → end < length xs → p (get_or xs end 0) ≡ true → Comes p xs from (end + 1)
comes_more p xs from end h lt passes = record {
  after = omega arith;
  within = omega arith;
  same = omega (arith, prefix_len-drop_yes p xs end 0 lt passes, h.same);
}

pub comes_to_no : (p : ℕ → Bool) (xs : List ℕ) (from end : ℕ) → Comes p xs from end → end < length xs → p (get_or xs end 0) ≡ false
    → end ≡ from + prefix_len p (drop from xs)
comes_to_no p xs from end h lt fails = omega (arith, prefix_len-drop_no p xs end 0 lt fails, h.same)

pub comes_to_end : (p : ℕ → Bool) (xs : List ℕ) (from end : ℕ) → Comes p xs from end → length xs ≤ end → end ≡ from + prefix_len p (drop from xs)
comes_to_end p xs from end h le = omega (arith, prefix_len-drop_all p xs end le, h.same)
