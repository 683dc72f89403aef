-- A binary search among rising numbers finds a number exactly where it is among them.
use Rattle.std.proofs.Common.{◌≡◌, ◌≢◌, ℕ, suc, ◌<◌, ◌≤◌, true, false, eqb, List, [], ◌∷◌, length, get_or, Result, Ok, Err, refl, arith}
use Rattle.std.specs.Ordering.{nat_cmp}
use Rattle.std.specs.Result.{is_ok}
use Rattle.std.specs.List.Sorted.{IsStrictlyIncreasing, IsBinarySearchResult}
use Rattle.std.proofs.lemmas.List.Sorted.{searched}
use Rattle.std.proofs.lemmas.List.Kept.{AllPairs-from_increasing}
use Rattle.std.proofs.lemmas.List.Folds.{list_any_at}
use Rattle.std.proofs.lemmas.Bool.Decides.{nat_tests}
use Rattle.mx_board.specs.RequestFile.{is_wanted}

-- a number that stands nowhere is not among them
not_among : (xs : List ℕ) (x : ℕ) → ((k : ℕ) → k < length xs → get_or xs k 0 ≢ x) → is_wanted xs x ≡ false
not_among [] x h = refl
not_among (y ∷ xs) x h =
    let first : y ≢ x = h 0 (omega arith) in
    let rest : is_wanted xs x ≡ false = not_among xs x (λ k within. h (suc k) (omega arith)) in
    let test : eqb y x ≡ false = grind (arith, nat_tests) in
    rw (test, rest) refl

rising : (xs : List ℕ) → IsStrictlyIncreasing xs → (i j : ℕ) → i ≤ j → j < length xs → get_or xs i 0 ≤ get_or xs j 0
rising xs h i j order within =
    let below : i < j → get_or xs i 0 < get_or xs j 0 = λ lt. AllPairs-from_increasing xs h i j 0 lt within in
    let same : i ≡ j → get_or xs i 0 ≤ get_or xs j 0 = λ e. rw e (omega arith) in
    grind arith

pub wanted : (xs : List ℕ) (x : ℕ) (r : Result ℕ ℕ) → IsStrictlyIncreasing xs → IsBinarySearchResult (λ y. nat_cmp y x) xs r → is_ok r ≡ is_wanted xs x
wanted xs x (Ok i) h found =
    let at = searched xs x (Ok i) found (rising xs h) in
    let test : eqb (get_or xs i 0) x ≡ true = grind (arith, nat_tests) in
    rw (list_any_at (λ c. eqb c x) xs i 0 at.0 test) refl
wanted xs x (Err i) h found =
    let at = searched xs x (Err i) found (rising xs h) in
    let nowhere : (k : ℕ) → k < length xs → get_or xs k 0 ≢ x = λ k within.
    let before : k < i → get_or xs k 0 < x = at.1 k in
    let behind : i ≤ k → x < get_or xs k 0 = λ order. at.2 k order within in
    grind arith in
    rw (not_among xs x nowhere) refl
