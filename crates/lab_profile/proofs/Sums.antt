-- Sums below a number.
use Rattle.std.proofs.Common.{◌≡◌, ℕ, zero, suc, ◌+◌, ◌-◌, ◌<◌, ◌≤◌, Bool, cond, eqb, ◌&&◌, refl, sym, ap, ◌∙◌, arith, ⊎_elim}
use Rattle.std.proofs.lemmas.Bool.{cases_eq}
use Rattle.std.proofs.lemmas.Bool.Decides.{nat_tests}
use Rattle.lab_profile.specs.Charges.{sum_below}

pub sum_plus : (f g : ℕ → ℕ) (n : ℕ) → sum_below (λ k. f k + g k) n ≡ sum_below f n + sum_below g n
sum_plus f g zero = refl
sum_plus f g (suc n) = let rest = sum_plus f g n in omega arith

pub sum_none : (f : ℕ → ℕ) (n : ℕ) → ((k : ℕ) → k < n → f k ≡ 0) → sum_below f n ≡ 0
sum_none f zero none = refl
sum_none f (suc n) none = let rest = sum_none f n (λ k l. none k (omega arith)) in let last = none n (omega arith) in omega arith

pub sum_same : (f g : ℕ → ℕ) (n : ℕ) → ((k : ℕ) → k < n → f k ≡ g k) → sum_below f n ≡ sum_below g n
sum_same f g zero same = refl
sum_same f g (suc n) same = let rest = sum_same f g n (λ k l. same k (omega arith)) in let last = same n (omega arith) in omega arith

-- what is taken from each of some numbers, and what is added to it
pub sum_moved : (f g h : ℕ → ℕ) (n : ℕ) → ((k : ℕ) → g k ≤ f k) → sum_below (λ k. (f k - g k) + h k) n + sum_below g n ≡ sum_below f n + sum_below h n
sum_moved f g h zero few = refl
sum_moved f g h (suc n) few = let rest = sum_moved f g h n few in let last = few n in omega (arith, rest, last)

off : (b : Bool) (i w k : ℕ) → (i ≡ k → ⊥) → cond (b && eqb i k) w 0 ≡ 0
off b i w k ne = grind (arith, nat_tests)

on : (b : Bool) (i w : ℕ) → cond (b && eqb i i) w 0 ≡ cond b w 0
on b i w = grind (arith, nat_tests)

-- what is charged to one of the places is the sum of what is charged to each
pub sum_charge : (b : Bool) (i w n : ℕ) → i < n → sum_below (λ k. cond (b && eqb i k) w 0) n ≡ cond b w 0
sum_charge b i w zero l = absurd (omega arith)
sum_charge b i w (suc n) l = ⊎_elim
    (λ (e : i ≡ n).
    let rest = sum_none (λ k. cond (b && eqb i k) w 0) n (λ k m. off b i w k (λ same. absurd (omega arith))) in
    let here : cond (b && eqb i n) w 0 ≡ cond b w 0 = ap (λ k. cond (b && eqb i k) w 0) (sym e) ∙ on b i w in
    omega arith)
    (λ ne.
    let rest = sum_charge b i w n (omega arith) in
    let here = off b i w n ne in
    omega arith)
    (cases_eq i n)
