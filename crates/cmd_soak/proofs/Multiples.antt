-- The first multiples of a number.
use Rattle.std.proofs.Common.{◌≡◌, ℕ, zero, suc, ◌+◌, ◌*◌, ◌<◌, [], ◌∷◌, ◌++◌, length, refl, sym, ap, ◌∙◌, ⊎_elim, arith, length-append}
use Rattle.std.specs.Prelude.{slice_index}
use Rattle.std.specs.List.Sorted.{IsStrictlyIncreasing}
use Rattle.std.proofs.Math.Nat.{mul-add, mul-one}
use Rattle.std.proofs.Math.Seq.{get_or-append_seam}
use Rattle.std.proofs.lemmas.Bool.{cases_lt}
use Rattle.std.proofs.lemmas.List.{get_or_append_left}
use Rattle.cmd_soak.specs.Soak.{multiples}

pub multiples-zero : (n : ℕ) → multiples n 0 ≡ []
unfolding multiples
multiples-zero n = refl

multiples-suc : (n k : ℕ) → multiples n (suc k) ≡ multiples n k ++ n * suc k ∷ []
unfolding multiples
multiples-suc n k = refl

pub multiples-more : (n k : ℕ) → multiples n (k + 1) ≡ multiples n k ++ n * (k + 1) ∷ []
multiples-more n k =
    let e : k + 1 ≡ suc k = omega arith in
    ap (multiples n) e ∙ multiples-suc n k ∙ ap (λ m. multiples n k ++ n * m ∷ []) (sym e)

pub length-multiples : (n k : ℕ) → length (multiples n k) ≡ k
length-multiples n zero = ap length (multiples-zero n)
length-multiples n (suc k) =
    let e = length-multiples n k in
    ap length (multiples-suc n k) ∙ length-append (multiples n k) (n * suc k ∷ []) ∙ omega arith

index-multiples : (n k i : ℕ) → i < k → slice_index (multiples n k) i ≡ n * (i + 1)
index-multiples n zero i l = absurd (omega arith)
index-multiples n (suc k) i l =
    let count = length-multiples n k in
    ap (λ xs. slice_index xs i) (multiples-suc n k) ∙ ⊎_elim
    (λ low.
    let within : i < length (multiples n k) = omega arith in
    get_or_append_left (multiples n k) (n * suc k ∷ []) 0 i within ∙ index-multiples n k i low)
    (λ high.
    let last : i ≡ length (multiples n k) = omega arith in
    let next : suc k ≡ i + 1 = omega arith in
    ap (λ j. slice_index (multiples n k ++ n * suc k ∷ []) j) last ∙ get_or-append_seam (multiples n k) (n * suc k) [] 0 ∙ ap (λ m. n * m) next)
    (cases_lt i k)

next_multiple : (n k : ℕ) → n * (k + 1 + 1) ≡ n * (k + 1) + n
next_multiple n k = mul-add n (k + 1) 1 ∙ ap (λ m. n * (k + 1) + m) (mul-one n)

pub multiples_ascend : (n k : ℕ) → 0 < n → IsStrictlyIncreasing (multiples n k)
multiples_ascend n k positive = λ i l.
    let count = length-multiples n k in
    let a = index-multiples n k i (omega arith) in
    let b = index-multiples n k (i + 1) (omega arith) in
    let c = next_multiple n i in
    omega arith
