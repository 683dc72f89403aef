-- The first statements of the blocks of a source do not fall, and of such numbers those that are less come first.
use Rattle.std.proofs.Common.{◌≡◌, ℕ, zero, suc, ◌+◌, ◌<◌, ◌≤◌, Bool, true, false, cond, List, [], ◌∷◌, length, sym, ap, subst, arith}
use Rattle.std.specs.Prelude.{map, slice_index_or, count_by}
use Rattle.std.specs.List.Sorted.{IsNonDecreasing}
use Rattle.std.proofs.lemmas.List.Sums.{sum_by-cons}
use Rattle.mx_source.specs.SourceValue.{SourceValue}
use Rattle.mx_blocks.specs.declared.Block.{Block}
use Rattle.mx_blocks.specs.Leaders.{BlocksFrom, AreBlocks, size}

-- as many numbers pass a test as come before the first that fails it, where none after that passes it
pub count_before : (p : ℕ → Bool) (xs : List ℕ) (i : ℕ) → i ≤ length xs → ((k d : ℕ) → k < i → p (slice_index_or xs k d) ≡ true)
    → ((k d : ℕ) → i ≤ k → k < length xs → p (slice_index_or xs k d) ≡ false) → i ≡ count_by p xs
count_before p [] i few pass fail = omega arith
count_before p (x ∷ xs) zero few pass fail =
    let rest = count_before p xs 0 (omega arith) (λ k d l. absurd (omega arith)) (λ k d l m. fail (suc k) d (omega arith) (omega arith)) in
    let one : ℕ = cond (p x) 1 0 in
    let here : one ≡ 0 = ap (λ b. cond b 1 0) (fail 0 x (omega arith) (omega arith)) in
    let all : count_by p (x ∷ xs) ≡ one + count_by p xs = sum_by-cons (λ y. cond (p y) 1 0) x xs in
    omega (arith, rest, here, all)
count_before p (x ∷ xs) (suc i) few pass fail =
    let rest = count_before p xs i (omega arith) (λ k d l. pass (suc k) d (omega arith)) (λ k d l m. fail (suc k) d (omega arith) (omega arith)) in
    let one : ℕ = cond (p x) 1 0 in
    let here : one ≡ 1 = ap (λ b. cond b 1 0) (pass 0 x (omega arith)) in
    let all : count_by p (x ∷ xs) ≡ one + count_by p xs = sum_by-cons (λ y. cond (p y) 1 0) x xs in
    omega (arith, rest, here, all)

low : (source : SourceValue) (i j : ℕ) (blocks : List Block) → BlocksFrom source i j blocks → (k d : ℕ) → k < length (map (λ (b : Block). b.first) blocks)
    → i ≤ slice_index_or (map (λ (b : Block). b.first) blocks) k d
low source i j [] h k d l = absurd (omega arith)
low source i j (b ∷ blocks) h zero d l = let first = h.0 in omega arith
low source i j (b ∷ blocks) h (suc k) d l = let rest = low source (i + size b) j blocks h.2 k d (omega arith) in omega arith

rising_from : (source : SourceValue) (i j : ℕ) (blocks : List Block) → BlocksFrom source i j blocks → IsNonDecreasing (map (λ (b : Block). b.first) blocks)
rising_from source i j [] h a c d l m = absurd (omega arith)
rising_from source i j (b ∷ blocks) h zero zero d l m = omega arith
rising_from source i j (b ∷ blocks) h zero (suc c) d l m =
    let first = h.0 in
    let rest = low source (i + size b) j blocks h.2 c d (omega arith) in
    omega arith
rising_from source i j (b ∷ blocks) h (suc a) zero d l m = absurd (omega arith)
rising_from source i j (b ∷ blocks) h (suc a) (suc c) d l m = rising_from source (i + size b) j blocks h.2 a c d (omega arith) (omega arith)

pub rising : (source : SourceValue) (blocks : List Block) (firsts : List ℕ) → AreBlocks source blocks → firsts ≡ map (λ (b : Block). b.first) blocks
    → IsNonDecreasing firsts
rising source blocks firsts are e =
    subst IsNonDecreasing (sym e) (rising_from source 0 (length source.statements) blocks are)
