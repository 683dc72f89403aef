-- How many cycles a span has.
use Rattle.std.proofs.Common.{◌≡◌, ℕ, zero, suc, ◌+◌, ◌-◌, ◌*◌, ◌/◌, ◌%◌, ◌<◌, ◌≤◌, Bool, true, false, cond, List, [], ◌∷◌, ◌++◌, length, refl, sym, ap, subst, ◌∙◌, arith, ◌⊎◌, inl, inr}
use Rattle.std.specs.Prelude.{◌==◌}
use Rattle.std.proofs.lemmas.Bool.{cases_lt}
use Rattle.std.proofs.lemmas.Bool.Decides.{nat_tests}
use Rattle.std.proofs.lemmas.Nat.{div-mul-add, mod-mul-add, div-add-mod', mod_below}
use Rattle.std.proofs.lemmas.List.{length-append}
use Rattle.lab_measures.specs.declared.cycles.Span.{Span}
use Rattle.lab_measures.specs.Spans.{cycles_among}

-- a number that is q times s and r, which is less than s
quotient_of : (n s q r : ℕ) → n ≡ q * s + r → r < s → n / s ≡ q
quotient_of n s q r e h = ap (λ x. x / s) e ∙ div-mul-add q s r h

rest_of : (n s q r : ℕ) → n ≡ q * s + r → r < s → n % s ≡ r
rest_of n s q r e h = ap (λ x. x % s) e ∙ mod-mul-add q s r h

next_whole : (q s r n : ℕ) → q * s + r ≡ n → r + 1 ≡ s → suc n ≡ suc q * s + 0
next_whole q s r n e h = omega arith

none_more : (a m : ℕ) → 0 < m → a ≡ a + cond (m == 0) 1 0
none_more a m h = grind (arith, nat_tests)

-- the quotient grows where nothing is left
step_by : (n s : ℕ) → 0 < s → (n % s + 1 < s) ⊎ (s ≤ n % s + 1) → suc n / s ≡ n / s + cond (suc n % s == 0) 1 0
step_by n s h (inl k) =
    let e : suc n ≡ n / s * s + (n % s + 1) = omega (arith, div-add-mod' n s) in
    let q : suc n / s ≡ n / s = quotient_of (suc n) s (n / s) (n % s + 1) e k in
    let r : suc n % s ≡ n % s + 1 = rest_of (suc n) s (n / s) (n % s + 1) e k in
    q ∙ subst (λ m. n / s ≡ n / s + cond (m == 0) 1 0) (sym r) (none_more (n / s) (n % s + 1) (omega arith))
step_by n s h (inr k) =
    let b : n % s < s = mod_below n s h in
    let e : suc n ≡ suc (n / s) * s + 0 = next_whole (n / s) s (n % s) n (div-add-mod' n s) (omega arith) in
    let q : suc n / s ≡ suc (n / s) = quotient_of (suc n) s (suc (n / s)) 0 e h in
    let r : suc n % s ≡ 0 = rest_of (suc n) s (suc (n / s)) 0 e h in
    q ∙ subst (λ m. suc (n / s) ≡ n / s + cond (m == 0) 1 0) (sym r) (omega arith)

length_cond : (b : Bool) (x : ℕ) → length (cond b (x ∷ []) []) ≡ cond b 1 0
length_cond true x = refl
length_cond false x = refl

-- every step-th of the numbers up to n, 0 included
pub length_among : (span : Span) (n : ℕ) → 0 < span.step → length (cycles_among span (suc n)) ≡ n / span.step + 1
length_among span zero h =
    let r : 0 % span.step ≡ 0 = rest_of 0 span.step 0 0 (omega arith) h in
    let q : 0 / span.step ≡ 0 = quotient_of 0 span.step 0 0 (omega arith) h in
    rw (r, q) refl
length_among span (suc n) h =
    let s : ℕ = span.step in
    let more : length (cycles_among span (suc (suc n))) ≡ length (cycles_among span (suc n)) + cond (suc n % s == 0) 1 0 =
    length-append (cycles_among span (suc n)) _ ∙ ap (λ k. length (cycles_among span (suc n)) + k) (length_cond (suc n % s == 0) (span.from + suc n)) in
    let before : length (cycles_among span (suc n)) ≡ n / s + 1 = length_among span n h in
    let step : suc n / s ≡ n / s + cond (suc n % s == 0) 1 0 = step_by n s h (cases_lt (n % s + 1) s) in
    omega arith
