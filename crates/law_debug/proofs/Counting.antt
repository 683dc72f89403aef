-- Counting what passes a test.
use Rattle.std.proofs.Common.{◌≡◌, ℕ, zero, suc, ◌+◌, ◌-◌, ◌<◌, ◌≤◌, Bool, true, false, cond, sym, ap, ◌∙◌, arith, ⊎_elim}
use Rattle.std.proofs.lemmas.Bool.{cases_Bool, cases_lt, false≢true}
use Rattle.law_debug.specs.Visits.{count_below}

one_more : (test : ℕ → Bool) (n : ℕ) (b : Bool) → test n ≡ b → count_below test (suc n) ≡ count_below test n + cond b 1 0
one_more test n b e = ap (λ c. count_below test n + cond c 1 0) e

pub one_passes : (test : ℕ → Bool) (n : ℕ) → test n ≡ true → count_below test (suc n) ≡ count_below test n + 1
one_passes test n e = one_more test n true e

pub none_passes : (test : ℕ → Bool) (n : ℕ) → test n ≡ false → count_below test (suc n) ≡ count_below test n
none_passes test n e = one_more test n false e ∙ (let z : count_below test n + 0 ≡ count_below test n = omega arith in z)

-- of no number from a on, k of them
none_of : (test : ℕ → Bool) (a k : ℕ) → ((v : ℕ) → a ≤ v → v < a + k → test v ≡ false) → count_below test (a + k) ≡ count_below test a
none_of test a zero none = ap (count_below test) (let e : a + zero ≡ a = omega arith in e)
none_of test a (suc k) none =
    ap (count_below test) (let e : a + suc k ≡ suc (a + k) = omega arith in e)
    ∙ none_passes test (a + k) (none (a + k) (omega arith) (omega arith))
    ∙ none_of test a k (λ v h l. none v h (omega (arith, l)))

none_between :
    (test : ℕ → Bool) (a b : ℕ) → a ≤ b → ((v : ℕ) → a ≤ v → v < b → test v ≡ false) → count_below test b ≡ count_below test a
none_between test a b le none =
    ap (count_below test) (let e : b ≡ a + (b - a) = omega (arith, le) in e)
    ∙ none_of test a (b - a) (λ v h l. none v h (omega (arith, l, le)))

pub count_grows : (test : ℕ → Bool) (a k : ℕ) → count_below test a ≤ count_below test (a + k)
count_grows test a zero = let e : a + zero ≡ a = omega arith in let f = ap (count_below test) e in omega (arith, f)
count_grows test a (suc k) =
    let e : a + suc k ≡ suc (a + k) = omega arith in
    let f = ap (count_below test) e in
    let g = count_grows test a k in
    omega (arith, f, g)

-- where f leads from what passes P to what passes Q and keeps the order, as many pass both tests
module _ (P Q : ℕ → Bool) (f : ℕ → ℕ) (rises : (m n : ℕ) → P m ≡ true → P n ≡ true → m < n → f m < f n)
    (lands : (m : ℕ) → P m ≡ true → Q (f m) ≡ true) where
  pub record Below (n w : ℕ) : Type 0 where
    pub to : (m : ℕ) → P m ≡ true → m < n → f m < w
    pub from : (v : ℕ) → v < w → Q v ≡ true → (m : ℕ) × (P m ≡ true) × (m < n) × (v ≡ f m)

  unless : (v : ℕ) → (Q v ≡ true → ⊥) → Q v ≡ false
  unless v refused = ⊎_elim (λ e. absurd (refused e)) (λ e. e) (cases_Bool (Q v))

  -- the last one does not pass
  fewer : (n w : ℕ) → P n ≡ false → Below (suc n) w → Below n w
  fewer n w off b = record {
    to = λ m p l. b.to m p (omega (arith, l));
    from = λ v l q.
        let x = b.from v l q in (
          x.0,
          x.1,
          ⊎_elim (λ (h : x.0 < n). h) (λ (h : n ≤ x.0). let e : x.0 ≡ n = (let k = x.2 in omega (arith, h, k)) in
              absurd (false≢true (sym off ∙ sym (ap P e) ∙ x.1))) (cases_lt x.0 n),
          x.3,
        );
  }

  -- the last one passes
  up_to : (n w : ℕ) → P n ≡ true → Below (suc n) w → Below n (f n)
  up_to n w on b = record {
    to = λ m p l. rises m n p on l;
    from = λ v l q.
        let x = b.from v (let last = b.to n on (omega arith) in omega (arith, l, last)) q in (
          x.0,
          x.1,
          ⊎_elim (λ (h : x.0 < n). h) (λ (h : n ≤ x.0). let e : x.0 ≡ n = (let k = x.2 in omega (arith, h, k)) in let g = ap f e in let y = x.3 in
              absurd (omega (arith, g, y, l))) (cases_lt x.0 n),
          x.3,
        );
  }

  behind : (n w : ℕ) → P n ≡ true → Below (suc n) w → (v : ℕ) → suc (f n) ≤ v → v < w → Q v ≡ true → ⊥
  behind n w on b v above l q =
      let x = b.from v l q in
      let y = x.3 in
      ⊎_elim
      (λ (h : x.0 < n). let r = rises x.0 n x.1 on h in omega (arith, y, r, above))
      (λ (h : n ≤ x.0). let e : x.0 ≡ n = (let k = x.2 in omega (arith, h, k)) in let g = ap f e in omega (arith, g, y, above))
      (cases_lt x.0 n)

  pub as_many : (n w : ℕ) → Below n w → count_below P n ≡ count_below Q w
  as_many zero w b = sym (none_between Q 0 w (omega arith) (λ v h l. unless v (λ q. let x = b.from v l q in let k = x.2 in omega (arith, k))))
  as_many (suc n) w b = ⊎_elim
      (λ on.
      one_passes P n on
      ∙ ap (λ k. k + 1) (as_many n (f n) (up_to n w on b))
      ∙ sym (one_passes Q (f n) (lands n on))
      ∙ sym (none_between Q (suc (f n)) w (let last = b.to n on (omega arith) in omega (arith, last)) (λ v h l. unless v (behind n w on b v h l))))
      (λ off. none_passes P n off ∙ as_many n w (fewer n w off b))
      (cases_Bool (P n))
