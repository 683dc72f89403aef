-- One more cycle of a run, and how far its last request has come.
use Rattle.std.proofs.Common.{◌≡◌, inl, inr, ℕ, zero, suc, ◌+◌, ◌<◌, ◌≤◌, Bool, true, false, refl, sym, ap, ◌∙◌, subst, arith}
use Rattle.std.specs.Prelude.{Option, Some, None, IfSome, IfNone}
use Rattle.std.proofs.lemmas.Bool.{cases_lt, true≢false, false≢true}
use Rattle.mx_turn.specs.declared.latches.Stage.{Stage}
use Rattle.lab_measures.specs.declared.observed.Entry.{Entry}
use Rattle.lab_measures.specs.declared.observed.Progress.{Progress}
use Rattle.lab_measures.specs.declared.observed.Progress.TheVariants.{Idle, Waiting, Taken, Entered}
use Rattle.lab_measures.specs.Entries.{Signals, IsLast, IsTaken, IsEntry, IsEntryOf}
use Rattle.lab_measures.specs.Progress.{Reached, is_open, after_request, after_turn}

-- what holds below n and at n holds below n + 1
one_more : (f : ℕ → Bool) (b : Bool) (low n : ℕ) → ((k : ℕ) → low ≤ k → k < n → f k ≡ b) → f n ≡ b → (k : ℕ) → low ≤ k → k < suc n → f k ≡ b
one_more f b low n below here k l m = elim (cases_lt k n) [
  | inl under ↦ below k l under
  | inr over ↦ let same : k ≡ n = omega arith in ap f same ∙ here
]

module _ (s : Signals) (n : ℕ) where
  last_more : (last : ℕ) → s.asked n ≡ false → IsLast s n last → IsLast s (suc n) last
  last_more last none h = record {
    within = let w = h.within in omega arith;
    comes = h.comes;
    alone = λ k l m. one_more s.asked false (suc last) n (λ j a b. h.alone j (omega arith) b) none k (omega arith) m;
  }

  -- no request comes
  unasked : (p : Progress) → s.asked n ≡ false → Reached s n n p → Reached s (suc n) n p
  unasked Idle none h = λ k l. one_more s.asked false 0 n (λ j a b. h j b) none k (omega arith) l
  unasked Waiting none h = (h.0, last_more h.0 none h.1, h.2)
  unasked (Taken cycle killed) none (last, is, took, under, kill, stalls) = (last, last_more last none is, took, under, kill, stalls)
  unasked (Entered e) none h = (
    h.0,
    record {
      last = h.1.last;
      asked = last_more h.1.last none h.1.asked;
      taken = h.1.taken;
      fetched = h.1.fetched;
      within = let w = h.1.within in omega arith;
      killed = h.1.killed;
    },
  )

  asked : (p : Progress) (request : Bool) → request ≡ s.asked n → Reached s n n p → Reached s (suc n) n (after_request request p)
  asked p true comes h = (
    n,
    record {
      within = omega arith;
      comes = sym comes;
      alone = λ k l m. absurd (omega arith);
    },
    λ k l m. absurd (omega arith),
  )
  asked p false comes h = unasked p (sym comes) h

  turned : (p : Progress) (taken stalled : Bool) (alu : Stage) → taken ≡ s.taken n → stalled ≡ s.stalled n → (taken ≡ true → alu ≡ s.alu n)
      → Reached s (suc n) n p → Reached s (suc n) (suc n) (after_turn n taken stalled alu p)
  turned Idle taken stalled alu t q a h = h
  turned Waiting true stalled alu t q a h = (
    h.0,
    h.1,
    record {
      order = let w = h.1.within in omega arith;
      is = sym t;
      first = h.2;
    },
    omega arith,
    a refl,
    λ k l m. absurd (omega arith),
  )
  turned Waiting false stalled alu t q a h = (h.0, h.1, λ k l m. one_more s.taken false h.0 n h.2 (sym t) k l m)
  turned (Taken cycle killed) taken true alu t q a (last, is, took, under, kill, stalls) = (
    last,
    is,
    took,
    omega arith,
    kill,
    λ k l m. one_more s.stalled true (suc cycle) n (λ j x y. stalls j (omega arith) y) (sym q) k (omega arith) m,
  )
  turned (Taken cycle killed) taken false alu t q a (last, is, took, under, kill, stalls) = (
    omega arith,
    record {
      last = last;
      asked = is;
      taken = took;
      fetched = record {
        order = under;
        is = sym q;
        first = stalls;
      };
      within = omega arith;
      killed = kill;
    },
  )
  turned (Entered e) taken stalled alu t q a h = (let w = h.0 in omega arith, h.1)

pub one_cycle : (s : Signals) (n : ℕ) (p : Progress) (request taken stalled : Bool) (alu : Stage) → request ≡ s.asked n → taken ≡ s.taken n
    → stalled ≡ s.stalled n → (taken ≡ true → alu ≡ s.alu n) → Reached s n n p
    → Reached s (suc n) (suc n) (after_turn n taken stalled alu (after_request request p))
one_cycle s n p request taken stalled alu comes t q a h = turned s n (after_request request p) taken stalled alu t q a (asked s n p request comes h)

closed_turn : (s : Signals) (m n : ℕ) (p : Progress) → is_open p ≡ false → Reached s m n p → Reached s m (suc n) p
closed_turn s m n Idle c h = h
closed_turn s m n Waiting c h = absurd (true≢false c)
closed_turn s m n (Taken cycle killed) c h = absurd (true≢false c)
closed_turn s m n (Entered e) c h = (let w = h.0 in omega arith, h.1)

-- cycles without a request
pub quiet_cycles : (s : Signals) (i n : ℕ) (p : Progress) → is_open p ≡ false → ((k : ℕ) → i ≤ k → k < n + i → s.asked k ≡ false)
    → Reached s i i p → Reached s (n + i) (n + i) p
quiet_cycles s i zero p c none h = subst (λ (m : ℕ). Reached s m m p) (let same : i ≡ 0 + i = omega arith in same) h
quiet_cycles s i (suc n) p c none h =
    subst (λ (m : ℕ). Reached s m m p) (let same : suc (n + i) ≡ suc n + i = omega arith in same)
    (closed_turn s (suc (n + i)) (n + i) p c
    (unasked s (n + i) p (none (n + i) (omega arith) (omega arith)) (quiet_cycles s i n p c (λ k l m. none k l (omega arith)) h)))

-- there is one last request, one first interrupt, and one turn
last_one : (s : Signals) (n a b : ℕ) → IsLast s n a → IsLast s n b → a ≡ b
last_one s n a b h k = elim (cases_lt a b) [
  | inl under ↦ absurd (true≢false (sym k.comes ∙ h.alone b under k.within))
  | inr over ↦ elim (cases_lt b a) [
    | inl under ↦ absurd (true≢false (sym h.comes ∙ k.alone a under h.within))
    | inr same ↦ omega arith
  ]
]

taken_one : (s : Signals) (from other a b : ℕ) → from ≡ other → IsTaken s from a → IsTaken s other b → a ≡ b
taken_one s from other a b e h k = elim (cases_lt a b) [
  | inl under ↦ absurd (true≢false (sym h.is ∙ k.first a (let o = h.order in omega arith) under))
  | inr over ↦ elim (cases_lt b a) [
    | inl under ↦ absurd (true≢false (sym k.is ∙ h.first b (let o = k.order in omega arith) under))
    | inr same ↦ omega arith
  ]
]

-- a request that is not taken, or whose handler is not entered, is no entry
pub no_entry : (s : Signals) (n : ℕ) (p : Progress) → ((e : Entry) → p ≡ Entered e → ⊥) → Reached s n n p → (e : Entry) → IsEntry s n e → ⊥
no_entry s n Idle other h e is = true≢false (sym is.asked.comes ∙ h is.last is.asked.within)
no_entry s n Waiting other h e is =
    let same = last_one s n is.last h.0 is.asked h.1 in
    let order = is.taken.order in
    let later = is.fetched.order in
    let within = is.within in
    true≢false (sym is.taken.is ∙ h.2 e.taken (omega arith) (omega arith))
no_entry s n (Taken cycle killed) other (last, asked, took, under, kill, stalls) e is =
    let same = taken_one s is.last last e.taken cycle (last_one s n is.last last is.asked asked) is.taken took in
    let later = is.fetched.order in
    false≢true (sym is.fetched.is ∙ stalls e.fetched (omega arith) is.within)
no_entry s n (Entered e) other h d is = other e refl

-- what is told of the last request is how it became an interrupt
pub entry_of : (s : Signals) (n : ℕ) (p : Progress) (told : Option Entry)
    → ((t : Signals) (m : ℕ) → Reached t m m p → IfSome told (IsEntry t m))
    → ((t : Signals) (m : ℕ) → Reached t m m p → IfNone told ((e : Entry) → IsEntry t m e → ⊥))
    → Reached s n n p → IsEntryOf s n told
entry_of s n p None some none h = none s n h
entry_of s n p (Some e) some none h = some s n h
