-- What one more fetch changes of the lines that were allocated, and of the words that missed since then.
use Rattle.std.proofs.Common.{◌≡◌, ◌≢◌, ℕ, zero, suc, ◌+◌, ◌*◌, ◌/◌, ◌<◌, Bool, true, false, cond, eqb, not, ◌&&◌, ◌||◌, List, [], ◌∷◌, take, refl, arith}
use Rattle.std.specs.List.{list_any}
use Rattle.std.proofs.lemmas.Bool.Decides.{nat_tests}
use Rattle.mx_icache.specs.Residency.{line_of, set_of, pair_of, is_among_last, allocated, is_held, missed_since}

-- the address or its pair
abbrev pub near : ℕ → ℕ → Bool
near a b = eqb a b || eqb a (pair_of b)

-- a pair is in one line
pub near_line : (a b : ℕ) → near a b ≡ true → line_of a ≡ line_of b
near_line a b h = grind (arith, nat_tests)

near_elsewhere : (a b : ℕ) → line_of a ≢ line_of b → near a b ≡ false
near_elsewhere a b ne = elim (near a b) as (λ v. near a b ≡ v → near a b ≡ false) [ true ↦ λ h. absurd (ne (near_line a b h)) | false ↦ λ h. h ] refl

-- the words of a line, by their pairs
pub near_word : (l v j : ℕ) → v < 16 → j < 16 → near (16 * l + v) (16 * l + j) ≡ eqb (v / 2) (j / 2)
near_word l v j p q = grind (arith, nat_tests)

allocated-cons : (a : ℕ) (past : List ℕ) (s : ℕ)
    → allocated (a ∷ past) s ≡ cond (eqb (set_of (line_of a)) s && not (is_among_last (allocated past s) (line_of a))) (line_of a ∷ allocated past s)
    (allocated past s)
unfolding allocated
allocated-cons a past s = refl

pub missed_since-cons : (a : ℕ) (past : List ℕ) (b : ℕ)
    → missed_since (a ∷ past) b ≡ cond (not (is_held past (line_of a)) && eqb (line_of a) (line_of b))
    ((not (is_held past (line_of a)) || not (missed_since past a)) && near a b)
    (((not (is_held past (line_of a)) || not (missed_since past a)) && near a b) || missed_since past b)
unfolding missed_since
missed_since-cons a past b = refl

-- a fetch allocates nothing in another set
pub allocated-other : (a : ℕ) (past : List ℕ) (s : ℕ) → set_of (line_of a) ≢ s → allocated (a ∷ past) s ≡ allocated past s
allocated-other a past s ne = let test : eqb (set_of (line_of a)) s ≡ false = grind (arith, nat_tests) in rw allocated-cons (rw test refl)

-- a fetch of a held line allocates nothing
pub allocated-held : (a : ℕ) (past : List ℕ) (s : ℕ) → is_held past (line_of a) ≡ true → allocated (a ∷ past) s ≡ allocated past s
allocated-held a past s held =
    elim (eqb (set_of (line_of a)) s) as (λ v. eqb (set_of (line_of a)) s ≡ v → allocated (a ∷ past) s ≡ allocated past s) [
      | true ↦ λ h. let same : set_of (line_of a) ≡ s = grind (arith, nat_tests) in let here : is_among_last (allocated past s) (line_of a) ≡ true =
          rw same at held in rw allocated-cons (rw (h, here) refl)
      | false ↦ λ h. rw allocated-cons (rw h refl)
    ] refl

-- a fetch of a line that is not held allocates it
pub allocated-missed : (a : ℕ) (past : List ℕ) → is_held past (line_of a) ≡ false
    → allocated (a ∷ past) (set_of (line_of a)) ≡ line_of a ∷ allocated past (set_of (line_of a))
allocated-missed a past missing = let test : eqb (set_of (line_of a)) (set_of (line_of a)) ≡ true = grind (arith, nat_tests) in
    rw allocated-cons (rw (test, missing) refl)

unchanged_word : (held missed before : Bool)
    → cond (not held && false) ((not held || not missed) && false) (((not held || not missed) && false) || before) ≡ before
unchanged_word true true before = refl
unchanged_word true false before = refl
unchanged_word false missed before = refl

-- a fetch of another line changes no word of this one
pub missed_since-other : (a : ℕ) (past : List ℕ) (b : ℕ) → line_of a ≢ line_of b → missed_since (a ∷ past) b ≡ missed_since past b
missed_since-other a past b ne =
    let test : eqb (line_of a) (line_of b) ≡ false = grind (arith, nat_tests) in
    let apart : near a b ≡ false = near_elsewhere a b ne in
    rw missed_since-cons (rw (test, apart) (unchanged_word (is_held past (line_of a)) (missed_since past a) (missed_since past b)))

-- a fetch of a resident word changes nothing
pub missed_since-resident : (a : ℕ) (past : List ℕ) (b : ℕ) → is_held past (line_of a) ≡ true → missed_since past a ≡ true
    → missed_since (a ∷ past) b ≡ missed_since past b
missed_since-resident a past b held valid = rw missed_since-cons (rw (held, valid) refl)

-- a miss of a word in a held line adds the word and its pair
pub missed_since-filled : (a : ℕ) (past : List ℕ) (b : ℕ) → is_held past (line_of a) ≡ true → missed_since past a ≡ false
    → missed_since (a ∷ past) b ≡ (near a b || missed_since past b)
missed_since-filled a past b held missing = rw missed_since-cons (rw (held, missing) refl)

-- a line that is allocated has the word and its pair alone
pub missed_since-allocated : (a : ℕ) (past : List ℕ) (b : ℕ) → is_held past (line_of a) ≡ false → line_of a ≡ line_of b → missed_since (a ∷ past) b ≡ near a b
missed_since-allocated a past b missing same =
    let test : eqb (line_of a) (line_of b) ≡ true = grind (arith, nat_tests) in
    rw missed_since-cons (rw (missing, test) refl)

-- lines among those allocated in a set are of that set
among_cons : (s l n x : ℕ) (before : List ℕ) (c : Bool) → (c ≡ true → set_of x ≡ s) → ((m : ℕ) → list_any (λ y. eqb y l) (take m before) ≡ true → set_of l ≡ s)
    → list_any (λ y. eqb y l) (take n (cond c (x ∷ before) before)) ≡ true → set_of l ≡ s
among_cons s l n x before false first others h = others n h
among_cons s l zero x before true first others h = absurd (cc)
among_cons s l (suc n) x before true first others h =
    elim (eqb x l) as (λ v. eqb x l ≡ v → (v || list_any (λ y. eqb y l) (take n before)) ≡ true → set_of l ≡ s)
    [ true ↦ λ e k. let same : x ≡ l = grind (arith, nat_tests) in rw same at (first refl) | false ↦ λ e k. others n k ] refl h

pub allocated-set : (past : List ℕ) (s l n : ℕ) → list_any (λ y. eqb y l) (take n (allocated past s)) ≡ true → set_of l ≡ s
unfolding allocated
allocated-set [] s l zero h = absurd (cc)
allocated-set [] s l (suc n) h = absurd (cc)
allocated-set (a ∷ past) s l n h =
    among_cons s l n (line_of a) (allocated past s) (eqb (set_of (line_of a)) s && not (is_among_last (allocated past s) (line_of a)))
    (λ e. and_first (set_of (line_of a)) s (not (is_among_last (allocated past s) (line_of a))) e) (λ m k. allocated-set past s l m k) h
  where
    and_first : (x s : ℕ) (v : Bool) → (eqb x s && v) ≡ true → x ≡ s
    and_first x s v e = grind (arith, nat_tests)
