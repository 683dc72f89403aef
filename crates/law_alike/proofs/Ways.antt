-- Two lists of fetches that a cache stands for.
use Rattle.std.proofs.Common.{◌≡◌, ℕ, zero, suc, ◌+◌, ◌-◌, ◌%◌, ◌<◌, ◌≤◌, Bool, true, false, eqb, ltb, ◌||◌, List, [], ◌∷◌, length, take, get_or, Option, Some, None, refl, sym, ap, ◌∙◌, subst, arith}
use Rattle.std.specs.Prelude.{slice_index, if◌then◌else◌, ◌==◌}
use Rattle.std.specs.List.{list_any, slice_get}
use Rattle.std.proofs.lemmas.Bool.Decides.{nat_tests}
use Rattle.mx_icache.specs.declared.line_set.Set.{Set}
use Rattle.mx_icache.specs.declared.line_cache.LineCache.{LineCache}
use Rattle.mx_icache.specs.Residency.{line_of, set_of, is_among_last, allocated, is_held, missed_since, resident}
use Rattle.mx_icache.specs.LineSets.{is_set, line_in, word_in, GoesRound, SetHolds, CacheHolds}
use Rattle.mx_icache.specs.Places.{Apart, ValidWhereResident}
use Rattle.mx_icache.proofs.Lines.{missed_here}
use Rattle.mx_icache.proofs.SetSteps.{word_here}
use Rattle.law_alike.specs.Alike.{AnswerAlike}
use Rattle.law_alike.proofs.Held.{answers_from}

at_place : (xs : List ℕ) (i : ℕ) → i < length xs → slice_get xs i ≡ Some (get_or xs i 0)
at_place [] i h = absurd (omega (arith, h))
at_place (x ∷ xs) zero h = refl
at_place (x ∷ xs) (suc i) h = at_place xs i (omega (arith, h))

beyond : (xs : List ℕ) (i : ℕ) → length xs ≤ i → slice_get xs i ≡ None
beyond [] i h = refl
beyond (x ∷ xs) zero h = absurd (omega (arith, h))
beyond (x ∷ xs) (suc i) h = beyond xs i (omega (arith, h))

-- lists with the same at each of the first places begin alike
begin_alike : (n : ℕ) (xs ys : List ℕ) → ((i : ℕ) → i < n → slice_get xs i ≡ slice_get ys i) → take n xs ≡ take n ys
begin_alike zero xs ys h = refl
begin_alike (suc n) [] [] h = refl
begin_alike (suc n) [] (y ∷ ys) h = let bad : None ≡ Some y = h 0 (omega arith) in absurd (cc)
begin_alike (suc n) (x ∷ xs) [] h = let bad : Some x ≡ None = h 0 (omega arith) in absurd (cc)
begin_alike (suc n) (x ∷ xs) (y ∷ ys) h =
    let one : Some x ≡ Some y = h 0 (omega arith) in
    let first : x ≡ y = cc in
    let rest = begin_alike n xs ys (λ i p. h (suc i) (omega (arith, p))) in
    λ k. first k ∷ rest k

-- a line among the first is at a place
place_of : (n : ℕ) (xs : List ℕ) (l : ℕ) → list_any (λ m. eqb m l) (take n xs) ≡ true → (i : ℕ) × (i < n) × (slice_get xs i ≡ Some l)
place_of zero xs l e = absurd (cc)
place_of (suc n) [] l e = absurd (cc)
place_of (suc n) (x ∷ xs) l e = by (eqb x l) refl (place_of n xs l) e
  where
    by : (v : Bool) → eqb x l ≡ v → (list_any (λ m. eqb m l) (take n xs) ≡ true → (i : ℕ) × (i < n) × (slice_get xs i ≡ Some l))
        → (v || list_any (λ m. eqb m l) (take n xs)) ≡ true → (i : ℕ) × (i < suc n) × (slice_get (x ∷ xs) i ≡ Some l)
    by true t onward h = let same : x ≡ l = grind (arith, nat_tests) in (zero, omega arith, ap Some same)
    by false t onward h = let rest = onward h in let within = rest.1 in (suc rest.0, omega (arith, within), rest.2)

-- the i-th line from the newest on is in the way that many ways before the next
in_way : (next : ℕ) (line : ℕ → Option ℕ) (lines : List ℕ) → GoesRound next line lines → (i : ℕ) → i < 8
    → slice_get lines i ≡ line ((next + 7 - i) % 8)
in_way next line lines r i small = by (ltb i (length lines)) refl
  where
    by : (v : Bool) → ltb i (length lines) ≡ v → slice_get lines i ≡ line ((next + 7 - i) % 8)
    by true e =
        let within : i < length lines = grind (arith, nat_tests) in
        let is : next ≡ length lines % 8 = r.next_way in
        let way : (length lines - 1 - i) % 8 ≡ (next + 7 - i) % 8 = omega (arith, is, within, small) in
        let place : length lines - 1 - (length lines - 1 - i) ≡ i = omega (arith, within) in
        at_place lines i within ∙ ap (λ k. Some (get_or lines k 0)) (sym place)
        ∙ sym (r.held (length lines - 1 - i) (omega (arith, within)) (omega (arith, within, small))) ∙ ap line way
    by false e =
        let past : length lines ≤ i = grind (arith, nat_tests) in
        let is : next ≡ length lines % 8 = r.next_way in
        beyond lines i past ∙ sym (r.empty ((next + 7 - i) % 8) (omega (arith, is, past, small)) (omega arith))

-- one set, after two lists of fetches
module _ (set : Set) (past past' : List ℕ) (s : ℕ) (h : SetHolds set past s) (h' : SetHolds set past' s) where
  pub same_lines : take 8 (allocated past s) ≡ take 8 (allocated past' s)
  same_lines = begin_alike 8 (allocated past s) (allocated past' s) (λ i small.
      in_way set.next (line_in set) (allocated past s) h.ring i small ∙ sym (in_way set.next (line_in set) (allocated past' s) h'.ring i small))

  pub same_words : (a : ℕ) → set_of (line_of a) ≡ s → is_held past (line_of a) ≡ true → missed_since past a ≡ missed_since past' a
  same_words a here held =
      let among : list_any (λ m. eqb m (line_of a)) (take 8 (allocated past s)) ≡ true =
      ap (λ x. is_among_last (allocated past x) (line_of a)) (sym here) ∙ held in
      let held' : is_held past' (line_of a) ≡ true =
      ap (λ x. is_among_last (allocated past' x) (line_of a)) here ∙ ap (list_any (λ m. eqb m (line_of a))) (sym same_lines) ∙ among in
      let place = place_of 8 (allocated past s) (line_of a) among in
      let way : ℕ = (set.next + 7 - place.0) % 8 in
      let at : line_in set way ≡ Some (line_of a) =
      sym (in_way set.next (line_in set) (allocated past s) h.ring place.0 place.1) ∙ place.2 in
      let one = word_here set past a way (subst (SetHolds set past) (sym here) h) (omega arith) at in
      let two = word_here set past' a way (subst (SetHolds set past') (sym here) h') (omega arith) at in
      missed_here past a (resident past a) held refl ∙ sym one ∙ two ∙ sym (missed_here past' a (resident past' a) held' refl)

-- each set of a cache is there
one_of : {X : Type 0} (xs : List X) (s : ℕ) → s < length xs → (x : X) × (slice_get xs s ≡ Some x)
one_of [] s p = absurd (omega (arith, p))
one_of (x ∷ xs) zero p = (x, refl)
one_of (x ∷ xs) (suc s) p = one_of xs s (omega (arith, p))

-- the same set stands for the same fetches
set_same : (one two : Set) (past : List ℕ) (s : ℕ) → one.next ≡ two.next → one.masks ≡ two.masks → one.tags ≡ two.tags
    → SetHolds two past s → SetHolds one past s
set_same one two past s next masks tags h =
    let lines : line_in two ≡ line_in one = λ k w. if slice_index (sym masks k) w == 0 then None else Some (slice_index (sym tags k) w) in
    let words : word_in two ≡ word_in one = λ k w j. is_set (slice_index (sym masks k) w) j in
    record {
      ring = subst (λ f. GoesRound one.next f (allocated past s)) lines (subst (λ n. GoesRound n (line_in two) (allocated past s)) (sym next) h.ring);
      apart = subst Apart lines h.apart;
      words = subst (λ f. ValidWhereResident f (word_in one) past) lines (subst (λ f. ValidWhereResident (line_in two) f past) words h.words);
    }

-- sets at the same place of two caches are the same
abbrev pub SameSets : LineCache → LineCache → ℕ → Type 0
SameSets cache other n = (s : ℕ) (one two : Set) → s < n → slice_get cache.sets s ≡ Some one → slice_get other.sets s ≡ Some two
    → (one.next ≡ two.next) × (one.masks ≡ two.masks) × (one.tags ≡ two.tags)

module _ (cache other : LineCache) (four : 4 ≤ length cache.sets) (four' : 4 ≤ length other.sets) (same : SameSets cache other 4)
    (past past' : List ℕ) (h : CacheHolds cache past) (h' : CacheHolds other past') where
  -- a set of the one stands for both
  both_hold : (s : ℕ) → s < 4 → (set : Set) × SetHolds set past s × SetHolds set past' s
  both_hold s p =
      let one = one_of cache.sets s (omega (arith, p, four)) in
      let two = one_of other.sets s (omega (arith, p, four')) in
      let e = same s one.0 two.0 p one.1 two.1 in
      (one.0, h s one.0 one.1, set_same one.0 two.0 past' s e.0 e.1 e.2 (h' s two.0 two.1))

  pub caches_alike : AnswerAlike past past'
  caches_alike = answers_from past past' (record {
    lines = λ l. let b = both_hold (set_of l) (omega arith) in same_lines b.0 past past' (set_of l) b.1 b.2;
    words = λ a held. let b = both_hold (set_of (line_of a)) (omega arith) in same_words b.0 past past' (set_of (line_of a)) b.1 b.2 a refl held;
  })

-- a cache and itself
same_place : (cache : LineCache) → SameSets cache cache 4
same_place cache s one two p at at' = let e : one ≡ two = let f : Some one ≡ Some two = sym at ∙ at' in cc in
    (ap (λ x. x.next) e, ap (λ x. x.masks) e, ap (λ x. x.tags) e)

pub cache_alike : (cache : LineCache) (past past' : List ℕ) → length cache.sets ≡ 4 → CacheHolds cache past → CacheHolds cache past'
    → AnswerAlike past past'
cache_alike cache past past' four h h' =
    let most : 4 ≤ length cache.sets = omega (arith, four) in caches_alike cache cache most most (same_place cache) past past' h h'
