-- What a fetch makes of a set of a plain cache.
use Rattle.std.proofs.Common.{◌≡◌, ◌≢◌, ℕ, zero, suc, ◌+◌, ◌-◌, ◌*◌, ◌/◌, ◌%◌, ◌<◌, ◌≤◌, Bool, true, false, eqb, ◌||◌, List, [], ◌∷◌, length, take, map, Option, Some, None, option_map, refl, sym, ◌∙◌, ap, arith}
use Rattle.std.specs.List.{list_any, slice_get}
use Rattle.std.proofs.lemmas.Bool.Decides.{nat_tests}
use Rattle.std.proofs.lemmas.Option.{slice_get-map}
use Rattle.mx_icache.specs.declared.plain_set.PlainSet.{PlainSet}
use Rattle.mx_icache.specs.Residency.{line_of, set_of, allocated, is_held, missed_since, resident}
use Rattle.mx_icache.specs.Places.{Apart, ValidWhereResident}
use Rattle.mx_icache.specs.PlainSets.{line_at, word_at, PlainSetHolds}
use Rattle.mx_icache.proofs.Steps.{allocated-other, allocated-held, allocated-missed}
use Rattle.mx_icache.proofs.Lines.{Inside, words_other, words_hit, words_filled, words_allocated, apart_allocated, missed_here}

among_from_get : (xs : List ℕ) (i l : ℕ) → slice_get xs i ≡ Some l → list_any (λ m. eqb m l) xs ≡ true
among_from_get [] i l h = absurd (cc)
among_from_get (x ∷ xs) zero l h = let same : x ≡ l = cc in let test : eqb x l ≡ true = grind (arith, nat_tests) in rw test refl
among_from_get (x ∷ xs) (suc i) l h = let rest : list_any (λ m. eqb m l) xs ≡ true = among_from_get xs i l h in
    either (eqb x l) (list_any (λ m. eqb m l) xs) rest
  where
    either : (v w : Bool) → w ≡ true → (v || w) ≡ true
    either true w e = refl
    either false w e = e

not_among_from_get : (n : ℕ) (xs : List ℕ) (l : ℕ) → length xs ≤ n → ((i : ℕ) → i < n → slice_get xs i ≢ Some l) → list_any (λ m. eqb m l) xs ≡ false
not_among_from_get n [] l short h = refl
not_among_from_get zero (x ∷ xs) l short h = absurd (omega arith)
not_among_from_get (suc n) (x ∷ xs) l short h =
    let first : x ≢ l = λ e. h 0 (omega arith) (ap Some e) in
    let test : eqb x l ≡ false = grind (arith, nat_tests) in
    let rest : list_any (λ m. eqb m l) xs ≡ false = not_among_from_get n xs l (omega arith) (λ i p. h (suc i) (omega arith)) in
    rw (test, rest) refl

length-take-le : (n : ℕ) (xs : List ℕ) → length (take n xs) ≤ n
length-take-le zero xs = omega arith
length-take-le (suc n) [] = omega arith
length-take-le (suc n) (x ∷ xs) = let rest : length (take n xs) ≤ n = length-take-le n xs in omega arith

-- the line at a place of the list, as a place of the last lines allocated
line_is : (set : PlainSet) (past : List ℕ) (s i : ℕ) → PlainSetHolds set past s → slice_get (take 8 (allocated past s)) i ≡ line_at set i
line_is set past s i h = ap (λ ls. slice_get ls i) (sym h.lines) ∙ slice_get-map (λ h. h.line) set.lines.items i

pub plain_inside : (set : PlainSet) (past : List ℕ) (s : ℕ) → PlainSetHolds set past s → Inside (line_at set) past s
plain_inside set past s h = λ i l p at. among_from_get (take 8 (allocated past s)) i l (line_is set past s i h ∙ at)

pub plain_absent : (set : PlainSet) (past : List ℕ) (l : ℕ) → PlainSetHolds set past (set_of l) → ((i : ℕ) → i < 8 → line_at set i ≢ Some l)
    → is_held past l ≡ false
plain_absent set past l h none =
    not_among_from_get 8 (take 8 (allocated past (set_of l))) l (length-take-le 8 (allocated past (set_of l)))
    (λ i p e. none i p (sym (line_is set past (set_of l) i h) ∙ e))

-- a fetch in another set
pub plain_other : (set : PlainSet) (a : ℕ) (past : List ℕ) (s : ℕ) → set_of (line_of a) ≢ s → PlainSetHolds set past s → PlainSetHolds set (a ∷ past) s
plain_other set a past s ne h = record {
  lines = rw (allocated-other a past s ne) h.lines;
  apart = h.apart;
  words = words_other (line_at set) (word_at set) a past s ne (plain_inside set past s h) h.words;
}

word_here : (set : PlainSet) (past : List ℕ) (a i : ℕ) → PlainSetHolds set past (set_of (line_of a)) → i < 8 → line_at set i ≡ Some (line_of a)
    → word_at set i (a % 16) ≡ resident past a
word_here set past a i h p at = let address : 16 * line_of a + a % 16 ≡ a = omega arith in rw address at (h.words i (line_of a) (a % 16) p at (omega arith))

-- a fetch of a valid word
pub plain_hit : (set : PlainSet) (a : ℕ) (past : List ℕ) (i : ℕ) → PlainSetHolds set past (set_of (line_of a)) → i < 8 → line_at set i ≡ Some (line_of a)
    → word_at set i (a % 16) ≡ true → PlainSetHolds set (a ∷ past) (set_of (line_of a))
plain_hit set a past i h p at valid =
    let held : is_held past (line_of a) ≡ true = plain_inside set past (set_of (line_of a)) h i (line_of a) p at in
    let missed : missed_since past a ≡ true = missed_here past a true held (sym (word_here set past a i h p at) ∙ valid) in
    record {
      lines = rw (allocated-held a past (set_of (line_of a)) held) h.lines;
      apart = h.apart;
      words = words_hit (line_at set) (word_at set) a past (set_of (line_of a)) held missed (plain_inside set past (set_of (line_of a)) h) h.words;
    }

apart_same : (line new : ℕ → Option ℕ) → new ≡ line → Apart line → Apart new
apart_same line new e h = rw e h

words_same : (line new : ℕ → Option ℕ) (word : ℕ → ℕ → Bool) (past : List ℕ) → new ≡ line → ValidWhereResident line word past → ValidWhereResident new word past
words_same line new word past e h = rw e h

lines_same : (set new : PlainSet) → map (λ h. h.line) new.lines.items ≡ map (λ h. h.line) set.lines.items → line_at new ≡ line_at set
lines_same set new e = λ t i. let at : line_at new i ≡ line_at set i =
    sym (slice_get-map (λ h. h.line) new.lines.items i) ∙ ap (λ ls. slice_get ls i) e ∙ slice_get-map (λ h. h.line) set.lines.items i in at t

-- a fetch of a word that is not valid, in a line that is held
pub plain_filled : (set new : PlainSet) (a : ℕ) (past : List ℕ) (i : ℕ) → PlainSetHolds set past (set_of (line_of a)) → i < 8 → line_at set i ≡ Some (line_of a)
    → word_at set i (a % 16) ≡ false
    → map (λ h. h.line) new.lines.items ≡ map (λ h. h.line) set.lines.items
    → ((j : ℕ) → j < 16 → word_at new i j ≡ (eqb (a % 16 / 2) (j / 2) || word_at set i j)) → ((v j : ℕ) → v ≢ i → word_at new v j ≡ word_at set v j)
    → PlainSetHolds new (a ∷ past) (set_of (line_of a))
plain_filled set new a past i h p at invalid lines filled others =
    let held : is_held past (line_of a) ≡ true = plain_inside set past (set_of (line_of a)) h i (line_of a) p at in
    let missing : missed_since past a ≡ false = missed_here past a false held (sym (word_here set past a i h p at) ∙ invalid) in
    let same : line_at new ≡ line_at set = lines_same set new lines in
    record {
      lines = lines ∙ rw (allocated-held a past (set_of (line_of a)) held) h.lines;
      apart = apart_same (line_at set) (line_at new) same h.apart;
      words = words_same (line_at set) (line_at new) (word_at new) (a ∷ past) same
          (words_filled (line_at set) (word_at set) (word_at new) a past (set_of (line_of a)) i p at held missing filled (λ v j q ne k. others v j ne)
          (plain_inside set past (set_of (line_of a)) h) h.apart h.words);
    }

take-take : (n : ℕ) (xs : List ℕ) → take n (take (suc n) xs) ≡ take n xs
take-take zero xs = refl
take-take (suc n) [] = refl
take-take (suc n) (x ∷ xs) = ap (λ ys. x ∷ ys) (take-take n xs)

map-take : {X Y : Type 0} (f : X → Y) (n : ℕ) (xs : List X) → map f (take n xs) ≡ take n (map f xs)
map-take f zero xs = refl
map-take f (suc n) [] = refl
map-take f (suc n) (x ∷ xs) = ap (λ ys. f x ∷ ys) (map-take f n xs)

slice_get-take : {X : Type 0} (n i : ℕ) (xs : List X) → i < n → slice_get (take n xs) i ≡ slice_get xs i
slice_get-take zero i xs h = absurd (omega arith)
slice_get-take (suc n) i [] h = refl
slice_get-take (suc n) zero (x ∷ xs) h = refl
slice_get-take (suc n) (suc i) (x ∷ xs) h = slice_get-take n i xs (omega arith)

-- a fetch in a line that is not held
pub plain_allocated : (set new : PlainSet) (a : ℕ) (past : List ℕ) → PlainSetHolds set past (set_of (line_of a))
    → ((i : ℕ) → i < 8 → line_at set i ≢ Some (line_of a))
    → map (λ h. h.line) new.lines.items ≡ line_of a ∷ map (λ h. h.line) (take 7 set.lines.items)
    → ((j : ℕ) → j < 16 → word_at new 0 j ≡ eqb (a % 16 / 2) (j / 2)) → ((i j : ℕ) → i < 7 → word_at new (suc i) j ≡ word_at set i j)
    → PlainSetHolds new (a ∷ past) (set_of (line_of a))
plain_allocated set new a past h none lines word words =
    let s : ℕ = set_of (line_of a) in
    let missing : is_held past (line_of a) ≡ false = plain_absent set past (line_of a) h none in
    let rest : map (λ h. h.line) (take 7 set.lines.items) ≡ take 7 (allocated past (set_of (line_of a))) =
    map-take (λ h. h.line) 7 set.lines.items ∙ ap (λ ls. take 7 ls) h.lines ∙ take-take 7 (allocated past (set_of (line_of a))) in
    let all : map (λ h. h.line) new.lines.items ≡ take 8 (allocated (a ∷ past) (set_of (line_of a))) =
    rw (allocated-missed a past missing) (lines ∙ ap (λ ls. line_of a ∷ ls) rest) in
    let first : line_at new 0 ≡ Some (line_of a) = sym (slice_get-map (λ h. h.line) new.lines.items 0) ∙ ap (λ ls. slice_get ls 0) lines in
    let inside : Inside (line_at set) past (set_of (line_of a)) = plain_inside set past (set_of (line_of a)) h in
    let still : Inside (line_at new) (a ∷ past) (set_of (line_of a)) =
    λ i l p at. among_from_get (take 8 (allocated (a ∷ past) (set_of (line_of a)))) i l
    (ap (λ ls. slice_get ls i) (sym all) ∙ slice_get-map (λ h. h.line) new.lines.items i ∙ at) in
    record {
      lines = all;
      apart = apart_allocated (line_at set) (line_at new) a past 0 (λ i. i - 1) (λ w p ne. omega arith)
          (λ u w p q e. omega arith) missing first later inside h.apart;
      words = words_allocated (line_at set) (line_at new) (word_at set) (word_at new) a past 0 (λ i. i - 1)
          (λ w p ne. omega arith) missing first later word others inside still h.words;
    }
  where
    later_at : (i : ℕ) → i < 7 → line_at new (suc i) ≡ line_at set i
    later_at i p = sym (slice_get-map (λ h. h.line) new.lines.items (suc i)) ∙ ap (λ ls. slice_get ls (suc i)) lines
        ∙ slice_get-map (λ h. h.line) (take 7 set.lines.items) i ∙ ap (λ o. option_map (λ h. h.line) o) (slice_get-take 7 i set.lines.items p)

    later : (w : ℕ) → w < 8 → w ≢ 0 → line_at new w ≡ line_at set (w - 1)
    later zero p ne = absurd (ne refl)
    later (suc i) p ne = let back : suc i - 1 ≡ i = omega arith in rw back (later_at i (omega arith))

    others : (w j : ℕ) → w < 8 → w ≢ 0 → j < 16 → word_at new w j ≡ word_at set (w - 1) j
    others zero j p ne q = absurd (ne refl)
    others (suc i) j p ne q = let back : suc i - 1 ≡ i = omega arith in rw back (words i j (omega arith))

-- a set without a line, before the first fetch
pub plain_begins : (set : PlainSet) (s : ℕ) → ((i : ℕ) → line_at set i ≡ None) → PlainSetHolds set [] s
unfolding allocated
plain_begins set s none = record {
  lines = empty_from_get (map (λ h. h.line) set.lines.items) (slice_get-map (λ h. h.line) set.lines.items 0 ∙ none 0);
  apart = λ v w l p q at at'. let bad : None ≡ Some l = sym (none v) ∙ at in absurd (cc);
  words = λ w l j p at q. let bad : None ≡ Some l = sym (none w) ∙ at in absurd (cc);
}
  where
    empty_from_get : (xs : List ℕ) → slice_get xs 0 ≡ None → xs ≡ []
    empty_from_get [] h = refl
    empty_from_get (x ∷ xs) h = absurd (cc)
