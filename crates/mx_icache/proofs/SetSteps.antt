-- What a fetch makes of a set of a line cache.
use Rattle.std.proofs.Common.{◌≡◌, ◌≢◌, ℕ, ◌+◌, ◌*◌, ◌/◌, ◌%◌, ◌<◌, Bool, true, false, eqb, ◌||◌, List, ◌∷◌, Option, Some, sym, ◌∙◌, arith}
use Rattle.mx_icache.specs.declared.line_set.Set.{Set}
use Rattle.mx_icache.specs.Residency.{line_of, set_of, allocated, is_held, missed_since, resident}
use Rattle.mx_icache.specs.LineSets.{line_in, word_in, GoesRound, SetHolds}
use Rattle.mx_icache.specs.Places.{Apart, ValidWhereResident}
use Rattle.mx_icache.proofs.Steps.{allocated-other, allocated-held, allocated-missed}
use Rattle.mx_icache.proofs.Lines.{Inside, words_other, words_hit, words_filled, words_allocated, apart_allocated, missed_here}
use Rattle.mx_icache.proofs.Ring.{ring_inside, ring_absent, ring_more}

pub set_inside : (set : Set) (past : List ℕ) (s : ℕ) → SetHolds set past s → Inside (line_in set) past s
set_inside set past s h = λ w l p at. ring_inside set.next (line_in set) (allocated past s) h.ring w l p at

-- a line in a way is held, a line in no way is not
pub line_held : (set : Set) (past : List ℕ) (l w : ℕ) → SetHolds set past (set_of l) → w < 8 → line_in set w ≡ Some l → is_held past l ≡ true
line_held set past l w h p at = set_inside set past (set_of l) h w l p at

pub line_absent : (set : Set) (past : List ℕ) (l : ℕ) → SetHolds set past (set_of l) → ((w : ℕ) → w < 8 → line_in set w ≢ Some l) → is_held past l ≡ false
line_absent set past l h none = ring_absent set.next (line_in set) (allocated past (set_of l)) l h.ring none

-- a fetch in another set
pub set_other : (set : Set) (a : ℕ) (past : List ℕ) (s : ℕ) → set_of (line_of a) ≢ s → SetHolds set past s → SetHolds set (a ∷ past) s
set_other set a past s ne h = record {
  ring = rw (allocated-other a past s ne) h.ring;
  apart = h.apart;
  words = words_other (line_in set) (word_in set) a past s ne (set_inside set past s h) h.words;
}

ring_same : (next after : ℕ) (line new : ℕ → Option ℕ) (lines others : List ℕ) → after ≡ next → new ≡ line → others ≡ lines → GoesRound next line lines
    → GoesRound after new others
ring_same next after line new lines others e f g h = rw (e, f, g) h

apart_same : (line new : ℕ → Option ℕ) → new ≡ line → Apart line → Apart new
apart_same line new e h = rw e h

words_same : (line new : ℕ → Option ℕ) (word : ℕ → ℕ → Bool) (past : List ℕ) → new ≡ line → ValidWhereResident line word past → ValidWhereResident new word past
words_same line new word past e h = rw e h

pub word_here : (set : Set) (past : List ℕ) (a w : ℕ) → SetHolds set past (set_of (line_of a)) → w < 8 → line_in set w ≡ Some (line_of a)
    → word_in set w (a % 16) ≡ resident past a
word_here set past a w h p at = let address : 16 * line_of a + a % 16 ≡ a = omega arith in rw address at (h.words w (line_of a) (a % 16) p at (omega arith))

-- a valid word behind an address, in its line, is resident
pub word_in_line : (set : Set) (past : List ℕ) (a j w : ℕ) → SetHolds set past (set_of (line_of a)) → w < 8 → line_in set w ≡ Some (line_of a)
    → a % 16 + j < 16 → word_in set w (a % 16 + j) ≡ true → resident past (a + j) ≡ true
word_in_line set past a j w h p at inside valid =
    let address : 16 * line_of a + (a % 16 + j) ≡ a + j = omega arith in
    rw address at (sym (h.words w (line_of a) (a % 16 + j) p at inside) ∙ valid)

-- a fetch of a valid word
pub set_hit : (set : Set) (a : ℕ) (past : List ℕ) (w : ℕ) → SetHolds set past (set_of (line_of a)) → w < 8 → line_in set w ≡ Some (line_of a)
    → word_in set w (a % 16) ≡ true → SetHolds set (a ∷ past) (set_of (line_of a))
set_hit set a past w h p at valid =
    let held : is_held past (line_of a) ≡ true = line_held set past (line_of a) w h p at in
    let missed : missed_since past a ≡ true = missed_here past a true held (sym (word_here set past a w h p at) ∙ valid) in
    record {
      ring = rw (allocated-held a past (set_of (line_of a)) held) h.ring;
      apart = h.apart;
      words = words_hit (line_in set) (word_in set) a past (set_of (line_of a)) held missed (set_inside set past (set_of (line_of a)) h) h.words;
    }

-- a fetch of a word that is not valid, in a line that is held
pub set_filled : (set new : Set) (a : ℕ) (past : List ℕ) (w : ℕ) → SetHolds set past (set_of (line_of a)) → w < 8 → line_in set w ≡ Some (line_of a)
    → word_in set w (a % 16) ≡ false
    → new.next ≡ set.next → ((v : ℕ) → line_in new v ≡ line_in set v) → ((j : ℕ) → word_in new w j ≡ (eqb (a % 16 / 2) (j / 2) || word_in set w j))
    → ((v j : ℕ) → v ≢ w → word_in new v j ≡ word_in set v j)
    → SetHolds new (a ∷ past) (set_of (line_of a))
set_filled set new a past w h p at invalid next lines filled others =
    let held : is_held past (line_of a) ≡ true = line_held set past (line_of a) w h p at in
    let missing : missed_since past a ≡ false = missed_here past a false held (sym (word_here set past a w h p at) ∙ invalid) in
    let same : line_in new ≡ line_in set = λ i v. lines v i in
    record {
      ring = ring_same set.next new.next (line_in set) (line_in new) (allocated past (set_of (line_of a))) (allocated (a ∷ past) (set_of (line_of a))) next same
          (allocated-held a past (set_of (line_of a)) held) h.ring;
      apart = apart_same (line_in set) (line_in new) same h.apart;
      words = words_same (line_in set) (line_in new) (word_in new) (a ∷ past) same
          (words_filled (line_in set) (word_in set) (word_in new) a past (set_of (line_of a)) w p at held missing (λ j q. filled j)
          (λ v j q ne k. others v j ne) (set_inside set past (set_of (line_of a)) h) h.apart h.words);
    }

-- a fetch in a line that is not held
pub set_allocated : (set new : Set) (a : ℕ) (past : List ℕ) → SetHolds set past (set_of (line_of a)) → ((w : ℕ) → w < 8 → line_in set w ≢ Some (line_of a))
    → new.next ≡ (set.next + 1) % 8 → line_in new set.next ≡ Some (line_of a) → ((j : ℕ) → word_in new set.next j ≡ eqb (a % 16 / 2) (j / 2))
    → ((w : ℕ) → w ≢ set.next → line_in new w ≡ line_in set w) → ((w j : ℕ) → w ≢ set.next → word_in new w j ≡ word_in set w j)
    → SetHolds new (a ∷ past) (set_of (line_of a))
set_allocated set new a past h none next line word lines words =
    let missing : is_held past (line_of a) ≡ false = line_absent set past (line_of a) h none in
    let more : GoesRound new.next (line_in new) (allocated (a ∷ past) (set_of (line_of a))) =
    rw (allocated-missed a past missing)
    (ring_more set.next new.next (line_in set) (line_in new) (allocated past (set_of (line_of a))) (line_of a) h.ring next line lines) in
    let inside : Inside (line_in set) past (set_of (line_of a)) = set_inside set past (set_of (line_of a)) h in
    record {
      ring = more;
      apart = apart_allocated (line_in set) (line_in new) a past set.next (λ w. w) (λ w p ne. p) (λ u w p q e. e) missing line
          (λ w p ne. lines w ne) inside h.apart;
      words = words_allocated (line_in set) (line_in new) (word_in set) (word_in new) a past set.next (λ w. w) (λ w p ne. p) missing line (λ w p ne. lines w ne)
          (λ j q. word j) (λ w j p ne q. words w j ne) inside
          (λ w l p at. ring_inside new.next (line_in new) (allocated (a ∷ past) (set_of (line_of a))) more w l p at) h.words;
    }
