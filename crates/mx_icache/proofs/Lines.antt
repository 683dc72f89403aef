-- The lines of a set in their places, and the words of each, told from the addresses fetched so far. A cache keeps them as it likes.
use Rattle.std.proofs.Common.{◌≡◌, ◌≢◌, ℕ, ◌+◌, ◌*◌, ◌/◌, ◌%◌, ◌<◌, Bool, true, false, eqb, ◌||◌, List, ◌∷◌, Option, Some, refl, sym, ◌∙◌, ap, arith, ◌&&◌}
use Rattle.std.proofs.lemmas.Bool.Decides.{nat_tests}
use Rattle.mx_icache.specs.Residency.{line_of, set_of, is_among_last, allocated, is_held, missed_since, resident}
use Rattle.mx_icache.specs.Places.{Apart, ValidWhereResident}
use Rattle.mx_icache.proofs.Steps.{near, near_word, allocated-other, allocated-held, missed_since-other, missed_since-resident, missed_since-filled, missed_since-allocated, allocated-set}

-- every line in a place is among the last allocated in the set
abbrev pub Inside : (ℕ → Option ℕ) → List ℕ → ℕ → Type 0
Inside line past s = (w l : ℕ) → w < 8 → line w ≡ Some l → is_among_last (allocated past s) l ≡ true

line_of-word : (l j : ℕ) → j < 16 → line_of (16 * l + j) ≡ l
line_of-word l j h = omega arith

-- where the line of an address is held, it missed since where it is resident
pub missed_here : (past : List ℕ) (a : ℕ) (v : Bool) → is_held past (line_of a) ≡ true → resident past a ≡ v → missed_since past a ≡ v
missed_here past a v held e = sym (ap (λ t. t && missed_since past a) held) ∙ e

-- where the line of a word is held, the word is resident where it missed since
resident_here : (past : List ℕ) (s l j : ℕ) → set_of l ≡ s → is_among_last (allocated past s) l ≡ true → j < 16
    → resident past (16 * l + j) ≡ missed_since past (16 * l + j)
resident_here past s l j same among small =
    let line : line_of (16 * l + j) ≡ l = line_of-word l j small in
    let held : is_held past (line_of (16 * l + j)) ≡ true = rw (line, same) among in
    rw held refl

-- a fetch in another set
pub words_other : (line : ℕ → Option ℕ) (word : ℕ → ℕ → Bool) (a : ℕ) (past : List ℕ) (s : ℕ) → set_of (line_of a) ≢ s → Inside line past s
    → ValidWhereResident line word past → ValidWhereResident line word (a ∷ past)
words_other line word a past s ne inside words w l j p at q =
    let among : is_among_last (allocated past s) l ≡ true = inside w l p at in
    let same : set_of l ≡ s = allocated-set past s l 8 among in
    let still : is_among_last (allocated (a ∷ past) s) l ≡ true = rw (allocated-other a past s ne) among in
    let elsewhere : line_of a ≢ line_of (16 * l + j) = λ e. ne (ap set_of (e ∙ line_of-word l j q) ∙ same) in
    words w l j p at q ∙ resident_here past s l j same among q ∙ sym (missed_since-other a past (16 * l + j) elsewhere)
    ∙ sym (resident_here (a ∷ past) s l j same still q)

-- a fetch of a resident word
pub words_hit : (line : ℕ → Option ℕ) (word : ℕ → ℕ → Bool) (a : ℕ) (past : List ℕ) (s : ℕ) → is_held past (line_of a) ≡ true → missed_since past a ≡ true
    → Inside line past s → ValidWhereResident line word past → ValidWhereResident line word (a ∷ past)
words_hit line word a past s held valid inside words w l j p at q =
    let among : is_among_last (allocated past s) l ≡ true = inside w l p at in
    let same : set_of l ≡ s = allocated-set past s l 8 among in
    let still : is_among_last (allocated (a ∷ past) s) l ≡ true = rw (allocated-held a past s held) among in
    words w l j p at q ∙ resident_here past s l j same among q ∙ sym (missed_since-resident a past (16 * l + j) held valid)
    ∙ sym (resident_here (a ∷ past) s l j same still q)

-- a fetch of a word that is not valid in a held line: in the line's place the word and its pair become valid
pub words_filled : (line : ℕ → Option ℕ) (word new : ℕ → ℕ → Bool) (a : ℕ) (past : List ℕ) (s v : ℕ) → v < 8 → line v ≡ Some (line_of a)
    → is_held past (line_of a) ≡ true → missed_since past a ≡ false
    → ((j : ℕ) → j < 16 → new v j ≡ (eqb (a % 16 / 2) (j / 2) || word v j)) → ((w j : ℕ) → w < 8 → w ≢ v → j < 16 → new w j ≡ word w j)
    → Inside line past s → Apart line → ValidWhereResident line word past → ValidWhereResident line new (a ∷ past)
words_filled line word new a past s v small here held missing filled others inside apart words w l j p at q =
    elim (eqb w v) as (λ t. eqb w v ≡ t → new w j ≡ resident (a ∷ past) (16 * l + j)) [
      | true ↦ λ e.
          let place : w ≡ v = grind (arith, nat_tests) in
          let found : Some l ≡ Some (line_of a) = sym at ∙ ap line place ∙ here in
          let is : l ≡ line_of a = cc in
          let address : 16 * l + a % 16 ≡ a = omega arith in
          let pair : near a (16 * l + j) ≡ eqb (a % 16 / 2) (j / 2) = rw address at (near_word l (a % 16) j (omega arith) q) in
          let word_was : word v j ≡ missed_since past (16 * l + j) =
          ap (λ u. word u j) (sym place) ∙ words w l j p at q ∙ resident_here past s l j same among q in
          ap (λ u. new u j) place ∙ filled j q ∙ ap (λ t. t || word v j) (sym pair) ∙ ap (λ t. near a (16 * l + j) || t) word_was
          ∙ sym (missed_since-filled a past (16 * l + j) held missing) ∙ sym (resident_here (a ∷ past) s l j same still q)
      | false ↦ λ e.
          let place : w ≢ v = grind (arith, nat_tests) in
          let elsewhere : line_of a ≢ line_of (16 * l + j) = λ k. place (apart w v l p small at (here ∙ ap Some (k ∙ line_of-word l j q))) in
          others w j p place q ∙ words w l j p at q ∙ resident_here past s l j same among q ∙ sym (missed_since-other a past (16 * l + j) elsewhere)
          ∙ sym (resident_here (a ∷ past) s l j same still q)
    ] refl
  where
    among : is_among_last (allocated past s) l ≡ true
    among = inside w l p at

    same : set_of l ≡ s
    same = allocated-set past s l 8 among

    still : is_among_last (allocated (a ∷ past) s) l ≡ true
    still = rw (allocated-held a past s held) among

-- a line that is allocated into a place, with the word and its pair valid; what is in another place afterwards came from the place that `from` says
pub words_allocated : (line after : ℕ → Option ℕ) (word new : ℕ → ℕ → Bool) (a : ℕ) (past : List ℕ) (v : ℕ) (from : ℕ → ℕ)
    → ((w : ℕ) → w < 8 → w ≢ v → from w < 8) → is_held past (line_of a) ≡ false
    → after v ≡ Some (line_of a) → ((w : ℕ) → w < 8 → w ≢ v → after w ≡ line (from w))
    → ((j : ℕ) → j < 16 → new v j ≡ eqb (a % 16 / 2) (j / 2)) → ((w j : ℕ) → w < 8 → w ≢ v → j < 16 → new w j ≡ word (from w) j)
    → Inside line past (set_of (line_of a)) → Inside after (a ∷ past) (set_of (line_of a)) → ValidWhereResident line word past
    → ValidWhereResident after new (a ∷ past)
words_allocated line after word new a past v from below missing here kept pair others inside still words w l j p at q =
    elim (eqb w v) as (λ t. eqb w v ≡ t → new w j ≡ resident (a ∷ past) (16 * l + j)) [
      | true ↦ λ e.
          let place : w ≡ v = grind (arith, nat_tests) in
          let found : Some l ≡ Some (line_of a) = sym at ∙ ap after place ∙ here in
          let is : l ≡ line_of a = cc in
          let address : 16 * l + a % 16 ≡ a = omega arith in
          let both : near a (16 * l + j) ≡ eqb (a % 16 / 2) (j / 2) = rw address at (near_word l (a % 16) j (omega arith) q) in
          ap (λ u. new u j) place ∙ pair j q ∙ sym both ∙ sym (missed_since-allocated a past (16 * l + j) missing (sym is ∙ sym (line_of-word l j q)))
          ∙ sym (resident_here (a ∷ past) s l j same among q)
      | false ↦ λ e.
          let place : w ≢ v = grind (arith, nat_tests) in
          let was : line (from w) ≡ Some l = sym (kept w p place) ∙ at in
          let before : is_among_last (allocated past s) l ≡ true = inside (from w) l (below w p place) was in
          let elsewhere : line_of a ≢ line_of (16 * l + j) = λ k. new_line l (k ∙ line_of-word l j q) before in
          others w j p place q ∙ words (from w) l j (below w p place) was q ∙ resident_here past s l j same before q
          ∙ sym (missed_since-other a past (16 * l + j) elsewhere) ∙ sym (resident_here (a ∷ past) s l j same among q)
    ] refl
  where
    s : ℕ
    s = set_of (line_of a)

    among : is_among_last (allocated (a ∷ past) s) l ≡ true
    among = still w l p at

    same : set_of l ≡ s
    same = allocated-set (a ∷ past) s l 8 among

    new_line : (m : ℕ) → line_of a ≡ m → is_among_last (allocated past s) m ≡ true → ⊥
    new_line m e h = let bad : true ≡ false = sym h ∙ ap (λ x. is_among_last (allocated past s) x) (sym e) ∙ missing in absurd (cc)

-- it is in no other place
pub apart_allocated : (line after : ℕ → Option ℕ) (a : ℕ) (past : List ℕ) (v : ℕ) (from : ℕ → ℕ) → ((w : ℕ) → w < 8 → w ≢ v → from w < 8)
    → ((u w : ℕ) → u ≢ v → w ≢ v → from u ≡ from w → u ≡ w)
    → is_held past (line_of a) ≡ false → after v ≡ Some (line_of a) → ((w : ℕ) → w < 8 → w ≢ v → after w ≡ line (from w))
    → Inside line past (set_of (line_of a)) → Apart line → Apart after
apart_allocated line after a past v from below single missing here kept inside apart u w l p q at at' =
    elim (eqb u v) as (λ t. eqb u v ≡ t → u ≡ w) [
      | true ↦ λ e. let place : u ≡ v = grind (arith, nat_tests) in
          elim (eqb w v) as (λ t. eqb w v ≡ t → u ≡ w) [
            | true ↦ λ e'. grind (arith, nat_tests)
            | false ↦ λ e'. let other : w ≢ v = grind (arith, nat_tests) in
                absurd (not_in (from w) (below w q other) (sym (kept w q other) ∙ at' ∙ sym (sym here ∙ sym (ap after place) ∙ at)))
          ] refl
      | false ↦ λ e. let place : u ≢ v = grind (arith, nat_tests) in
          elim (eqb w v) as (λ t. eqb w v ≡ t → u ≡ w) [
            | true ↦ λ e'. let other : w ≡ v = grind (arith, nat_tests) in
                absurd (not_in (from u) (below u p place) (sym (kept u p place) ∙ at ∙ sym (sym here ∙ sym (ap after other) ∙ at')))
            | false ↦ λ e'. let other : w ≢ v = grind (arith, nat_tests) in
                single u w place other (apart (from u) (from w) l (below u p place) (below w q other) (sym (kept u p place) ∙ at) (sym (kept w q other) ∙ at'))
          ] refl
    ] refl
  where
    not_in : (x : ℕ) → x < 8 → line x ≡ Some (line_of a) → ⊥
    not_in x small e = let bad : true ≡ false = sym (inside x (line_of a) small e) ∙ missing in absurd (cc)
