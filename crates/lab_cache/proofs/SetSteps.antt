-- What a visit makes of a set.
use Rattle.std.proofs.Common.{◌≡◌, ◌≢◌, ℕ, zero, suc, ◌+◌, ◌-◌, ◌^◌, ◌<◌, Bool, true, false, cond, eqb, ◌&&◌, ◌||◌, List, [], ◌∷◌, ◌++◌, length, get_or, set, Option, Some, None, bit_and, bit_or, count_ones, refl, sym, ◌∙◌, ap, arith}
use Rattle.std.specs.Int.{bit_not, w64}
use Rattle.std.specs.List.{All, list_any, slice_get}
use Rattle.std.proofs.lemmas.Bool.Decides.{nat_tests}
use Rattle.std.proofs.lemmas.List.{length-set}
use Rattle.std.proofs.lemmas.Option.{slice_get-get_or, slice_get_within, get_or_from_slice_get}
use Rattle.lab_terms.specs.declared.geometry.Geometry.{Geometry}
use Rattle.mx_icache.specs.LineSets.{is_set}
use Rattle.mx_icache.proofs.Bits.{is_set-zero}
use Rattle.lab_cache.specs.declared.set.Held.{Held}
use Rattle.lab_cache.specs.declared.set.Set.{Set}
use Rattle.lab_cache.specs.Misses.{IsCache, line_of, group_of, set_of, is_among_last, allocated, is_held, fetched_since, misses_in}
use Rattle.lab_cache.specs.Visits.{IsVisit, gone}
use Rattle.lab_cache.specs.Sets.{PlaceHolds, SetHolds}
use Rattle.lab_cache.proofs.Fetches.{with_line-other, with_line-held, with_line-missed, among_from_place, not_among_from_places, allocated-set, allocated-apart}
use Rattle.lab_cache.proofs.Ones.{is_set-or, all_of}
use Rattle.lab_cache.proofs.Visits.{visit_lines, visit_fetched, visit_others, visit_misses}

pub at_set_same : {X : Type 0} (xs : List X) (i : ℕ) (x y : X) → slice_get (set xs i x) i ≡ Some y → y ≡ x
at_set_same [] i x y h = absurd (cc)
at_set_same (z ∷ xs) zero x y h = cc
at_set_same (z ∷ xs) (suc i) x y h = at_set_same xs i x y h

pub at_set_other : {X : Type 0} (xs : List X) (i j : ℕ) (x : X) → j ≢ i → slice_get (set xs i x) j ≡ slice_get xs j
at_set_other [] i j x ne = refl
at_set_other (z ∷ xs) zero zero x ne = absurd (ne refl)
at_set_other (z ∷ xs) zero (suc j) x ne = refl
at_set_other (z ∷ xs) (suc i) zero x ne = refl
at_set_other (z ∷ xs) (suc i) (suc j) x ne = at_set_other xs i j x (λ e. ne (ap suc e))

-- a set with places alone
abbrev pub IsEmpty : ℕ → Set → Type 0
IsEmpty ways set = (length set.places.items ≡ ways) × All (λ held. held.line ≡ None) set.places.items

pub set_begins : (g : Geometry) (set : Set) (s : ℕ) → IsEmpty g.ways set → SetHolds g set [] s
unfolding allocated
set_begins g set s (ways, empty) = record {
  ways = ways;
  places = λ i held at. let below : i < length set.places.items = slice_get_within set.places.items i held at in
      let none : held.line ≡ None = sym (ap (λ h. h.line) (get_or_from_slice_get set.places.items i held held at)) ∙ empty i held below in record {
        line = none;
        groups = λ l j is small. let bad : None ≡ Some l = sym none ∙ is in absurd (cc);
      };
}

-- what is in a place is among the last allocated in the set
pub line_inside : (g : Geometry) (set : Set) (past : List ℕ) (s i l : ℕ) (held : Held) → SetHolds g set past s → slice_get set.places.items i ≡ Some held
    → held.line ≡ Some l → slice_get (allocated g past s) i ≡ Some l
line_inside g set past s i l held h at is = let place : PlaceHolds g past s i held = h.places i held at in sym place.line ∙ is

within : (g : Geometry) (set : Set) (past : List ℕ) (s i : ℕ) (held : Held) → SetHolds g set past s → slice_get set.places.items i ≡ Some held → i < g.ways
within g set past s i held h at =
    let below : i < length set.places.items = slice_get_within set.places.items i held at in
    let ways : length set.places.items ≡ g.ways = h.ways in omega arith

line_among : (g : Geometry) (set : Set) (past : List ℕ) (s i l : ℕ) (held : Held) → SetHolds g set past s → slice_get set.places.items i ≡ Some held
    → held.line ≡ Some l → is_among_last g (allocated g past s) l ≡ true
line_among g set past s i l held h at is =
    among_from_place g.ways (allocated g past s) i l (within g set past s i held h at) (line_inside g set past s i l held h at is)

-- a line in a place is held, a line in no place is not
pub line_held : (g : Geometry) (set : Set) (past : List ℕ) (l i : ℕ) (held : Held) → SetHolds g set past (set_of g l) → slice_get set.places.items i ≡ Some held
    → held.line ≡ Some l → is_held g past l ≡ true
line_held g set past l i held h at is = line_among g set past (set_of g l) i l held h at is

pub nothing : Held
nothing = record { line = None; valid = 0 }

pub line_absent : (g : Geometry) (set : Set) (past : List ℕ) (l : ℕ) → SetHolds g set past (set_of g l)
    → ((i : ℕ) (held : Held) → slice_get set.places.items i ≡ Some held → held.line ≢ Some l) → is_held g past l ≡ false
line_absent g set past l h none =
    not_among_from_places g.ways (allocated g past (set_of g l)) l (λ i p e.
    let below : i < length set.places.items = let ways : length set.places.items ≡ g.ways = h.ways in omega arith in
    let at : slice_get set.places.items i ≡ Some (get_or set.places.items i nothing) = slice_get-get_or set.places.items i nothing below in
    let place : PlaceHolds g past (set_of g l) i (get_or set.places.items i nothing) = h.places i (get_or set.places.items i nothing) at in
    none i (get_or set.places.items i nothing) at (place.line ∙ e))

-- a visit in another set
pub set_other : (g : Geometry) (set : Set) (past : List ℕ) (s l x : ℕ) (v : List ℕ) → IsCache g → All (λ a. line_of g a ≡ l) (x ∷ v) → set_of g l ≢ s
    → SetHolds g set past s → SetHolds g set (x ∷ v ++ past) s
set_other g set past s l x v is alone ne h = record {
  ways = h.ways;
  places = λ i held at. let place : PlaceHolds g past s i held = h.places i held at in record {
    line = place.line ∙ ap (λ lines. slice_get lines i) (sym (visit_lines g is l past x v alone s ∙ with_line-other g past l s ne));
    groups = λ m j in_it small.
        let of : set_of g m ≡ s = allocated-set g past s m g.ways (line_among g set past s i m held h at in_it) in
        place.groups m j in_it small ∙ sym (visit_others g is l past (x ∷ v) alone m j (λ e. ne (sym (ap (set_of g) e) ∙ of)));
  };
}

-- a visit of a line that is held: its groups become valid
set_touched : (g : Geometry) (set' new : Set) (past : List ℕ) (l i groups x : ℕ) (v : List ℕ) (held : Held) → IsCache g → IsVisit g l groups (x ∷ v)
    → SetHolds g set' past (set_of g l) → slice_get set'.places.items i ≡ Some held → held.line ≡ Some l
    → new.places.items ≡ set set'.places.items i (record { line = held.line; valid = bit_or held.valid groups })
    → SetHolds g new (x ∷ v ++ past) (set_of g l)
set_touched g set' new past l i groups x v held is visit h at here touched = record {
  ways = ap (λ xs. length xs) touched ∙ length-set set'.places.items i filled ∙ h.ways;
  places = λ k one found. elim (eqb k i) as (λ t. eqb k i ≡ t → PlaceHolds g (x ∷ v ++ past) (set_of g l) k one) [
    | true ↦ λ e.
        let place : k ≡ i = grind (arith, nat_tests) in
        let same : one ≡ filled = at_set_same set'.places.items i filled one
        (ap (λ xs. slice_get xs i) (sym touched) ∙ ap (λ n. slice_get new.places.items n) (sym place) ∙ found) in
        let was : PlaceHolds g past (set_of g l) i held = h.places i held at in
        rw (same, place) (record {
          line = was.line ∙ still i;
          groups = λ m j in_it small.
              let own : m ≡ l = let e' : Some m ≡ Some l = sym in_it ∙ here in cc in
              rw own (is_set-or held.valid groups j ∙ ap (λ t. t || is_set groups j) (was.groups l j here small)
              ∙ ap (λ t. fetched_since g past l j || t) (visit.bits j)
              ∙ turned (fetched_since g past l j) (list_any (λ a. eqb (group_of g a) j) (x ∷ v))
              ∙ ap (λ t. list_any (λ a. eqb (group_of g a) j) (x ∷ v) || t && fetched_since g past l j) (sym is_in)
              ∙ sym (visit_fetched g is l past x v visit.alone j));
        })
    | false ↦ λ e.
        let place : k ≢ i = grind (arith, nat_tests) in
        let before : slice_get set'.places.items k ≡ Some one =
        sym (at_set_other set'.places.items i k filled place) ∙ ap (λ xs. slice_get xs k) (sym touched) ∙ found in
        let was : PlaceHolds g past (set_of g l) k one = h.places k one before in
        record {
          line = was.line ∙ still k;
          groups = λ m j in_it small. was.groups m j in_it small ∙ sym (visit_others g is l past (x ∷ v) visit.alone m j
              (λ e'. place (allocated-apart g past (set_of g l) l k i (within g set' past (set_of g l) k one h before)
              (within g set' past (set_of g l) i held h at)
              (line_inside g set' past (set_of g l) k l one h before (in_it ∙ ap Some e')) (line_inside g set' past (set_of g l) i l held h at here))));
        }
  ] refl;
}
  where
    filled : Held
    filled = record { line = held.line; valid = bit_or held.valid groups }

    is_in : is_held g past l ≡ true
    is_in = line_held g set' past l i held h at here

    still : (k : ℕ) → slice_get (allocated g past (set_of g l)) k ≡ slice_get (allocated g (x ∷ v ++ past) (set_of g l)) k
    still k = ap (λ lines. slice_get lines k) (sym (visit_lines g is l past x v visit.alone (set_of g l) ∙ with_line-held g past l (set_of g l) is_in))

    turned : (a b : Bool) → (a || b) ≡ (b || a)
    turned true true = refl
    turned true false = refl
    turned false true = refl
    turned false false = refl

-- a visit has a first fetch
pub by_first : (P : List ℕ → Type 0) (v : List ℕ) → v ≢ [] → ((x : ℕ) (w : List ℕ) → P (x ∷ w)) → P v
by_first P [] some h = absurd (some refl)
by_first P (x ∷ w) some h = h x w

pub set_held : (g : Geometry) (set' new : Set) (past : List ℕ) (l i groups : ℕ) (v : List ℕ) (held : Held) → IsCache g → IsVisit g l groups v
    → SetHolds g set' past (set_of g l) → slice_get set'.places.items i ≡ Some held → held.line ≡ Some l
    → new.places.items ≡ set set'.places.items i (record { line = held.line; valid = bit_or held.valid groups }) → SetHolds g new (v ++ past) (set_of g l)
set_held g set' new past l i groups v held is visit h at here touched =
    by_first (λ w. IsVisit g l groups w → SetHolds g new (w ++ past) (set_of g l)) v visit.some
    (λ x w visit'. set_touched g set' new past l i groups x w held is visit' h at here touched) visit

-- a visit of a line that is not held: it is in the first place, and each other line one further
set_allocated : (g : Geometry) (set new : Set) (past : List ℕ) (l groups x : ℕ) (v : List ℕ) → IsCache g → IsVisit g l groups (x ∷ v)
    → SetHolds g set past (set_of g l) → ((i : ℕ) (held : Held) → slice_get set.places.items i ≡ Some held → held.line ≢ Some l)
    → length new.places.items ≡ length set.places.items
    → ((i : ℕ) → i < length set.places.items → slice_get new.places.items i ≡ slice_get (record { line = Some l; valid = groups } ∷ set.places.items) i)
    → SetHolds g new (x ∷ v ++ past) (set_of g l)
set_allocated g set new past l groups x v is visit h none size moved = record {
  ways = size ∙ h.ways;
  places = λ i one at.
      let below : i < length new.places.items = slice_get_within new.places.items i one at in
      let size' : length new.places.items ≡ length set.places.items = size in
      at_place i one (sym (moved i (omega (arith, below, size'))) ∙ at);
}
  where
    absent : is_held g past l ≡ false
    absent = line_absent g set past l h none

    after : (k : ℕ) → slice_get (l ∷ allocated g past (set_of g l)) k ≡ slice_get (allocated g (x ∷ v ++ past) (set_of g l)) k
    after k = ap (λ lines. slice_get lines k) (sym (visit_lines g is l past x v visit.alone (set_of g l) ∙ with_line-missed g past l absent))

    at_place : (i : ℕ) (one : Held) → slice_get (record { line = Some l; valid = groups } ∷ set.places.items) i ≡ Some one
        → PlaceHolds g (x ∷ v ++ past) (set_of g l) i one
    at_place zero one at =
        let same : one ≡ record { line = Some l; valid = groups } = cc in
        rw same (record {
          line = after 0;
          groups = λ m j in_it small.
              let own : m ≡ l = cc in
              rw own (visit.bits j ∙ no_more (list_any (λ a. eqb (group_of g a) j) (x ∷ v)) (fetched_since g past l j)
              ∙ ap (λ t. list_any (λ a. eqb (group_of g a) j) (x ∷ v) || t && fetched_since g past l j) (sym absent)
              ∙ sym (visit_fetched g is l past x v visit.alone j));
        })
      where
        no_more : (a b : Bool) → a ≡ (a || false && b)
        no_more true b = refl
        no_more false b = refl
    at_place (suc i) one at =
        let was : PlaceHolds g past (set_of g l) i one = h.places i one at in
        record {
          line = was.line ∙ after (suc i);
          groups = λ m j in_it small. was.groups m j in_it small
              ∙ sym (visit_others g is l past (x ∷ v) visit.alone m j (λ e. none i one at (in_it ∙ ap Some e)));
        }

pub set_absent : (g : Geometry) (set new : Set) (past : List ℕ) (l groups : ℕ) (v : List ℕ) → IsCache g → IsVisit g l groups v
    → SetHolds g set past (set_of g l) → ((i : ℕ) (held : Held) → slice_get set.places.items i ≡ Some held → held.line ≢ Some l)
    → length new.places.items ≡ length set.places.items
    → ((i : ℕ) → i < length set.places.items → slice_get new.places.items i ≡ slice_get (record { line = Some l; valid = groups } ∷ set.places.items) i)
    → SetHolds g new (v ++ past) (set_of g l)
set_absent g set new past l groups v is visit h none size moved =
    by_first (λ w. IsVisit g l groups w → SetHolds g new (w ++ past) (set_of g l)) v visit.some
    (λ x w visit'. set_allocated g set new past l groups x w is visit' h none size moved) visit

-- how many groups miss where the line is held, and where it is not
pub touched_misses : (g : Geometry) (set : Set) (past : List ℕ) (l i groups : ℕ) (v : List ℕ) (held : Held) → IsCache g → IsVisit g l groups v
    → SetHolds g set past (set_of g l) → slice_get set.places.items i ≡ Some held → held.line ≡ Some l → held.valid < 2 ^ 64
    → misses_in g (v ++ past) ≡ misses_in g past + count_ones (bit_and groups (bit_not w64 held.valid))
touched_misses g set past l i groups v held is visit h at here small =
    visit_misses g is l past held.valid small (λ j below. let was : PlaceHolds g past (set_of g l) i held = h.places i held at in
    was.groups l j here below ∙ ap (λ t. t && fetched_since g past l j) (sym (line_held g set past l i held h at here))) groups v visit

pub allocated_misses : (g : Geometry) (set : Set) (past : List ℕ) (l groups : ℕ) (v : List ℕ) → IsCache g → IsVisit g l groups v → groups < 2 ^ 64
    → SetHolds g set past (set_of g l) → ((i : ℕ) (held : Held) → slice_get set.places.items i ≡ Some held → held.line ≢ Some l)
    → misses_in g (v ++ past) ≡ misses_in g past + count_ones groups
allocated_misses g set past l groups v is visit small h none =
    visit_misses g is l past 0 (omega arith) (λ j below. is_set-zero j
    ∙ ap (λ t. t && fetched_since g past l j) (sym (line_absent g set past l h none))) groups v visit
    ∙ ap (λ n. misses_in g past + count_ones n) (all_of groups small)

-- which line goes
pub gone_touched : (g : Geometry) (set : Set) (past : List ℕ) (l i : ℕ) (held : Held) → SetHolds g set past (set_of g l)
    → slice_get set.places.items i ≡ Some held → held.line ≡ Some l → None ≡ gone g past l
gone_touched g set past l i held h at here = rw (line_held g set past l i held h at here) refl

pub gone_allocated : (g : Geometry) (set : Set) (past : List ℕ) (l groups : ℕ) (out : Option ℕ) → IsCache g → SetHolds g set past (set_of g l)
    → ((i : ℕ) (held : Held) → slice_get set.places.items i ≡ Some held → held.line ≢ Some l)
    → ((held : Held) → slice_get (record { line = Some l; valid = groups } ∷ set.places.items) (length set.places.items) ≡ Some held → out ≡ held.line)
    → out ≡ gone g past l
gone_allocated g set past l groups out is h none last =
    let some : 0 < g.ways = is.ways in
    let ways : length set.places.items ≡ g.ways = h.ways in
    let size : length set.places.items ≡ suc (g.ways - 1) = omega arith in
    let below : g.ways - 1 < length set.places.items = omega arith in
    let at : slice_get set.places.items (g.ways - 1) ≡ Some (get_or set.places.items (g.ways - 1) nothing) =
    slice_get-get_or set.places.items (g.ways - 1) nothing below in
    let place : PlaceHolds g past (set_of g l) (g.ways - 1) (get_or set.places.items (g.ways - 1) nothing) =
    h.places (g.ways - 1) (get_or set.places.items (g.ways - 1) nothing) at in
    last (get_or set.places.items (g.ways - 1) nothing)
    (ap (λ n. slice_get (record { line = Some l; valid = groups } ∷ set.places.items) n) size ∙ at) ∙ place.line
    ∙ sym (absent_goes (slice_get (allocated g past (set_of g l)) (g.ways - 1)) (line_absent g set past l h none))
  where
    absent_goes : (o : Option ℕ) → is_held g past l ≡ false → cond (is_held g past l) None o ≡ o
    absent_goes o e = rw e refl
