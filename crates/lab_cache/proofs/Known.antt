-- What a visit makes of what is known of a cache.
use Rattle.std.proofs.Common.{◌≡◌, ◌≢◌, ℕ, zero, suc, ◌+◌, ◌-◌, ◌<◌, Bool, true, false, cond, eqb, ◌&&◌, ◌||◌, List, [], ◌∷◌, ◌++◌, get_or, set, Option, Some, None, IfSome, IfNone, bit_or, subst, refl, sym, ◌∙◌, ap, arith}
use Rattle.std.specs.List.{All, list_any, slice_get}
use Rattle.std.proofs.lemmas.Bool.{and_parts}
use Rattle.std.proofs.lemmas.Bool.Decides.{nat_tests}
use Rattle.lab_terms.specs.declared.geometry.Geometry.{Geometry}
use Rattle.lab_terms.specs.Geometries.{saturated}
use Rattle.mx_icache.specs.LineSets.{is_set}
use Rattle.mx_icache.proofs.Bits.{is_set-zero}
use Rattle.lab_cache.specs.declared.set.Set.{Set}
use Rattle.lab_cache.specs.declared.quick.QuickCache.{QuickCache}
use Rattle.lab_cache.specs.Misses.{IsCache, line_of, group_of, set_of, is_among_last, allocated, is_held, fetched_since, resident_in, misses_in}
use Rattle.lab_cache.specs.Visits.{IsVisit, gone}
use Rattle.lab_cache.specs.Sets.{PlaceHolds, SetHolds, CacheHolds}
use Rattle.lab_cache.specs.Quick.{QuickHolds, Visits}
use Rattle.lab_cache.proofs.Fetches.{with_line, with_line-other, with_line-held, with_line-missed, among_from_place, place_from_among, misses_in-cons}
use Rattle.lab_cache.proofs.Ones.{is_set-or}
use Rattle.lab_cache.proofs.Visits.{visit_lines, visit_holds, visit_fetched, visit_others, visit_resident}
use Rattle.lab_cache.proofs.SetSteps.{by_first}

-- a visit of words that are resident changes nothing
module _ (g : Geometry) (is : IsCache g) (l : ℕ) (past : List ℕ) (held : is_held g past l ≡ true) where
  abbrev Known : List ℕ → Type 0
  Known v = (j : ℕ) → list_any (λ a. eqb (group_of g a) j) v ≡ true → fetched_since g past l j ≡ true

  idle_lines : (x : ℕ) (v : List ℕ) → All (λ a. line_of g a ≡ l) (x ∷ v) → (s : ℕ) → allocated g (x ∷ v ++ past) s ≡ allocated g past s
  idle_lines x v alone s = visit_lines g is l past x v alone s ∙ with_line-held g past l s held

  absorbed : (a b : Bool) → (a ≡ true → b ≡ true) → (a || true && b) ≡ b
  absorbed true b h = sym (h refl)
  absorbed false b h = refl

  idle_words : (x : ℕ) (v : List ℕ) → All (λ a. line_of g a ≡ l) (x ∷ v) → Known (x ∷ v) → (m j : ℕ)
      → fetched_since g (x ∷ v ++ past) m j ≡ fetched_since g past m j
  idle_words x v alone known m j = elim (eqb m l) as (λ t. eqb m l ≡ t → fetched_since g (x ∷ v ++ past) m j ≡ fetched_since g past m j) [
    | true ↦ λ e. let same : m ≡ l = grind (arith, nat_tests) in
        rw same (visit_fetched g is l past x v alone j
        ∙ ap (λ t. list_any (λ a. eqb (group_of g a) j) (x ∷ v) || t && fetched_since g past l j) held
        ∙ absorbed (list_any (λ a. eqb (group_of g a) j) (x ∷ v)) (fetched_since g past l j) (known j))
    | false ↦ λ e. let other : m ≢ l = grind (arith, nat_tests) in visit_others g is l past (x ∷ v) alone m j other
  ] refl

  either : (a b : Bool) → b ≡ true → (a || true && b) ≡ true
  either true b h = refl
  either false b h = h

  idle_misses : (v : List ℕ) → All (λ a. line_of g a ≡ l) v → Known v → misses_in g (v ++ past) ≡ misses_in g past
  idle_misses [] alone known = refl
  idle_misses (x ∷ v) alone known =
      let here : line_of g x ≡ l = alone 0 0 (omega arith) in
      let rest : All (λ a. line_of g a ≡ l) v = λ k d p. alone (suc k) d (omega arith) in
      let self : eqb (group_of g x) (group_of g x) ≡ true = grind (arith, nat_tests) in
      let valid : fetched_since g past l (group_of g x) ≡ true =
      known (group_of g x) (ap (λ t. t || list_any (λ a. eqb (group_of g a) (group_of g x)) v) self) in
      let there : resident_in g (v ++ past) x ≡ true = visit_resident g is l past x v rest here
      ∙ ap (λ t. list_any (λ a. eqb (group_of g a) (group_of g x)) v || t && fetched_since g past l (group_of g x)) held
      ∙ either (list_any (λ a. eqb (group_of g a) (group_of g x)) v) (fetched_since g past l (group_of g x)) valid in
      misses_in-cons g x (v ++ past) ∙ ap (λ t. misses_in g (v ++ past) + cond t 0 1) there
      ∙ zero_more (misses_in g (v ++ past)) ∙ idle_misses v rest (λ j any. known j (later (eqb (group_of g x) j) (list_any (λ a. eqb (group_of g a) j) v) any))
    where
      zero_more : (n : ℕ) → n + 0 ≡ n
      zero_more n = omega arith

      later : (a b : Bool) → b ≡ true → (a || b) ≡ true
      later true b h = refl
      later false b h = h

  idle_set : (set : Set) (s x : ℕ) (v : List ℕ) → All (λ a. line_of g a ≡ l) (x ∷ v) → Known (x ∷ v) → SetHolds g set past s → SetHolds g set (x ∷ v ++ past) s
  idle_set set s x v alone known h = record {
    ways = h.ways;
    places = λ i one at. let was : PlaceHolds g past s i one = h.places i one at in record {
      line = was.line ∙ ap (λ lines. slice_get lines i) (sym (idle_lines x v alone s));
      groups = λ m j in_it small. was.groups m j in_it small ∙ sym (idle_words x v alone known m j);
    };
  }

pub idle : (quick : QuickCache) (past : List ℕ) (l groups x : ℕ) (v : List ℕ) → IsVisit quick.cache.geometry l groups (x ∷ v) → QuickHolds quick past
    → ((j : ℕ) → is_set groups j ≡ true → is_set (get_or quick.known.items l 0) j ≡ true) → QuickHolds quick (x ∷ v ++ past)
idle quick past l groups x v visit h known = record {
  is = h.is;
  cache = record {
    sets = h.cache.sets;
    each = λ s one at. idle_set g h.is l past held one s x v visit.alone all (h.cache.each s one at);
    misses = h.cache.misses ∙ ap saturated (sym (idle_misses g h.is l past held (x ∷ v) visit.alone all));
  };
  known = λ m j e. let was : (is_held g past m && fetched_since g past m j) ≡ true = h.known m j e in
      (λ k. is_among_last g (idle_lines g h.is l past held x v visit.alone (set_of g m) k) m && idle_words g h.is l past held x v visit.alone all m j k) ∙ was;
}
  where
    g : Geometry
    g = quick.cache.geometry

    valid : (j : ℕ) → list_any (λ a. eqb (group_of g a) j) (x ∷ v) ≡ true → (is_held g past l && fetched_since g past l j) ≡ true
    valid j any = h.known l j (known j (visit.bits j ∙ any))

    first : (is_held g past l && fetched_since g past l (group_of g x)) ≡ true
    first = let self : eqb (group_of g x) (group_of g x) ≡ true = grind (arith, nat_tests) in
        valid (group_of g x) (ap (λ t. t || list_any (λ a. eqb (group_of g a) (group_of g x)) v) self)

    held : is_held g past l ≡ true
    held = (and_parts (is_held g past l) (fetched_since g past l (group_of g x)) first).0

    all : (j : ℕ) → list_any (λ a. eqb (group_of g a) j) (x ∷ v) ≡ true → fetched_since g past l j ≡ true
    all j any = (and_parts (is_held g past l) (fetched_since g past l j) (valid j any)).1

pub idle_visits : (quick : QuickCache) (l groups : ℕ) → ((j : ℕ) → is_set groups j ≡ true → is_set (get_or quick.known.items l 0) j ≡ true)
    → Visits quick quick l groups
idle_visits quick l groups known = record {
  geometry = refl;
  next = λ past v visit h. by_first (λ w. IsVisit quick.cache.geometry l groups w → QuickHolds quick (w ++ past)) v visit.some
      (λ x w visit'. idle quick past l groups x w visit' h known) visit;
}

-- a line that is held stays so, but for the one that goes
module _ (g : Geometry) (past : List ℕ) (l m : ℕ) (other : m ≢ l) (held : is_held g past m ≡ true) (remains : gone g past l ≢ Some m) where
  in_new_set : is_held g past l ≡ false → set_of g l ≡ set_of g m → is_among_last g (l ∷ allocated g past (set_of g l)) m ≡ true
  in_new_set absent same =
      let place = place_from_among g.ways (allocated g past (set_of g l)) m (rw same held) in
      let below : place.0 < g.ways = place.1 in
      let goes : gone g past l ≡ slice_get (allocated g past (set_of g l)) (g.ways - 1) =
      goes_as (slice_get (allocated g past (set_of g l)) (g.ways - 1)) absent in
      let before : place.0 ≢ g.ways - 1 = λ e. remains (goes ∙ ap (λ i. slice_get (allocated g past (set_of g l)) i) (sym e) ∙ place.2) in
      among_from_place g.ways (l ∷ allocated g past (set_of g l)) (suc place.0) m (omega (arith, below, before)) place.2
    where
      goes_as : (o : Option ℕ) → is_held g past l ≡ false → cond (is_held g past l) None o ≡ o
      goes_as o e = rw e refl

  stays : is_among_last g (with_line g past l (set_of g m)) m ≡ true
  stays = elim (eqb (set_of g l) (set_of g m)) as (λ t. eqb (set_of g l) (set_of g m) ≡ t → is_among_last g (with_line g past l (set_of g m)) m ≡ true) [
    | true ↦ λ e. let same : set_of g l ≡ set_of g m = grind (arith, nat_tests) in
        elim (is_held g past l) as (λ t. is_held g past l ≡ t → is_among_last g (with_line g past l (set_of g m)) m ≡ true) [
          | true ↦ λ f. rw (with_line-held g past l (set_of g m) f) held
          | false ↦ λ f. subst (λ s. is_among_last g (with_line g past l s) m ≡ true) same (rw (with_line-missed g past l f) (in_new_set f same))
        ] refl
    | false ↦ λ e. let apart : set_of g l ≢ set_of g m = grind (arith, nat_tests) in rw (with_line-other g past l (set_of g m) apart) held
  ] refl

-- the cache took a visit: of its line the groups are known too, and nothing of the line that went
pub record IsAsked (old new : QuickCache) (l groups : ℕ) (went : Option ℕ) : Type 0 where
  pub geometry : new.cache.geometry ≡ old.cache.geometry
  pub next : (past visit : List ℕ) → IsCache old.cache.geometry → IsVisit old.cache.geometry l groups visit → CacheHolds old.cache past
      → CacheHolds new.cache (visit ++ past)
  pub out : (past : List ℕ) → IsCache old.cache.geometry → CacheHolds old.cache past → went ≡ gone old.cache.geometry past l
  pub own : (j : ℕ) → is_set (get_or new.known.items l 0) j ≡ true → is_set (bit_or (get_or old.known.items l 0) groups) j ≡ true
  pub none : (m : ℕ) → m ≢ l → went ≡ Some m → get_or new.known.items m 0 ≡ 0
  pub others : (m : ℕ) → m ≢ l → went ≢ Some m → get_or new.known.items m 0 ≡ get_or old.known.items m 0

module _ (old new : QuickCache) (l groups : ℕ) (out : Option ℕ) (asked : IsAsked old new l groups out) where
  abbrev g : Geometry
  g = old.cache.geometry

  known_own : (past : List ℕ) (x : ℕ) (v : List ℕ) → IsVisit g l groups (x ∷ v) → QuickHolds old past → (j : ℕ) → is_set (get_or new.known.items l 0) j ≡ true
      → (is_held g (x ∷ v ++ past) l && fetched_since g (x ∷ v ++ past) l j) ≡ true
  known_own past x v visit h j e =
      (λ k. visit_holds g h.is l past x v visit.alone k && visit_fetched g h.is l past x v visit.alone j k)
      ∙ joined (is_set (get_or old.known.items l 0) j) (list_any (λ a. eqb (group_of g a) j) (x ∷ v)) (is_held g past l && fetched_since g past l j)
      (ap (λ t. is_set (get_or old.known.items l 0) j || t) (sym (visit.bits j)) ∙ sym (is_set-or (get_or old.known.items l 0) groups j) ∙ asked.own j e)
      (λ k. h.known l j k)
    where
      joined : (k a b : Bool) → (k || a) ≡ true → (k ≡ true → b ≡ true) → (true && (a || b)) ≡ true
      joined k true b e h = refl
      joined true false b e h = h refl
      joined false false b e h = absurd (cc)

  known_other : (past : List ℕ) (x : ℕ) (v : List ℕ) → IsVisit g l groups (x ∷ v) → QuickHolds old past → (m j : ℕ) → m ≢ l
      → is_set (get_or new.known.items m 0) j ≡ true → (is_held g (x ∷ v ++ past) m && fetched_since g (x ∷ v ++ past) m j) ≡ true
  known_other past x v visit h m j other e =
      let remains : out ≢ Some m = λ goes. nothing j (ap (λ n. is_set n j) (sym (asked.none m other goes)) ∙ e) in
      let was : (is_held g past m && fetched_since g past m j) ≡ true =
      h.known m j (ap (λ n. is_set n j) (sym (asked.others m other remains)) ∙ e) in
      let parts = and_parts (is_held g past m) (fetched_since g past m j) was in
      let still : is_held g (x ∷ v ++ past) m ≡ true =
      ap (λ lines. is_among_last g lines m) (visit_lines g h.is l past x v visit.alone (set_of g m))
      ∙ stays g past l m other parts.0 (λ goes. remains (asked.out past h.is h.cache ∙ goes)) in
      (λ k. still k && visit_others g h.is l past (x ∷ v) visit.alone m j other k) ∙ parts.1
    where
      nothing : (j : ℕ) → is_set 0 j ≡ true → ⊥
      nothing j k = let bad : false ≡ true = sym (is_set-zero j) ∙ k in absurd (cc)

  known_after : (past : List ℕ) (x : ℕ) (v : List ℕ) → IsVisit g l groups (x ∷ v) → QuickHolds old past → (m j : ℕ)
      → is_set (get_or new.known.items m 0) j ≡ true → (is_held g (x ∷ v ++ past) m && fetched_since g (x ∷ v ++ past) m j) ≡ true
  known_after past x v visit h m j e =
      elim (eqb m l) as (λ t. eqb m l ≡ t → (is_held g (x ∷ v ++ past) m && fetched_since g (x ∷ v ++ past) m j) ≡ true) [
        | true ↦ λ f. let same : m ≡ l = grind (arith, nat_tests) in
            rw same (known_own past x v visit h j (ap (λ n. is_set (get_or new.known.items n 0) j) (sym same) ∙ e))
        | false ↦ λ f. let other : m ≢ l = grind (arith, nat_tests) in known_other past x v visit h m j other e
      ] refl

  pub asked_visits : Visits old new l groups
  asked_visits = record {
    geometry = asked.geometry;
    next = λ past v visit h. by_first (λ w. IsVisit g l groups w → QuickHolds new (w ++ past)) v visit.some
        (λ x w visit'. record {
          is = rw (asked.geometry) (h.is);
          cache = asked.next past (x ∷ w) h.is visit' h.cache;
          known = λ m j e. rw (asked.geometry) (known_after past x w visit' h m j e);
        }) visit;
  }

no_groups : (xs : List ℕ) → All (λ k. k ≡ 0) xs → (i : ℕ) → get_or xs i 0 ≡ 0
no_groups [] h i = refl
no_groups (x ∷ xs) h zero = h 0 0 (omega arith)
no_groups (x ∷ xs) h (suc i) = no_groups xs (λ k d p. h (suc k) d (omega arith)) i

pub quick_begins : (quick : QuickCache) → IsCache quick.cache.geometry → CacheHolds quick.cache [] → All (λ k. k ≡ 0) quick.known.items → QuickHolds quick []
quick_begins quick is cache none = record {
  is = is;
  cache = cache;
  known = λ l j e. let bad : false ≡ true = sym (is_set-zero j) ∙ ap (λ m. is_set m j) (sym (no_groups quick.known.items none l)) ∙ e in absurd (cc);
}

pub row_own : (xs : List ℕ) (i v j : ℕ) → is_set (get_or (set xs i v) i 0) j ≡ true → is_set v j ≡ true
row_own [] i v j e = let bad : false ≡ true = sym (is_set-zero j) ∙ e in absurd (cc)
row_own (x ∷ xs) zero v j e = e
row_own (x ∷ xs) (suc i) v j e = row_own xs i v j e

row_none : (xs : List ℕ) (i : ℕ) → get_or (set xs i 0) i 0 ≡ 0
row_none [] i = refl
row_none (x ∷ xs) zero = refl
row_none (x ∷ xs) (suc i) = row_none xs i

row_other : (xs : List ℕ) (i k v : ℕ) → k ≢ i → get_or (set xs i v) k 0 ≡ get_or xs k 0
row_other [] i k v ne = refl
row_other (x ∷ xs) zero zero v ne = absurd (ne refl)
row_other (x ∷ xs) zero (suc k) v ne = refl
row_other (x ∷ xs) (suc i) zero v ne = refl
row_other (x ∷ xs) (suc i) (suc k) v ne = row_other xs i k v (λ e. ne (ap suc e))

-- the rows once a line went and another is noted
pub gone_row : (xs mid : List ℕ) (went : Option ℕ) (l v m : ℕ) → IfSome went (λ k. mid ≡ set xs k 0) → m ≢ l → went ≡ Some m → get_or (set mid l v) m 0 ≡ 0
gone_row xs mid went l v m some ne e =
    let forgot : mid ≡ set xs m 0 = subst (λ o. IfSome o (λ k. mid ≡ set xs k 0)) e some in
    row_other mid l m v ne ∙ ap (λ ys. get_or ys m 0) forgot ∙ row_none xs m

pub other_row : (xs mid : List ℕ) (went : Option ℕ) (l v m : ℕ) → IfSome went (λ k. mid ≡ set xs k 0) → IfNone went (mid ≡ xs) → m ≢ l → went ≢ Some m
    → get_or (set mid l v) m 0 ≡ get_or xs m 0
other_row xs mid None l v m some none ne other = row_other mid l m v ne ∙ ap (λ ys. get_or ys m 0) none
other_row xs mid (Some k) l v m some none ne other =
    row_other mid l m v ne ∙ ap (λ ys. get_or ys m 0) some ∙ row_other xs k m 0 (λ e. other (ap Some (sym e)))
