-- What fetches make of caches side by side, and of the visit that goes on.
use Rattle.std.proofs.Common.{◌≡◌, ◌≢◌, ◌⊎◌, inl, inr, ⊎_elim, ℕ, zero, suc, ◌+◌, ◌-◌, ◌*◌, ◌/◌, ◌%◌, ◌^◌, ◌<◌, ◌≤◌, min, Bool, true, false, eqb, ◌||◌, List, [], ◌∷◌, ◌++◌, length, get_or, set, take, Some, bit_or, Vec, Global, subst, refl, sym, ◌∙◌, ap, arith}
use Rattle.std.specs.List.{All, list_any, slice_get}
use Rattle.std.proofs.Math.Nat.{mul-add-mod_self_right, mod-eq_of_lt, mod-lt, div-mul-le_self}
use Rattle.std.proofs.lemmas.Nat.{div-mul-add, div-add-mod'}
use Rattle.std.proofs.lemmas.Bool.Decides.{nat_tests}
use Rattle.std.proofs.lemmas.Option.{slice_get-get_or, slice_get_within, get_or_from_slice_get}
use Rattle.lab_terms.specs.declared.geometry.Geometry.{Geometry}
use Rattle.mx_icache.specs.LineSets.{is_set}
use Rattle.mx_icache.proofs.Bits.{is_set-zero}
use Rattle.lab_cache.specs.declared.quick.QuickCache.{QuickCache}
use Rattle.lab_cache.specs.declared.alike.Caches.{Caches}
use Rattle.lab_cache.specs.declared.alike.Visit.{Visit}
use Rattle.lab_cache.specs.Visits.{IsVisit}
use Rattle.lab_cache.specs.Alike.{AreAlike, AreBits, AreHeld, AllVisits, IsGoing, CachesHold}
use Rattle.lab_cache.proofs.SetSteps.{at_set_same, at_set_other}
use Rattle.lab_cache.proofs.Ones.{same_mask, is_set-or, is_set-pow}

pub at_pushed : {X : Type 0} (xs : List X) (x y : X) (k : ℕ) → slice_get (xs ++ x ∷ []) k ≡ Some y → (slice_get xs k ≡ Some y) ⊎ ((k ≡ length xs) × (y ≡ x))
at_pushed [] x y zero h = inr (refl, cc)
at_pushed [] x y (suc k) h = absurd (cc)
at_pushed (z ∷ xs) x y zero h = inl h
at_pushed (z ∷ xs) x y (suc k) h = ⊎_elim (λ e. inl e) (λ e. inr (ap suc e.0, e.1)) (at_pushed xs x y k h)

none_of : (P : ℕ → Type 0) → All P []
none_of P k d p = absurd (omega arith)

turned : (a b : Bool) → (a || b) ≡ (b || a)
turned true true = refl
turned true false = refl
turned false true = refl
turned false false = refl

-- before the first fetch
pub going_begins : (c : Caches) (gs : List Geometry) (brings : ℕ) → AreAlike c.line brings gs → AreBits c.line brings c.bits.items
    → AreHeld gs c.caches.items []
    → c.visit ≡ record { line = 0; first = 0; groups = 0 } → CachesHold c gs []
going_begins c gs brings alike bits held nowhere = record {
  brings = brings;
  before = [];
  visit = [];
  all = refl;
  going = record {
    alike = alike;
    bits = bits;
    caches = held;
    first = rw nowhere (let none : 0 ≡ 0 * c.line = omega arith in none);
    alone = none_of (λ a. a / c.line ≡ c.visit.line);
    groups = λ j. rw nowhere (is_set-zero j);
  };
}

-- one more fetch in the line that is visited
module _ (c : Caches) (gs : List Geometry) (brings : ℕ) (before visit : List ℕ) (going : IsGoing c gs brings before visit)
    (a bit : ℕ) (within : c.visit.first ≤ a) (at : slice_get c.bits.items (a - c.visit.first) ≡ Some bit) where
  word : ℕ
  word = a - c.visit.first

  below : a - c.visit.first < c.line
  below = let inside : a - c.visit.first < length c.bits.items = slice_get_within c.bits.items (a - c.visit.first) bit at in
      let words : length c.bits.items ≡ c.line = going.bits.words in omega arith

  address : a ≡ c.visit.line * c.line + (a - c.visit.first)
  address = let first : c.visit.first ≡ c.visit.line * c.line = going.first in omega (arith, first, within)

  same_line : a / c.line ≡ c.visit.line
  same_line = ap (λ n. n / c.line) address ∙ div-mul-add c.visit.line c.line (a - c.visit.first) below

  same_word : a % c.line ≡ a - c.visit.first
  same_word = ap (λ n. n % c.line) address ∙ mul-add-mod_self_right c.visit.line c.line (a - c.visit.first) ∙ mod-eq_of_lt below

  same_bit : bit ≡ 2 ^ (a % c.line / brings)
  same_bit = let here : Some bit ≡ Some (2 ^ ((a - c.visit.first) / brings)) = sym at ∙ going.bits.each (a - c.visit.first) below in
      let is : bit ≡ 2 ^ ((a - c.visit.first) / brings) = cc in is ∙ ap (λ n. 2 ^ (n / brings)) (sym same_word)

  pub going_on : IsGoing (record c { visit = record c.visit { groups = bit_or c.visit.groups bit } }) gs brings before (a ∷ visit)
  going_on = record {
    alike = going.alike;
    bits = going.bits;
    caches = going.caches;
    first = going.first;
    alone = all_of;
    groups = λ j. is_set-or c.visit.groups bit j ∙ ap (λ t. t || is_set bit j) (going.groups j)
        ∙ ap (λ n. list_any (λ b. eqb (b % c.line / brings) j) visit || is_set n j) same_bit
        ∙ ap (λ t. list_any (λ b. eqb (b % c.line / brings) j) visit || t) (is_set-pow (a % c.line / brings) j)
        ∙ turned (list_any (λ b. eqb (b % c.line / brings) j) visit) (eqb (a % c.line / brings) j);
  }
    where
      all_of : All (λ b. b / c.line ≡ c.visit.line) (a ∷ visit)
      all_of zero d p = same_line
      all_of (suc k) d p = going.alone k d (omega arith)

-- the first fetch of a visit
pub going_in : (c : Caches) (gs : List Geometry) (brings : ℕ) (before : List ℕ) (a : ℕ) (v : Visit) → IsGoing c gs brings before [] → v.line ≡ a / c.line
    → v.first ≡ v.line * c.line → v.groups ≡ 2 ^ (a % c.line / brings) → IsGoing (record c { visit = v }) gs brings before (a ∷ [])
going_in c gs brings before a v going line first groups = record {
  alike = going.alike;
  bits = going.bits;
  caches = going.caches;
  first = first;
  alone = one_of;
  groups = λ j. ap (λ n. is_set n j) groups ∙ is_set-pow (a % c.line / brings) j ∙ alone_it (eqb (a % c.line / brings) j);
}
  where
    one_of : All (λ b. b / c.line ≡ v.line) (a ∷ [])
    one_of zero d p = sym line
    one_of (suc k) d p = absurd (omega arith)

    alone_it : (t : Bool) → t ≡ (t || false)
    alone_it true = refl
    alone_it false = refl

-- what a visit of these lines is for each of the caches
module _ (c : Caches) (gs : List Geometry) (brings : ℕ) (before visit : List ℕ) (going : IsGoing c gs brings before visit) where
  pub no_visit : c.visit.groups ≡ 0 → visit ≡ []
  no_visit zero_it = empty visit (λ j. sym (going.groups j) ∙ ap (λ n. is_set n j) zero_it ∙ is_set-zero j)
    where
      empty : (v : List ℕ) → ((j : ℕ) → list_any (λ a. eqb (a % c.line / brings) j) v ≡ false) → v ≡ []
      empty [] h = refl
      empty (x ∷ v) h =
          let self : eqb (x % c.line / brings) (x % c.line / brings) ≡ true = grind (arith, nat_tests) in
          let bad : true ≡ false = ap (λ t. t || list_any (λ a. eqb (a % c.line / brings) (x % c.line / brings)) v) (sym self) ∙ h (x % c.line / brings) in
          absurd (cc)

  some_visit : c.visit.groups ≢ 0 → visit ≢ []
  some_visit ne e = ne (same_mask c.visit.groups 0 (λ j. going.groups j ∙ ap (λ v. list_any (λ a. eqb (a % c.line / brings) j) v) e ∙ sym (is_set-zero j)))

  visit_for : c.visit.groups ≢ 0 → (k : ℕ) (g : Geometry) → slice_get gs k ≡ Some g → IsVisit g c.visit.line c.visit.groups visit
  visit_for ne k g at = record {
    some = some_visit ne;
    alone = subst (λ n. All (λ a. a / n ≡ c.visit.line) visit) (sym (going.alike.lines k g at)) going.alone;
    bits = λ j. going.groups j
        ∙ (λ i. list_any (λ a. eqb (a % sym (going.alike.lines k g at) i / sym (going.alike.groups k g at) i) j) visit);
  }

  visited : (caches : List QuickCache) → c.visit.groups ≢ 0 → AllVisits c.caches.items caches c.visit.line c.visit.groups → AreHeld gs caches (visit ++ before)
  visited caches ne visits = record {
    number = visits.number ∙ going.caches.number;
    geometry = λ k quick at. going.caches.geometry k (old k quick at) (was k quick at)
        ∙ ap Some (sym (visits.each k (old k quick at) quick (was k quick at) at).geometry);
    each = λ k quick at. (visits.each k (old k quick at) quick (was k quick at) at).next before visit
        (visit_for ne k (old k quick at).cache.geometry (going.caches.geometry k (old k quick at) (was k quick at)))
        (going.caches.each k (old k quick at) (was k quick at));
  }
    where
      old : (k : ℕ) (quick : QuickCache) → slice_get caches k ≡ Some quick → QuickCache
      old k quick at = get_or c.caches.items k quick

      was : (k : ℕ) (quick : QuickCache) (at : slice_get caches k ≡ Some quick) → slice_get c.caches.items k ≡ Some (old k quick at)
      was k quick at = slice_get-get_or c.caches.items k quick
          (let inside : k < length caches = slice_get_within caches k quick at in
          let same : length caches ≡ length c.caches.items = visits.number in omega arith)

  pub going_left : (caches : Vec QuickCache Global) → c.visit.groups ≢ 0 → AllVisits c.caches.items caches.items c.visit.line c.visit.groups
      → IsGoing (record c { caches = caches; visit = record { line = 0; first = 0; groups = 0 } }) gs brings (visit ++ before) []
  going_left caches ne visits = record {
    alike = going.alike;
    bits = going.bits;
    caches = visited caches.items ne visits;
    first = let none : 0 ≡ 0 * c.line = omega arith in none;
    alone = none_of (λ a. a / c.line ≡ 0);
    groups = λ j. is_set-zero j;
  }

  pub going_still : c.visit.groups ≡ 0 → IsGoing c gs brings (visit ++ before) []
  going_still zero_it =
      subst (λ v. IsGoing c gs brings (v ++ before) []) (sym (no_visit zero_it)) (subst (λ v. IsGoing c gs brings before v) (no_visit zero_it) going)

-- one more took a step
pub one_more : {X : Type 0} (R : X → X → Type 0) (old items : List X) (n : ℕ) (new d : X) → ((k : ℕ) → n ≤ k → slice_get items k ≡ slice_get old k)
    → ((k : ℕ) (one other : X) → k < n → slice_get old k ≡ Some one → slice_get items k ≡ Some other → R one other) → n < length items
    → R (get_or items n d) new → (k : ℕ) (one other : X) → k < n + 1 → slice_get old k ≡ Some one → slice_get (set items n new) k ≡ Some other → R one other
one_more R old items n new d later before within step k one other below at at' =
    elim (eqb k n) as (λ t. eqb k n ≡ t → R one other) [
      | true ↦ λ e.
          let here : k ≡ n = grind (arith, nat_tests) in
          let was : slice_get items n ≡ Some (get_or items n d) = slice_get-get_or items n d within in
          let from : Some one ≡ Some (get_or items n d) = sym at ∙ ap (λ i. slice_get old i) here ∙ sym (later n (omega arith)) ∙ was in
          let same : one ≡ get_or items n d = cc in
          let is : other ≡ new = at_set_same items n new other (ap (λ i. slice_get (set items n new) i) (sym here) ∙ at') in
          rw (same, is) step
      | false ↦ λ e.
          let there : k ≢ n = grind (arith, nat_tests) in
          before k one other (omega arith) at (sym (at_set_other items n k new there) ∙ at')
    ] refl

-- one more empty cache
pub one_more_cache : (gs : List Geometry) (caches : List QuickCache) (new : QuickCache) (g : Geometry) (P : QuickCache → Type 0)
    → ((k : ℕ) (quick : QuickCache) → slice_get caches k ≡ Some quick → (slice_get gs k ≡ Some quick.cache.geometry) × P quick)
    → slice_get gs (length caches) ≡ Some g → new.cache.geometry ≡ g → P new
    → (k : ℕ) (quick : QuickCache) → slice_get (caches ++ new ∷ []) k ≡ Some quick → (slice_get gs k ≡ Some quick.cache.geometry) × P quick
one_more_cache gs caches new g P before at is p k quick at' =
    ⊎_elim (λ e. before k quick e) (λ e. rw (e.0, e.1) (at ∙ ap Some (sym is), p)) (at_pushed caches new quick k at')

pub take_front : {X : Type 0} (xs zs : List X) → take (length xs) (xs ++ zs) ≡ xs
take_front [] zs = refl
take_front (x ∷ xs) zs = ap (λ ys. x ∷ ys) (take_front xs zs)

-- the first address of a line, and the bit of an address in it
pub first_is : (a w line first : ℕ) → line ≡ a / w → a < 2 ^ 32 → first ≡ min (line * w) (2 ^ 32 - 1) → first ≡ line * w
first_is a w line first is small e =
    let at_most : a / w * w ≤ a = div-mul-le_self a w in
    let same : line * w ≡ a / w * w = ap (λ n. n * w) is in omega (arith, at_most, same, small, e)

pub bit_is : (bits : List ℕ) (a w brings line first word groups : ℕ) → 0 < w → AreBits w brings bits → line ≡ a / w → first ≡ line * w → word ≡ a - first
    → groups ≡ get_or bits word 0 → groups ≡ 2 ^ (a % w / brings)
bit_is bits a w brings line first word groups some are is e f g =
    let parts : a / w * w + a % w ≡ a = div-add-mod' a w in
    let same : line * w ≡ a / w * w = ap (λ n. n * w) is in
    let here : word ≡ a % w = omega (arith, parts, same, e, f) in
    g ∙ ap (λ n. get_or bits n 0) here ∙ get_or_from_slice_get bits (a % w) (2 ^ (a % w / brings)) 0 (are.each (a % w) (mod-lt a some))
