-- Walks over statements.
use Rattle.std.proofs.Common.{◌≡◌, ◌≢◌, ◌⊎◌, inl, inr, ⊎_elim, ℕ, ◌+◌, ◌<◌, ◌≤◌, Bool, true, false, List, [], ◌∷◌, ◌++◌, length, Option, Some, None}
use Rattle.std.proofs.Common.{refl, sym, ap, ◌∙◌, subst, arith, set, cond, length-append, length-set, get_or-set_same, get_or-set_other, true≢false}
use Rattle.std.proofs.Common.{get_or, get_or-append-add, not-suc-le-zero, ◌^◌}
use lib.ListN.{get_or-append, get_or-eq_default}
use Rattle.std.specs.Prelude.{count_by, Contains, slice_get, slice_index_or, IfSome}
use Rattle.std.proofs.lemmas.Bool.{cases_eq, cases_lt}
use Rattle.std.proofs.lemmas.List.Elements.{Contains-append_left, Contains-push, at_from_Contains}
use Rattle.std.proofs.lemmas.List.Sums.{sum_by-set, count_by-le-length}
use Rattle.std.proofs.lemmas.Option.{same_Some}
use Rattle.mx_source.specs.declared.statement.Statement.{Statement}
use Rattle.mx_source.specs.declared.statement.Value.TheVariants.{Code}
use Rattle.mx_source.specs.SourceValue.{SourceValue}
use Rattle.lab_terms.specs.Flow.{StaySeen, IsSeen, IsFollowed, IsOrder, HasCome, MayCome, IsAmongWords, IsWalk, AreReached, made_by, ways}

-- nothing new
pub come_none : (kind : ℕ → Type 0) (seen : List Bool) (order : List ℕ) → HasCome kind seen order seen order
come_none kind seen order = record {
  size = refl;
  stays = λ i h. h;
  newly = λ i h. inl h;
  kept = λ k l. refl;
  longer = omega arith;
  once = λ h. h;
}

-- one statement more
module _ (seen : List Bool) (order : List ℕ) (index : ℕ) (within : index < length seen) (fresh : slice_index_or seen index false ≡ false) where
  abbrev pub now : List Bool
  now = set seen index true

  pub set_stays : StaySeen seen now
  set_stays i h = ⊎_elim
      (λ same. ap (λ k. get_or now k false) same ∙ get_or-set_same seen index true false within)
      (λ other. get_or-set_other seen index i true false other ∙ h)
      (cases_eq i index)

  set_newly : (i : ℕ) → get_or now i false ≡ true → (get_or seen i false ≡ true) ⊎ (i ≡ index)
  set_newly i h = ⊎_elim
      (λ same. inr same)
      (λ other. inl (sym (get_or-set_other seen index i true false other) ∙ h))
      (cases_eq i index)

  push_count : length order ≡ count_by (λ b. b) seen → length (order ++ index ∷ []) ≡ count_by (λ b. b) now
  push_count count =
      let more = sum_by-set (λ (b : Bool). cond b 1 0) seen index true false within in
      let none : ◌≡◌ {A = ℕ} (cond (get_or seen index false) 1 0) 0 = ap (λ (b : Bool). cond b 1 0) fresh in
      length-append order (index ∷ []) ∙ omega (arith, more, none, count)

  push_sound : ((k : ℕ) → k < length order → get_or seen (get_or order k 0) false ≡ true)
      → (k : ℕ) → k < length (order ++ index ∷ []) → get_or now (get_or (order ++ index ∷ []) k 0) false ≡ true
  push_sound sound k less = ⊎_elim
      (λ (old : k < length order).
      ap (λ i. get_or now i false) (get_or-append order (index ∷ []) 0 k old) ∙ set_stays _ (sound k old))
      (λ (last : length order ≤ k).
      let size = length-append order (index ∷ []) in
      let at : k ≡ length order + 0 = omega (arith, size, less, last) in
      ap (λ i. get_or now i false) (ap (λ i. get_or (order ++ index ∷ []) i 0) at ∙ get_or-append-add order (index ∷ []) 0 0)
      ∙ get_or-set_same seen index true false within)
      (cases_lt k (length order))

  push_complete : ((i : ℕ) → get_or seen i false ≡ true → Contains order i)
      → (i : ℕ) → get_or now i false ≡ true → Contains (order ++ index ∷ []) i
  push_complete complete i h = ⊎_elim
      (λ before. Contains-append_left order (index ∷ []) i (complete i before))
      (λ same. subst (Contains (order ++ index ∷ [])) (sym same) (Contains-push order index))
      (set_newly i h)

  pub come_one : HasCome (λ i. i ≡ index) seen order now (order ++ index ∷ [])
  come_one = record {
    size = length-set seen index true;
    stays = set_stays;
    newly = set_newly;
    kept = λ k less. get_or-append order (index ∷ []) 0 k less;
    longer = let size = length-append order (index ∷ []) in omega (arith, size);
    once = λ o. record {
      count = push_count o.count;
      sound = push_sound o.sound;
      complete = push_complete o.complete;
    };
  }

-- one after the other
module _ (kind first then : ℕ → Type 0) (seen seen2 seen3 : List Bool) (order order2 order3 : List ℕ) where
  pub come_then : ((i : ℕ) → first i → kind i) → ((i : ℕ) → then i → kind i)
      → HasCome first seen order seen2 order2 → HasCome then seen2 order2 seen3 order3 → HasCome kind seen order seen3 order3
  come_then is_first is_then a b = record {
    size = b.size ∙ a.size;
    stays = λ i h. b.stays i (a.stays i h);
    newly = λ i h. ⊎_elim
        (λ before. ⊎_elim inl (λ f. inr (is_first i f)) (a.newly i before))
        (λ t. inr (is_then i t))
        (b.newly i h);
    kept = λ k less. let longer = a.longer in b.kept k (omega (arith, less, longer)) ∙ a.kept k less;
    longer = let one = a.longer in let two = b.longer in omega (arith, one, two);
    once = λ o. b.once (a.once o);
  }

-- what was come to stays so
pub seen_stays : (seen seen2 : List Bool) (i : ℕ) → length seen2 ≡ length seen → StaySeen seen seen2 → IsSeen seen i → IsSeen seen2 i
seen_stays seen seen2 i size stays is less = stays i (is (omega (arith, size, less)))

pub some_stay : (seen seen2 : List Bool) (o : Option ℕ) → length seen2 ≡ length seen → StaySeen seen seen2
    → IfSome o (IsSeen seen) → IfSome o (IsSeen seen2)
some_stay seen seen2 None size stays is = is
some_stay seen seen2 (Some i) size stays is = seen_stays seen seen2 i size stays is

pub followed_stays : (seen seen2 : List Bool) (i : ℕ) (s : Statement) → length seen2 ≡ length seen → StaySeen seen seen2
    → IsFollowed seen i s → IsFollowed seen2 i s
followed_stays seen seen2 i s size stays is = record {
  on = λ on room. seen_stays seen seen2 (i + 1) size stays (is.on on room);
  target = some_stay seen seen2 (ways s).target size stays is.target;
  made = some_stay seen seen2 (made_by s) size stays is.made;
}

seen_within : (seen : List Bool) (i : ℕ) → get_or seen i false ≡ true → i < length seen
seen_within seen i h = ⊎_elim
    (λ less. less)
    (λ past. absurd (true≢false (sym h ∙ get_or-eq_default seen false past)))
    (cases_lt i (length seen))

pub in_set : (seen : List Bool) (size i : ℕ) → length seen ≡ size → IsSeen seen i → i < size → get_or seen i false ≡ true
in_set seen size i e is less = is (omega (arith, e, less))

-- where a run may go from a statement of a closed set, it stays in the set
stays_in : (other : List Bool) (size index i : ℕ) (s : Statement) → length other ≡ size → size ≤ 20000 → index < size → i < size
    → IsFollowed other index s → MayCome index s i → get_or other i false ≡ true
stays_in other size index i s each few within less is may = ⊎_elim
    (λ on.
    let next : i ≡ index + 1 = let e = on.1 in omega (arith, e, few, within) in
    let room : index + 1 < 2 ^ 32 = omega (arith, few, within) in
    subst (λ k. get_or other k false ≡ true) (sym next)
    (in_set other size (index + 1) each (is.on on.0 room) (omega (arith, next, less))))
    (λ far. ⊎_elim
    (λ target. in_set other size i each (subst (λ o. IfSome o (IsSeen other)) target is.target) less)
    (λ made. in_set other size i each (subst (λ o. IfSome o (IsSeen other)) made is.made) less)
    far)
    may

module _ (source : SourceValue) (seen : List Bool) (order : List ℕ) (n : ℕ) (w : IsWalk source seen order n) where
  -- the next statement was followed
  pub walk_on : (seen2 : List Bool) (order2 : List ℕ) (index : ℕ) (s : Statement) → length source.statements ≤ 20000
      → n < length order → get_or order n 0 ≡ index → slice_get source.statements index ≡ Some s
      → HasCome (MayCome index s) seen order seen2 order2 → IsFollowed seen2 index s → IsWalk source seen2 order2 (n + 1)
  walk_on seen2 order2 index s few more at there come is = record {
    each = come.size ∙ w.each;
    once = come.once w.once;
    first = seen_stays seen seen2 0 come.size come.stays w.first;
    words = λ k i e. seen_stays seen seen2 i come.size come.stays (w.words k i e);
    followed = λ k t less within e. ⊎_elim
        (λ (before : k < n).
        let old : k < length order = omega (arith, before, more) in
        let same = come.kept k old in
        subst (λ i. IsFollowed seen2 i t) (sym same)
        (followed_stays seen seen2 (get_or order k 0) t come.size come.stays
        (w.followed k t before old (sym (ap (slice_get source.statements) same) ∙ e))))
        (λ (last : n ≤ k).
        let now : k ≡ n = omega (arith, last, less) in
        let same : get_or order2 k 0 ≡ index = ap (λ i. get_or order2 i 0) now ∙ come.kept n more ∙ at in
        let one : s ≡ t = same_Some _ _ (sym there ∙ sym (ap (slice_get source.statements) same) ∙ e) in
        subst (λ i. IsFollowed seen2 i t) (sym same) (subst (IsFollowed seen2 index) one is))
        (cases_lt k n);
    least = λ other closed i h. ⊎_elim
        (w.least other closed i)
        (λ may.
        let known = ap (λ i. get_or seen i false) (sym at) ∙ w.once.sound n more in
        let inside : index < length source.statements =
        let a = seen_within seen index known in let b = w.each in omega (arith, a, b) in
        let within : i < length source.statements =
        let a = seen_within seen2 i h in let b = come.size in let c = w.each in omega (arith, a, b, c) in
        stays_in other (length source.statements) index i s closed.each few inside within
        (closed.followed index s (w.least other closed index known) there) may)
        (come.newly i h);
  }

  -- there is a statement of that index
  pub nth_within : n < length order → get_or order n 0 < length source.statements
  nth_within more =
      let a = seen_within seen (get_or order n 0) (w.once.sound n more) in
      let b = w.each in
      omega (arith, a, b)

  -- all were followed
  pub walk_ends : length order ≤ n → AreReached source seen
  walk_ends all = record {
    closed = record {
      each = w.each;
      first = w.first;
      words = w.words;
      followed = λ i s h e.
          let known = at_from_Contains order i (w.once.complete i h) in
          let same = known.2 0 in
          subst (λ k. IsFollowed seen k s) same
          (w.followed known.0 s (let less = known.1 in omega (arith, less, all)) known.1 (ap (slice_get source.statements) same ∙ e));
    };
    least = w.least;
  }

  -- as many steps as there are statements are enough
  pub walk_enough : length source.statements ≤ n → AreReached source seen
  walk_enough steps = walk_ends
      (let a = w.once.count in let b = count_by-le-length (λ (b : Bool). b) seen in let c = w.each in omega (arith, a, b, c, steps))

-- a walk that has come to the first statement and to those at code addresses among the data
pub walk_begins : (source : SourceValue) (seen seen2 seen3 : List Bool) (order order2 order3 : List ℕ)
    → length seen ≡ length source.statements → ((i : ℕ) → get_or seen i false ≡ false) → IsOrder seen order
    → HasCome (λ i. i ≡ 0) seen order seen2 order2 → IsSeen seen2 0
    → HasCome (IsAmongWords source.user_data) seen2 order2 seen3 order3
    → ((k index : ℕ) → slice_get source.user_data k ≡ Some (Code index) → IsSeen seen3 index)
    → IsWalk source seen3 order3 0
walk_begins source seen seen2 seen3 order order2 order3 each none is first at come those = record {
  each = come.size ∙ first.size ∙ each;
  once = come.once (first.once is);
  first = seen_stays seen2 seen3 0 come.size come.stays at;
  words = those;
  followed = λ k s less within e. absurd (not-suc-le-zero less);
  least = λ other closed i h.
      let inside : i < length other =
      let a = seen_within seen3 i h in let b = come.size in let c = first.size in let d = closed.each in omega (arith, a, b, c, d, each) in
      ⊎_elim
      (λ before. ⊎_elim
      (λ never. absurd (true≢false (sym never ∙ none i)))
      (λ zero. subst (λ k. get_or other k false ≡ true) (sym zero) (closed.first (subst (λ k. k < length other) zero inside)))
      (first.newly i before))
      (λ word. closed.words word.0 i word.1 inside)
      (come.newly i h);
}
