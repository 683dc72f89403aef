-- Bins of numbers in order.
use Rattle.std.proofs.Common.{◌≡◌, ◌⊎◌, inl, inr, ℕ, ◌+◌, ◌<◌, ◌≤◌, ℤ, ◌<ℤ◌, List, [], ◌∷◌, ◌++◌, length, take, replicate, All, false, refl, sym, ap, ◌∙◌, subst, append_assoc, arith}
use Rattle.std.specs.Prelude.{slice_index_or, pos}
use Rattle.std.specs.List.{flat_map}
use Rattle.std.specs.List.Sorted.{IsSorted}
use Rattle.std.specs.Ordering.{int_cmp, is_lt}
use Rattle.std.proofs.lemmas.Bool.{true≢false}
use Rattle.std.proofs.lemmas.Cmp.{by_ranked, int_ranked}
use Rattle.std.proofs.lemmas.Int.{ints}
use Rattle.std.proofs.lemmas.List.{append-nil, replicate-append-replicate, take_more, take_all, get_or_default}
use Rattle.std.proofs.lemmas.List.Elements.{All-nil, All-head, All-tail, All-push, All-weaker}
use Rattle.lab_measures.specs.declared.spread.Bin.{Bin}
use Rattle.lab_measures.specs.Spreads.{told_by, Rises, Tells}

-- the bins of the first numbers; the last of these, which the next one is alike, are not in a bin yet
pub record AreBinned (sorted : List ℤ) (at : ℕ) (bins : List Bin) (runs : ℕ) : Type 0 where
  pub numbers : (d : ℤ) → told_by bins ++ replicate runs (slice_index_or sorted at d) ≡ take at sorted
  pub some : All (λ bin. 0 < bin.runs) bins
  pub rising : Rises bins
  pub below : (d : ℤ) → at < length sorted → All (λ bin. bin.number <ℤ slice_index_or sorted at d) bins
  pub ended : length sorted ≤ at → runs ≡ 0

-- a number that is not less than another one, and is not that one
above : (x y : ℤ) → is_lt (int_cmp y x) ≡ false → (y ≡ x → ⊥) → x <ℤ y
above x y h other =
    by_ranked (y <ℤ x) (y ≡ x) (x <ℤ y) (int_cmp y x) (int_ranked y x (int_cmp y x) refl)
    (λ less _. absurd (true≢false (sym (ap is_lt less) ∙ h)))
    (λ _ e. absurd (other e))
    (λ _ greater. greater)

less_less : (x y z : ℤ) → x <ℤ y → y <ℤ z → x <ℤ z
less_less x y z h k = omega (arith, ints)

rises_push : (bins : List Bin) (b : Bin) → Rises bins → All (λ o. o.number <ℤ b.number) bins → Rises (bins ++ b ∷ [])
rises_push [] b rises below = (All-nil (λ (o : Bin). b.number <ℤ o.number), tt)
rises_push (c ∷ bins) b (above_c, rises) below = (
  All-push (λ (o : Bin). c.number <ℤ o.number) bins b above_c (All-head (λ (o : Bin). o.number <ℤ b.number) c bins below),
  rises_push bins b rises (All-tail (λ (o : Bin). o.number <ℤ b.number) c bins below),
)

told_push : (bins : List Bin) (b : Bin) → told_by (bins ++ b ∷ []) ≡ told_by bins ++ replicate b.runs b.number
told_push [] b = append-nil (replicate b.runs b.number)
told_push (c ∷ bins) b = ap (λ xs. replicate c.runs c.number ++ xs) (told_push bins b)
    ∙ sym (append_assoc (replicate c.runs c.number) (told_by bins) (replicate b.runs b.number))

-- one number more that is alike those that are not in a bin yet
one_more : (sorted : List ℤ) (at : ℕ) (bins : List Bin) (runs : ℕ) (d : ℤ) → at < length sorted → AreBinned sorted at bins runs →
    told_by bins ++ replicate (runs + 1) (slice_index_or sorted at d) ≡ take (at + 1) sorted
one_more sorted at bins runs d within h =
    let x : ℤ = slice_index_or sorted at d in
    ap (λ xs. told_by bins ++ xs) (sym (replicate-append-replicate runs 1 x))
    ∙ sym (append_assoc (told_by bins) (replicate runs x) (x ∷ []))
    ∙ ap (λ xs. xs ++ x ∷ []) (h.numbers d)
    ∙ sym (take_more sorted at d within)

binned_on : (sorted : List ℤ) (at : ℕ) (bins : List Bin) (runs : ℕ) → at + 1 < length sorted →
    slice_index_or sorted (at + 1) (pos 0) ≡ slice_index_or sorted at (pos 0) → AreBinned sorted at bins runs → AreBinned sorted (at + 1) bins (runs + 1)
binned_on sorted at bins runs within same h =
    let here : at < length sorted = omega arith in
    let alike : (d : ℤ) → slice_index_or sorted (at + 1) d ≡ slice_index_or sorted at d =
    λ d. get_or_default sorted (at + 1) d (pos 0) within ∙ same ∙ get_or_default sorted at (pos 0) d here in
    record {
      numbers = λ d. ap (λ x. told_by bins ++ replicate (runs + 1) x) (alike d) ∙ one_more sorted at bins runs d here h;
      some = h.some;
      rising = h.rising;
      below = λ d k. subst (λ (x : ℤ). All (λ (bin : Bin). bin.number <ℤ x) bins) (sym (alike d)) (h.below d here);
      ended = λ k. absurd (omega arith);
    }

-- the bin of these numbers, where the next one is another or there is none
binned_next : (sorted : List ℤ) (at : ℕ) (bins : List Bin) (runs : ℕ) (b : Bin) → at < length sorted → IsSorted int_cmp sorted →
    ((d : ℤ) → slice_index_or sorted at d ≡ b.number) →
    b.runs ≡ runs + 1 → ((d : ℤ) → at + 1 < length sorted → slice_index_or sorted (at + 1) d ≡ b.number → ⊥) → AreBinned sorted at bins runs →
    AreBinned sorted (at + 1) (bins ++ b ∷ []) 0
binned_next sorted at bins runs b within in_order is count other h =
    let x : ℤ = b.number in
    record {
      numbers = λ d. append-nil (told_by (bins ++ b ∷ [])) ∙ told_push bins b
          ∙ ap (λ n. told_by bins ++ replicate n x) count
          ∙ ap (λ y. told_by bins ++ replicate (runs + 1) y) (sym (is d)) ∙ one_more sorted at bins runs d within h;
      some = All-push (λ (bin : Bin). 0 < bin.runs) bins b h.some (omega arith);
      rising = rises_push bins b h.rising (subst (λ (y : ℤ). All (λ (bin : Bin). bin.number <ℤ y) bins) (is x) (h.below x within));
      below = λ d k.
          let y : ℤ = slice_index_or sorted (at + 1) d in
          let not_less : is_lt (int_cmp y x) ≡ false = subst (λ (z : ℤ). is_lt (int_cmp y z) ≡ false) (is d) (in_order at d (omega arith) k) in
          let more : x <ℤ y = above x y not_less (other d k) in
          All-push (λ (bin : Bin). bin.number <ℤ y) bins b
          (All-weaker (λ (bin : Bin). bin.number <ℤ x) (λ (bin : Bin). bin.number <ℤ y) (λ bin l. less_less bin.number x y l more) bins
          (subst (λ (z : ℤ). All (λ (bin : Bin). bin.number <ℤ z) bins) (is d) (h.below d within)))
          more;
      ended = λ k. refl;
    }

-- the same of the bins that came about
pub binned_new : (sorted : List ℤ) (at : ℕ) (bins new : List Bin) (runs left : ℕ) (b : Bin) → new ≡ bins ++ b ∷ [] → left ≡ 0 →
    at < length sorted → IsSorted int_cmp sorted →
    b.number ≡ slice_index_or sorted at (pos 0) → b.runs ≡ runs + 1 →
    (at + 1 < length sorted → slice_index_or sorted (at + 1) (pos 0) ≡ slice_index_or sorted at (pos 0) → ⊥) →
    AreBinned sorted at bins runs → AreBinned sorted (at + 1) new left
binned_new sorted at bins new runs left b made none within in_order is count other h =
    subst (λ (n : ℕ). AreBinned sorted (at + 1) new n) (sym none)
    (subst (λ (bs : List Bin). AreBinned sorted (at + 1) bs 0) (sym made)
    (binned_next sorted at bins runs b within in_order
    (λ d. get_or_default sorted at d (pos 0) within ∙ sym is)
    count
    (λ d k e. other k (get_or_default sorted (at + 1) (pos 0) d k ∙ e ∙ is))
    h))

pub binned_same : (sorted : List ℤ) (at : ℕ) (bins new : List Bin) (runs left : ℕ) → new ≡ bins → left ≡ runs + 1 → at + 1 < length sorted →
    slice_index_or sorted (at + 1) (pos 0) ≡ slice_index_or sorted at (pos 0) → AreBinned sorted at bins runs → AreBinned sorted (at + 1) new left
binned_same sorted at bins new runs left kept more within same h =
    subst (λ (n : ℕ). AreBinned sorted (at + 1) new n) (sym more)
    (subst (λ (bs : List Bin). AreBinned sorted (at + 1) bs (runs + 1)) (sym kept) (binned_on sorted at bins runs within same h))

-- all numbers are in bins at the end
pub binned_all : (sorted : List ℤ) (bins : List Bin) (runs : ℕ) (at : ℕ) → length sorted ≤ at → AreBinned sorted at bins runs → Tells bins sorted
binned_all sorted bins runs at past h = record {
  numbers = sym (append-nil (told_by bins))
      ∙ ap (λ (n : ℕ). told_by bins ++ replicate n (slice_index_or sorted at (pos 0))) (sym (h.ended past)) ∙ h.numbers (pos 0) ∙ take_all at sorted past;
  some = h.some;
  rising = h.rising;
}
