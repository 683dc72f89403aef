-- Pairs of cycles, one after the other.
use Rattle.std.proofs.Common.{◌≡◌, ℕ, ◌+◌, ◌<◌, ◌≤◌, Bool, true, false, cond, List, [], ◌∷◌, ◌++◌, length, take, drop, append_assoc, append-nil, refl, sym, ap, ◌∙◌}
use Rattle.std.specs.Prelude.{ltb, map, slice_index_or}
use Rattle.std.specs.List.{filter}
use Rattle.std.proofs.lemmas.List.{at_drop_more, drop_all, take_more, take_all}
use Rattle.lab_measures.specs.declared.row.Row.{Row}
use Rattle.lab_measures.specs.Spans.{pairs_with, rising_pairs}
use Rattle.lab_measures.specs.Sweeps.{firsts}

-- a cycle with one more other
with_one : (first second : ℕ) (later : Bool)
    → map (λ s. first ∷ s ∷ []) (cond later (second ∷ []) []) ≡ cond later ((first ∷ second ∷ []) ∷ []) []
with_one first second true = refl
with_one first second false = refl

onto : (first x : ℕ) (xs : List ℕ) (more : List (List ℕ)) (later : Bool)
    → map (λ s. first ∷ s ∷ []) (cond later (x ∷ xs) xs) ++ more
    ≡ cond later ((first ∷ x ∷ []) ∷ (map (λ s. first ∷ s ∷ []) xs ++ more)) (map (λ s. first ∷ s ∷ []) xs ++ more)
onto first x xs more true = refl
onto first x xs more false = refl

joined : (first x : ℕ) (xs : List ℕ) (later : Bool)
    → map (λ s. first ∷ s ∷ []) (cond later (x ∷ xs) xs) ≡ cond later ((first ∷ x ∷ []) ∷ map (λ s. first ∷ s ∷ []) xs) (map (λ s. first ∷ s ∷ []) xs)
joined first x xs true = refl
joined first x xs false = refl

with_push : (first second : ℕ) (others : List ℕ)
    → pairs_with first (others ++ second ∷ []) ≡ pairs_with first others ++ cond (ltb first second) ((first ∷ second ∷ []) ∷ []) []
with_push first second [] = with_one first second (ltb first second)
with_push first second (x ∷ others) =
    let later = ltb first x in
    let more = cond (ltb first second) ((first ∷ second ∷ []) ∷ []) [] in
    joined first x (filter (λ s. ltb first s) (others ++ second ∷ [])) later
    ∙ ap (λ xs. cond later ((first ∷ x ∷ []) ∷ xs) xs) (with_push first second others)
    ∙ sym (onto first x (filter (λ s. ltb first s) others) more later)

pub pair_start : (first : ℕ) (others : List ℕ) (old : List (List ℕ)) → old ≡ old ++ pairs_with first (take 0 others)
pair_start first others old = sym (append-nil old)

-- one more of the others
pub pair_step : (first k d : ℕ) (others : List ℕ) (start old new : List (List ℕ)) → k < length others
    → new ≡ old ++ cond (ltb first (slice_index_or others k d)) ((first ∷ slice_index_or others k d ∷ []) ∷ []) []
    → old ≡ start ++ pairs_with first (take k others) → new ≡ start ++ pairs_with first (take (k + 1) others)
pair_step first k d others start old new l e h =
    let x = slice_index_or others k d in
    let more = cond (ltb first x) ((first ∷ x ∷ []) ∷ []) [] in
    e
    ∙ ap (λ xs. xs ++ more) h
    ∙ append_assoc start (pairs_with first (take k others)) more
    ∙ ap (λ xs. start ++ xs) (sym (with_push first x (take k others)) ∙ ap (pairs_with first) (sym (take_more others k d l)))

pub pair_end : (first k : ℕ) (others : List ℕ) (start new : List (List ℕ)) → length others ≤ k
    → new ≡ start ++ pairs_with first (take k others) → new ≡ start ++ pairs_with first others
pair_end first k others start new l h = h ∙ ap (λ xs. start ++ pairs_with first xs) (take_all k others l)

-- the pairs with one more first cycle
pub first_step : (k d : ℕ) (cycles others : List ℕ) (old new : List (List ℕ)) → k < length cycles → others ≡ drop (k + 1) cycles
    → new ≡ old ++ pairs_with (slice_index_or cycles k d) others
    → old ++ rising_pairs (drop k cycles) ≡ rising_pairs cycles → new ++ rising_pairs (drop (k + 1) cycles) ≡ rising_pairs cycles
first_step k d cycles others old new l e f h =
    let x = slice_index_or cycles k d in
    let rest = rising_pairs (drop (k + 1) cycles) in
    ap (λ xs. xs ++ rest) (f ∙ ap (λ xs. old ++ pairs_with x xs) e)
    ∙ append_assoc old (pairs_with x (drop (k + 1) cycles)) rest
    ∙ ap (λ xs. old ++ xs) (sym (at_drop_more rising_pairs cycles k d l))
    ∙ h

pub first_end : (k : ℕ) (cycles : List ℕ) (old : List (List ℕ)) → length cycles ≤ k
    → old ++ rising_pairs (drop k cycles) ≡ rising_pairs cycles → old ≡ rising_pairs cycles
first_end k cycles old l h = sym (append-nil old) ∙ ap (λ xs. old ++ xs) (sym (ap rising_pairs (drop_all k cycles l))) ∙ h

firsts_push : (rows : List Row) (row : Row) → firsts (rows ++ row ∷ []) ≡ firsts rows ++ row.first ∷ []
firsts_push [] row = refl
firsts_push (r ∷ rows) row = ap (λ xs. r.first ∷ xs) (firsts_push rows row)

-- one more row, of the next cycle
pub firsts_more : (rows new : List Row) (row : Row) (cycles : List ℕ) (k d : ℕ) → k < length cycles → new ≡ rows ++ row ∷ []
    → row.first ≡ slice_index_or cycles k d → firsts rows ≡ take k cycles → firsts new ≡ take (k + 1) cycles
firsts_more rows new row cycles k d l e f h =
    ap firsts e ∙ firsts_push rows row ∙ (λ i. h i ++ f i ∷ []) ∙ sym (take_more cycles k d l)
