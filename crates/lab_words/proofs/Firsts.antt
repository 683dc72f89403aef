-- The tables of the first labels say what the names are.
use Rattle.std.proofs.Common.{◌≡◌, ℕ, suc, ◌+◌, ◌-◌, ◌^◌, ◌<◌, ◌≤◌, min, Bool, true, false, cond, ◌&&◌, ◌==◌, List, [], ◌∷◌, length, map, Option, Some, None, refl, sym, ap, ◌∙◌, subst, arith, nat_le, find, option_map, option_and_then, slice_get}
use Rattle.std.specs.Prelude.{nat_lt}
use Rattle.std.proofs.lemmas.Bool.Decides.{nat_tests}
use Rattle.std.proofs.lemmas.Option.{slice_get_past, slice_get-get_or, slice_get-map}
use Rattle.mx_source.specs.declared.name.Name.{Name}
use Rattle.mx_source.specs.declared.statement.Label.{Label}
use Rattle.mx_source.specs.declared.statement.Label.TheVariants as label
use Rattle.mx_source.specs.Names.{name_bytes, named_labels}
use Rattle.mx_source.specs.Labels.{names_address}
use Rattle.lab_words.specs.declared.names.NamedPlace.{NamedPlace}
use Rattle.mx_source.specs.Printed.{Labels}
use Rattle.lab_words.specs.Naming.{Naming, NameAlike, name_at, tabled, from_base, first_named, is_at, names_of}
use Rattle.lab_words.specs.Tables.{place_of, offset_from, code_offset, data_offset, entry, offset_is, first_from}

shift_by : (k i : ℕ) (offsets : List (Option ℕ)) (b : Bool) → first_from k (suc (suc i)) offsets ≡ option_map suc (first_from k (suc i) offsets)
    → cond b (Some (suc i)) (first_from k (suc (suc i)) offsets) ≡ option_map suc (cond b (Some i) (first_from k (suc i) offsets))
shift_by k i offsets true h = refl
shift_by k i offsets false h = h

shift : (k i : ℕ) (offsets : List (Option ℕ)) → first_from k (suc i) offsets ≡ option_map suc (first_from k i offsets)
shift k i [] = refl
shift k i (o ∷ offsets) = shift_by k i offsets (offset_is o k) (shift k (suc i) offsets)

abbrev offsets_of : (Label → Option ℕ) → List (Name × Label) → List (Option ℕ)
offsets_of f [] = []
offsets_of f (e ∷ entries) = f e.1 ∷ offsets_of f entries

behind : (e : Name × Label) (entries : List (Name × Label)) (o : Option ℕ)
    → option_and_then (name_at (e ∷ entries)) (option_map suc o) ≡ option_and_then (name_at entries) o
behind e entries None = refl
behind e entries (Some i) = refl

found_by : (k : ℕ) (e : Name × Label) (entries : List (Name × Label)) (offsets : List (Option ℕ)) (later : Option (List ℕ × Label)) (b : Bool)
    → option_and_then (name_at entries) (first_from k 0 offsets) ≡ option_map (λ p. p.0) later
    → option_and_then (name_at (e ∷ entries)) (cond b (Some 0) (first_from k 1 offsets)) ≡ option_map (λ p. p.0) (cond b (Some (name_bytes e.0, e.1)) later)
found_by k e entries offsets later true h = refl
found_by k e entries offsets later false h =
    ap (option_and_then (name_at (e ∷ entries))) (shift k 0 offsets) ∙ (behind e entries (first_from k 0 offsets) ∙ h)

-- the first label at an offset has the name that is found
found : (f : Label → Option ℕ) (k : ℕ) (entries : List (Name × Label))
    → option_and_then (name_at entries) (first_from k 0 (offsets_of f entries)) ≡ first_named (λ l. offset_is (f l) k) (named_labels entries)
found f k [] = refl
found f k (e ∷ entries) =
    found_by k e entries (offsets_of f entries) (find (λ p. offset_is (f p.1) k) (named_labels entries)) (offset_is (f e.1) k) (found f k entries)

same_first : (p q : Label → Bool) → ((l : Label) → p l ≡ q l) → (labels : List (List ℕ × Label)) → first_named p labels ≡ first_named q labels
same_first p q h labels = ap (option_map (λ e. e.0)) (same_find labels)
  where
    same_find : (es : List (List ℕ × Label)) → find (λ e. p e.1) es ≡ find (λ e. q e.1) es
    same_find [] = refl
    same_find (e ∷ es) = ap (λ b. cond b (Some e) (find (λ e. p e.1) es)) (h e.1) ∙ ap (cond (q e.1) (Some e)) (same_find es)

pub mapped : (link : ℕ → ℕ) (g : NamedPlace → Option ℕ) (entries : List (Name × Label))
    → map g (map (place_of link) (map (λ e. e.1) entries)) ≡ offsets_of (λ l. g (place_of link l)) entries
mapped link g [] = refl
mapped link g (e ∷ entries) = ap (λ os. g (place_of link e.1) ∷ os) (mapped link g entries)

-- a table whose entries are the first of these offsets
pub record HasFirsts (table offsets : List (Option ℕ)) : Type 0 where
  pub first : (k : ℕ) → k < length table → entry table k ≡ first_from k 0 offsets

past : (table : List (Option ℕ)) (k : ℕ) → length table ≤ k → option_and_then (λ o. o) (slice_get table k) ≡ None
past table k h = ap (option_and_then (λ o. o)) (slice_get_past table k h)

within : (table : List (Option ℕ)) (k : ℕ) → k < length table → option_and_then (λ o. o) (slice_get table k) ≡ entry table k
within table k h = ap (option_and_then (λ o. o)) (slice_get-get_or table k None h)

module _ (entries : List (Name × Label)) (f : Label → Option ℕ) (passes : ℕ → Label → Bool) (base : ℕ)
    (same : (a : ℕ) (l : Label) → base ≤ a → offset_is (f l) (a - base) ≡ passes a l)
    (table : List (Option ℕ)) (firsts : HasFirsts table (offsets_of f entries)) where
  pub named_at : (a : ℕ) → from_base entries table base a
      ≡ cond (nat_le base a && nat_lt (a - base) (length table)) (first_named (passes a) (named_labels entries)) None
  named_at a = by_tests (nat_le base a) (nat_lt (a - base) (length table)) refl refl
    where
      by_tests : (b c : Bool) → nat_le base a ≡ b → nat_lt (a - base) (length table) ≡ c
          → cond b (tabled entries table (a - base)) None ≡ cond (b && c) (first_named (passes a) (named_labels entries)) None
      by_tests false c h k = refl
      by_tests true true h k =
          let from : base ≤ a = grind (arith, nat_tests) in
          let lt : a - base < length table = grind (arith, nat_tests) in
          ap (option_and_then (name_at entries)) (within table (a - base) lt ∙ firsts.first (a - base) lt)
          ∙ found f (a - base) entries
          ∙ same_first (λ l. offset_is (f l) (a - base)) (passes a) (λ l. same a l from) (named_labels entries)
      by_tests true false h k =
          let past_end : length table ≤ a - base = grind (arith, nat_tests) in
          ap (option_and_then (name_at entries)) (past table (a - base) past_end)

same_offset : (base a n : ℕ) → base ≤ a → offset_is (offset_from base n) (a - base) ≡ (n == a)
same_offset base a n h = by_test (nat_le base n) refl
  where
    by_test : (b : Bool) → nat_le base n ≡ b → offset_is (cond b (Some (n - base)) None) (a - base) ≡ (n == a)
    by_test true k = grind (arith, nat_tests)
    by_test false k = grind (arith, nat_tests)

pub code_same : (link : ℕ → ℕ) (a : ℕ) (l : Label) → 4096 ≤ a → offset_is (code_offset (place_of link l)) (a - 4096) ≡ is_at link a l
code_same link a (label.Code i) h = same_offset 4096 a (link i) h
code_same link a (label.Data b) h = refl

pub data_same : (link : ℕ → ℕ) (a : ℕ) (l : Label) → 256 ≤ a → offset_is (data_offset (place_of link l)) (a - 256) ≡ names_address a l
data_same link a (label.Code i) h = refl
data_same link a (label.Data b) h = same_offset 256 a b h

same_test : (b c : Bool) → (b ≡ true → c ≡ true) → (c ≡ true → b ≡ true) → b ≡ c
same_test true true f g = refl
same_test true false f g = sym (f refl)
same_test false true f g = g refl
same_test false false f g = refl

after_base : (b c d : Bool) → (b ≡ true → c ≡ d) → (b && c) ≡ (b && d)
after_base true c d f = f refl
after_base false c d f = refl

-- the words of a list from a base on, by their distance from it and by their addresses
bounds : (base a long : ℕ) → (nat_le base a && nat_lt (a - base) long) ≡ (nat_le base a && nat_lt a (base + long))
bounds base a long = after_base (nat_le base a) (nat_lt (a - base) long) (nat_lt a (base + long)) within
  where
    within : nat_le base a ≡ true → nat_lt (a - base) long ≡ nat_lt a (base + long)
    within from = same_test (nat_lt (a - base) long) (nat_lt a (base + long)) before behind
      where
        above : base ≤ a
        above = grind (arith, nat_tests)

        before : nat_lt (a - base) long ≡ true → nat_lt a (base + long) ≡ true
        before k = let lt : a - base < long = grind (arith, nat_tests) in let far : a < base + long = omega arith in grind (arith, nat_tests)

        behind : nat_lt a (base + long) ≡ true → nat_lt (a - base) long ≡ true
        behind k = let far : a < base + long = grind (arith, nat_tests) in let lt : a - base < long = omega (arith, above) in grind (arith, nat_tests)

code_bounds : (a words long : ℕ) → long ≡ min (words + 1) (2 ^ 64 - 1) → a < 2 ^ 32
    → (nat_le 4096 a && nat_lt (a - 4096) long) ≡ (nat_le 4096 a && nat_le a (4096 + words))
code_bounds a words long e h =
    bounds 4096 a long ∙ ap (λ t. nat_le 4096 a && t) (same_test (nat_lt a (4096 + long)) (nat_le a (4096 + words)) before behind)
  where
    before : nat_lt a (4096 + long) ≡ true → nat_le a (4096 + words) ≡ true
    before k = let lt : a < 4096 + long = grind (arith, nat_tests) in let le : a ≤ 4096 + words = omega arith in grind (arith, nat_tests)

    behind : nat_le a (4096 + words) ≡ true → nat_lt a (4096 + long) ≡ true
    behind k = let le : a ≤ 4096 + words = grind (arith, nat_tests) in let lt : a < 4096 + long = omega arith in grind (arith, nat_tests)

-- tables of the first labels name the words as the labels do
pub names_alike : (entries : List (Name × Label)) (link : ℕ → ℕ) (words data_words count : ℕ) (places : List NamedPlace)
    (code_offsets data_offsets code user_data : List (Option ℕ)) → places ≡ map (place_of link) (map (λ e. e.1) entries)
    → code_offsets ≡ map code_offset places → data_offsets ≡ map data_offset places → count ≡ min (words + 1) (2 ^ 64 - 1)
    → length code ≡ count → ((k : ℕ) → k < count → entry code k ≡ first_from k 0 code_offsets)
    → length user_data ≡ data_words → ((k : ℕ) → k < data_words → entry user_data k ≡ first_from k 0 data_offsets)
    → NameAlike (record { code = from_base entries code 4096; user_data = from_base entries user_data 256 })
    (names_of (named_labels entries) link words data_words)
names_alike entries link words data_words count places code_offsets data_offsets code user_data e e1 e2 few long first data_long data_first = record {
  code = λ a h.
      named_at entries (λ l. code_offset (place_of link l)) (is_at link) 4096 (code_same link) code
      (record { first = λ k lt. first k (omega (arith, long)) ∙ ap (first_from k 0) code_are }) a
      ∙ ap (λ b. cond b (first_named (is_at link a) (named_labels entries)) None) (code_bounds a words (length code) (long ∙ few) h);
  user_data = λ a h.
      named_at entries (λ l. data_offset (place_of link l)) names_address 256 (data_same link) user_data
      (record { first = λ k lt. data_first k (omega (arith, data_long)) ∙ ap (first_from k 0) data_are }) a
      ∙ ap (λ b. cond b (first_named (names_address a) (named_labels entries)) None)
      (ap (λ n. nat_le 256 a && nat_lt (a - 256) n) data_long ∙ bounds 256 a data_words);
}
  where
    code_are : code_offsets ≡ offsets_of (λ l. code_offset (place_of link l)) entries
    code_are = e1 ∙ ap (map code_offset) e ∙ mapped link code_offset entries

    data_are : data_offsets ≡ offsets_of (λ l. data_offset (place_of link l)) entries
    data_are = e2 ∙ ap (map data_offset) e ∙ mapped link data_offset entries

-- the same by other words for the labels and the number of data words
pub alike_by : (m : Naming) (labels others : Labels) (link : ℕ → ℕ) (words n k : ℕ) → labels ≡ others → n ≡ k
    → NameAlike m (names_of labels link words n) → NameAlike m (names_of others link words k)
alike_by m labels others link words n k e e1 h =
    subst (λ ls. NameAlike m (names_of ls link words k)) e (subst (λ d. NameAlike m (names_of labels link words d)) e1 h)

mapped_option : {A : Type 0} (f : A → Option ℕ) (o : Option A) → option_and_then (λ o. o) (option_map f o) ≡ option_and_then f o
mapped_option f None = refl
mapped_option f (Some x) = refl

-- the aims of statements, in order
pub aims_in : {A : Type 0} (f : A → Option ℕ) (aims : List (Option ℕ)) (statements others : List A) (index : ℕ) → aims ≡ map f statements
    → statements ≡ others → option_and_then (λ o. o) (slice_get aims index) ≡ option_and_then f (slice_get others index)
aims_in f aims statements others index e h =
    ap (λ xs. option_and_then (λ o. o) (slice_get xs index)) e
    ∙ ap (option_and_then (λ o. o)) (slice_get-map f statements index)
    ∙ mapped_option f (slice_get statements index)
    ∙ ap (λ ss. option_and_then f (slice_get ss index)) h
