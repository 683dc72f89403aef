-- What labels under different names find, place by place.
use Rattle.std.proofs.Common.{◌≡◌, ℕ, Bool, true, false, cond, ◌||◌, List, [], ◌∷◌, ◌++◌, map, get_or, Option, Some, None, refl, sym, ap, ◌∙◌, subst, arith}
use Rattle.std.specs.Prelude.{All, find, unwrap_or, option_map}
use Rattle.std.specs.List.{IsDistinct, AllByRecursion, list_any}
use Rattle.std.specs.Str.{bytes_eq}
use Rattle.std.proofs.lemmas.Slice.Eq.{bytes_eq-Decides}
use Rattle.std.proofs.lemmas.List.Elements.{All-nil, All-cons, All-head, All-tail}
use Rattle.std.proofs.lemmas.Bool.Decides.{nat_tests}
use Rattle.mx_source.specs.declared.statement.Label.{Label}
use Rattle.mx_source.specs.declared.statement.Label.TheVariants as label
use Rattle.mx_source.specs.Labels.{names_index, is_labelled, IsPlace}
use Rattle.mx_source.specs.Printed.{place_name}
use Rattle.mx_lines.specs.Operands.{label_named}
use Rattle.mx_lines.specs.Instructions.{Labels}
use Rattle.mx_lines.proofs.Copied.{swapped}
use Rattle.mx_asm.specs.Printable.{IsLabelName}
use Rattle.mx_asm.proofs.Readback.{Finder, Finds}
use Rattle.mx_asm.proofs.Spellings.{Placed}

-- the first that is there
abbrev pub either : Option Label → Option Label → Option Label
either (Some l) o = Some l
either None o = o

-- the label, if it passes
abbrev pub only : (Label → Bool) → Option Label → Option Label
only q None = None
only q (Some l) = cond (q l) (Some l) None

abbrev pub one : List ℕ → Label → Finder
one name l n = cond (bytes_eq n name) (Some l) None

-- the first label that passes and has this name
abbrev pub pick : (Label → Bool) → Labels → Finder
pick q [] n = None
pick q (e ∷ es) n = either (cond (q e.1) (one e.0 e.1 n) None) (pick q es n)

-- no name is that of a label behind it
abbrev pub Apart : Labels → Type 0
Apart [] = Unit {0}
Apart (e ∷ es) = All (λ (x : List ℕ × Label). bytes_eq x.0 e.0 ≡ false) es × Apart es

pub same_bytes : (n : List ℕ) → bytes_eq n n ≡ true
same_bytes n = (bytes_eq-Decides n n).1 refl

each_apart : (n : List ℕ) (es : Labels) → AllByRecursion (λ y. bytes_eq n y ≡ false) (map (λ (p : List ℕ × Label). p.0) es)
    → All (λ (x : List ℕ × Label). bytes_eq x.0 n ≡ false) es
each_apart n [] h = All-nil (λ (x : List ℕ × Label). bytes_eq x.0 n ≡ false)
each_apart n (e ∷ es) h = All-cons (λ (x : List ℕ × Label). bytes_eq x.0 n ≡ false) e es (swapped n e.0 h.0) (each_apart n es h.1)

pub are_apart : (es : Labels) → IsDistinct bytes_eq (map (λ (p : List ℕ × Label). p.0) es) → Apart es
unfolding IsDistinct
are_apart [] h = tt
are_apart (e ∷ es) h = (each_apart e.0 es h.0, are_apart es h.1)

still_found : (e x : List ℕ × Label) (es : Labels) → bytes_eq x.0 e.0 ≡ false → label_named es x.0 ≡ Some x.1 → label_named (e ∷ es) x.0 ≡ Some x.1
still_found e x es h k = ap (λ t. cond t (Some e.1) (label_named es x.0)) h ∙ k

-- each label is found by its name
pub each_found : (es : Labels) → Apart es → All (λ (e : List ℕ × Label). label_named es e.0 ≡ Some e.1) es
each_found [] h = All-nil (λ (e : List ℕ × Label). label_named [] e.0 ≡ Some e.1)
each_found (e ∷ es) h =
    All-cons (λ (x : List ℕ × Label). label_named (e ∷ es) x.0 ≡ Some x.1) e es
    (ap (λ t. cond t (Some e.1) (label_named es e.0)) (same_bytes e.0))
    (λ k d lt. still_found e (get_or es k d) es (h.0 k d lt) (each_found es h.1 k d lt))

-- a name that no label has
not_found : (n : List ℕ) (es : Labels) → All (λ (x : List ℕ × Label). bytes_eq x.0 n ≡ false) es → label_named es n ≡ None
not_found n [] h = refl
not_found n (e ∷ es) h =
    ap (λ t. cond t (Some e.1) (label_named es n)) (swapped e.0 n (All-head (λ (x : List ℕ × Label). bytes_eq x.0 n ≡ false) e es h))
    ∙ not_found n es (All-tail (λ (x : List ℕ × Label). bytes_eq x.0 n ≡ false) e es h)

only_none : (q : Label → Bool) (o : Option Label) → o ≡ None → only q o ≡ None
only_none q o h = ap (only q) h

picks_by : (q : Label → Bool) (n : List ℕ) (e : List ℕ × Label) (es : Labels) (passes same : Bool) → q e.1 ≡ passes → (same ≡ true → label_named es n ≡ None)
    → either (cond passes (cond same (Some e.1) None) None) (only q (label_named es n)) ≡ only q (cond same (Some e.1) (label_named es n))
picks_by q n e es true true p h = sym (ap (λ t. cond t (Some e.1) None) p)
picks_by q n e es true false p h = refl
picks_by q n e es false true p h = only_none q (label_named es n) (h refl) ∙ sym (ap (λ t. cond t (Some e.1) None) p)
picks_by q n e es false false p h = refl

pub picks : (q : Label → Bool) (es : Labels) (n : List ℕ) → Apart es → pick q es n ≡ only q (label_named es n)
picks q [] n h = refl
picks q (e ∷ es) n h =
    ap (either (cond (q e.1) (one e.0 e.1 n) None)) (picks q es n h.1)
    ∙ picks_by q n e es (q e.1) (bytes_eq n e.0) refl
    (λ k. let same : n ≡ e.0 = (bytes_eq-Decides n e.0).0 k in not_found n es
    (subst (λ m. All (λ (x : List ℕ × Label). bytes_eq x.0 m ≡ false) es) (sym same) h.0))

pub either_only : (q r s : Label → Bool) → ((l : Label) → s l ≡ q l || r l) → (o : Option Label) → only s o ≡ either (only q o) (only r o)
either_only q r s h None = refl
either_only q r s h (Some l) = ap (λ t. cond t (Some l) None) (h l) ∙ by_test (q l)
  where
    by_test : (b : Bool) → cond (b || r l) (Some l) None ≡ either (cond b (Some l) None) (cond (r l) (Some l) None)
    by_test true = refl
    by_test false = refl

pub either_more : (a b c : Option Label) → either (either a b) c ≡ either a (either b c)
either_more (Some l) b c = refl
either_more None b c = refl

-- what is found among labels that pass
pub only_all : (q : Label → Bool) (es : Labels) (n : List ℕ) → All (λ (e : List ℕ × Label). q e.1 ≡ true) es → only q (label_named es n) ≡ label_named es n
only_all q [] n h = refl
only_all q (e ∷ es) n h = by_name (bytes_eq n e.0) (only_all q es n (All-tail (λ (x : List ℕ × Label). q x.1 ≡ true) e es h))
  where
    by_name : (same : Bool) → only q (label_named es n) ≡ label_named es n
        → only q (cond same (Some e.1) (label_named es n)) ≡ cond same (Some e.1) (label_named es n)
    by_name true k = ap (λ t. cond t (Some e.1) None) (All-head (λ (x : List ℕ × Label). q x.1 ≡ true) e es h)
    by_name false k = k

-- no label that is found passes
pub only_no : (q : Label → Bool) (es : Labels) (n : List ℕ) → All (λ (e : List ℕ × Label). q e.1 ≡ false) es → only q (label_named es n) ≡ None
only_no q [] n h = refl
only_no q (e ∷ es) n h = by_name (bytes_eq n e.0) (only_no q es n (All-tail (λ (x : List ℕ × Label). q x.1 ≡ false) e es h))
  where
    by_name : (same : Bool) → only q (label_named es n) ≡ None → only q (cond same (Some e.1) (label_named es n)) ≡ None
    by_name true k = ap (λ t. cond t (Some e.1) None) (All-head (λ (x : List ℕ × Label). q x.1 ≡ false) e es h)
    by_name false k = k

-- one more label at the end
pub finds_more : (table : Labels) (f : Finder) (name : List ℕ) (l : Label) → Finds table f → Finds (table ++ (name, l) ∷ []) (λ n. either (f n) (one name l n))
finds_more table f name l h n = last table ∙ ap (λ o. either o (one name l n)) (h n)
  where
    by_test : (b : Bool) (v : Label) (a o c : Option Label) → a ≡ either o c → cond b (Some v) a ≡ either (cond b (Some v) o) c
    by_test true v a o c h = refl
    by_test false v a o c h = h

    last : (es : Labels) → label_named (es ++ (name, l) ∷ []) n ≡ either (label_named es n) (one name l n)
    last [] = refl
    last (e ∷ es) = by_test (bytes_eq n e.0) e.1 (label_named (es ++ (name, l) ∷ []) n) (label_named es n) (one name l n) (last es)

-- the first name of a place finds the place
pub code_of : (i : ℕ) (l : Label) → names_index i l ≡ true → l ≡ label.Code i
code_of i (label.Code j) h = let e : j ≡ i = grind (arith, nat_tests) in ap label.Code e
code_of i (label.Data a) h = cc

module _ (P : List ℕ × Label → Type 0) (i : ℕ) where
  first_by : (e : List ℕ × Label) (es : Labels) (here : Bool) → names_index i e.1 ≡ here → P e
      → ((list_any (λ (p : List ℕ × Label). names_index i p.1) es ≡ true) → P (place_name es i, label.Code i))
      → (here || list_any (λ (p : List ℕ × Label). names_index i p.1) es) ≡ true
      → P (unwrap_or (option_map (λ p. p.0) (cond here (Some e) (find (λ p. names_index i p.1) es))) [], label.Code i)
  first_by e es true h p k any = subst (λ l. P (e.0, l)) (code_of i e.1 h) p
  first_by e es false h p k any = k any

  pub first_has : (es : Labels) → All P es → is_labelled es i ≡ true → P (place_name es i, label.Code i)
  first_has [] h any = cc
  first_has (e ∷ es) h any = first_by e es (names_index i e.1) refl (All-head P e es h) (first_has es (All-tail P e es h)) any

pub are_placed : (labels : Labels) (count : ℕ) → All (λ (p : List ℕ × Label). IsLabelName p.0) labels → Apart labels → (i : ℕ) → IsPlace labels count i
    → Placed labels i
are_placed labels count names apart i h = record {
  name = first_has (λ p. IsLabelName p.0) i labels names h.labelled;
  found = first_has (λ p. label_named labels p.0 ≡ Some p.1) i labels (each_found labels apart) h.labelled;
}
