-- A name that no label has.
use Rattle.std.proofs.Common.{◌≡◌, ◌≢◌, ℕ, ◌+◌, false, List, [], ◌∷◌, ◌++◌, length, ⊎_elim, refl, sym, ap, ◌∙◌, add-one}
use Rattle.std.specs.Str.{bytes_eq}
use Rattle.std.specs.Prelude.{if◌then◌else◌}
use Rattle.std.proofs.lemmas.Bool.{cases_Bool}
use Rattle.std.proofs.lemmas.Slice.Eq.{bytes_eq-Decides}
use Rattle.std.proofs.lemmas.List.{map-append}
use Rattle.std.proofs.lemmas.List.Elements.{All-head, All-tail}
use Rattle.indexmap.specs.IndexMap.{insert_entry}
use Rattle.mx_source.specs.declared.name.Name.{Name}
use Rattle.mx_source.specs.declared.statement.Label.{Label}
use Rattle.mx_source.specs.declared.statement.Label.TheVariants.{Code}
use Rattle.mx_source.specs.declared.statement.Statement.{Statement}
use Rattle.mx_source.specs.Names.{name_bytes, named_labels}
use Rattle.mx_gen.specs.Drafts.{Draft, name}
use Rattle.mx_gen.specs.Sound.{IsNew}

apart : (xs ys : List ℕ) → ys ≢ xs → bytes_eq xs ys ≡ false
apart xs ys ne = ⊎_elim (λ t. absurd (ne (sym ((bytes_eq-Decides xs ys).0 t)))) (λ f. f) (cases_Bool (bytes_eq xs ys))

-- a new name goes last
pub insert_new : (k : Name) (v : Label) (entries : List (Name × Label)) → IsNew (name_bytes k) (named_labels entries) →
    insert_entry (λ (x y : Name). bytes_eq (name_bytes x) (name_bytes y)) entries k v ≡ entries ++ (k, v) ∷ []
insert_new k v [] new = refl
insert_new k v (e ∷ es) new =
    ap (λ b. if b then (e.0, v) ∷ es else e ∷ insert_entry (λ (x y : Name). bytes_eq (name_bytes x) (name_bytes y)) es k v) (apart (name_bytes k)
    (name_bytes e.0) (All-head (λ p. p.0 ≢ name_bytes k) (name_bytes e.0, e.1) (named_labels es) new))
    ∙ ap (λ t. e ∷ t) (insert_new k v es (All-tail (λ p. p.0 ≢ name_bytes k) (name_bytes e.0, e.1) (named_labels es) new))

pub named_new : (k : Name) (v : Label) (entries all : List (Name × Label)) (bytes : List ℕ) (i j : ℕ) → IsNew (name_bytes k) (named_labels entries)
    → name_bytes k ≡ bytes → i ≡ j → v ≡ Code i →
    all ≡ insert_entry (λ (x y : Name). bytes_eq (name_bytes x) (name_bytes y)) entries k v → named_labels all ≡ named_labels entries ++ (bytes, Code j) ∷ []
named_new k v entries all bytes i j new is at code e =
    ap named_labels (e ∙ insert_new k v entries new) ∙ (map-append (λ p. (name_bytes p.0, p.1)) entries ((k, v) ∷ [])
    ∙ (ap (λ n. named_labels entries ++ (n, v) ∷ []) is ∙ ap (λ l. named_labels entries ++ (bytes, l) ∷ []) (code ∙ ap Code at)))

-- a draft with a label more
pub with_name : (statements : List Statement) (lines : List ℕ) (labels all : List (List ℕ × Label)) (line : ℕ) (d : Draft) (n : List ℕ) →
    let old : Draft = record { statements = statements; lines = lines; labels = labels; line = line } in
    let new : Draft = record { statements = statements; lines = lines; labels = all; line = line + 1 } in
    old ≡ d → all ≡ labels ++ (n, Code (length statements)) ∷ [] → new ≡ name n d
with_name statements lines labels all line d n is e =
    let a : List (List ℕ × Label) → ℕ → Draft = λ ls k. record { statements = statements; lines = lines; labels = ls; line = k } in
    ap (λ ls. a ls (line + 1)) e ∙ (ap (λ k. a (labels ++ (n, Code (length statements)) ∷ []) k) (add-one line) ∙ ap (λ x. name n x) is)
