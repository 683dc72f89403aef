-- Labels under names of their own.
use Rattle.std.proofs.Common.{◌≡◌, ℕ, List, [], ◌∷◌, ◌++◌, map, cond, Some, None, Bool, true, false, refl, ap, ◌∙◌}
use Rattle.std.specs.List.{IsDistinct, AllByRecursion}
use Rattle.std.specs.Str.{bytes_eq}
use Rattle.std.specs.Map.{lookup}
use Rattle.std.proofs.lemmas.List.{map-append}
use Rattle.indexmap.specs.IndexMap.{insert_entry}
use Rattle.mx_source.specs.declared.name.Name.{Name}
use Rattle.mx_source.specs.declared.statement.Label.{Label}
use Rattle.mx_source.specs.Names.{name_bytes, named_labels, AreApart}
use Rattle.mx_source.specs.contracts.name.NamePartialEq.TheImpl.{eq-value}

name_eq : (a b : Name) → (eq-value).it a b ≡ bytes_eq (name_bytes a) (name_bytes b)
name_eq a b = refl

-- keys that are different have different bytes
apart_from : (key : Name) (es : List (Name × Label)) → AllByRecursion (λ k. (eq-value).it key k ≡ false) (map (λ (p : Name × Label). p.0) es)
    → AllByRecursion (λ n. bytes_eq (name_bytes key) n ≡ false) (map (λ (p : List ℕ × Label). p.0) (named_labels es))
apart_from key [] h = tt
apart_from key (e ∷ es) h = (h.0, apart_from key es h.1)

pub keys_apart : (es : List (Name × Label)) → IsDistinct (eq-value).it (map (λ (p : Name × Label). p.0) es) → AreApart (named_labels es)
unfolding IsDistinct
keys_apart [] h = tt
keys_apart (e ∷ es) h = (apart_from e.0 es h.0, keys_apart es h.1)

-- a look-up by the bytes of the names
pub lookup_named : (es : List (Name × Label)) (name : List ℕ)
    → lookup (λ (k : Name). bytes_eq name (name_bytes k)) es ≡ lookup (bytes_eq name) (named_labels es)
lookup_named [] name = refl
lookup_named (e ∷ es) name = ap (cond (bytes_eq name (name_bytes e.0)) (Some e.1)) (lookup_named es name)

insert_cond : (b : Bool) (key : Name) (label : Label) (e : Name × Label) (es more : List (Name × Label))
    → cond b (Some e.1) (lookup (bytes_eq (name_bytes key)) (named_labels es)) ≡ None
    → (lookup (bytes_eq (name_bytes key)) (named_labels es) ≡ None → more ≡ es ++ (key, label) ∷ [])
    → cond b ((e.0, label) ∷ es) (e ∷ more) ≡ e ∷ (es ++ (key, label) ∷ [])
insert_cond true key label e es more h k = cc
insert_cond false key label e es more h k = ap (λ xs. e ∷ xs) (k h)

-- a key that is not there goes last
pub insert_new : (es : List (Name × Label)) (key : Name) (label : Label) → lookup (bytes_eq (name_bytes key)) (named_labels es) ≡ None
    → insert_entry (eq-value).it es key label ≡ es ++ (key, label) ∷ []
insert_new [] key label h = refl
insert_new (e ∷ es) key label h =
    insert_cond (bytes_eq (name_bytes key) (name_bytes e.0)) key label e es (insert_entry (eq-value).it es key label) h (insert_new es key label)

pub named_push : (es fs : List (Name × Label)) (key : Name) (label : Label) (name : List ℕ) → name_bytes key ≡ name
    → lookup (bytes_eq name) (named_labels es) ≡ None
    → fs ≡ insert_entry (eq-value).it es key label → named_labels fs ≡ named_labels es ++ (name, label) ∷ []
named_push es fs key label name same absent made =
    ap named_labels (made ∙ insert_new es key label (ap (λ n. lookup (bytes_eq n) (named_labels es)) same ∙ absent))
    ∙ map-append (λ (p : Name × Label). (name_bytes p.0, p.1)) es ((key, label) ∷ [])
    ∙ ap (λ n. named_labels es ++ (n, label) ∷ []) same
