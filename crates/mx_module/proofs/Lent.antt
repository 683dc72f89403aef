-- A table under names that are lent.
use Rattle.std.proofs.Common.{◌≡◌, List, [], ◌∷◌, ◌++◌, ℕ, map, cond, Some, Bor, refl, ap, ◌∙◌}
use Rattle.std.specs.Str.{bytes_eq}
use Rattle.std.specs.Map.{lookup}
use Rattle.std.proofs.lemmas.List.{map-append}
use Rattle.mx_module.specs.ExportTable.{named}

-- a look-up by the bytes of the keys
pub lookup_by_bytes : {V : Type 0} (es : List (Bor (List ℕ) × V)) (name : List ℕ)
    → lookup (λ k. bytes_eq name k.now) es ≡ lookup (bytes_eq name) (map named es)
lookup_by_bytes [] name = refl
lookup_by_bytes (e ∷ es) name = ap (cond (bytes_eq name e.0.now) (Some e.1)) (lookup_by_bytes es name)

-- an entry more at the end
pub view_push : {V : Type 0} (es fs : List (Bor (List ℕ) × V)) (name : Bor (List ℕ)) (value : V) → fs ≡ es ++ (name, value) ∷ []
    → map named fs ≡ map named es ++ (name.now, value) ∷ []
view_push es fs name value e = ap (map named) e ∙ map-append named es ((name, value) ∷ [])
