-- The names that a module exports.
use Rattle.std.specs.Prelude.{ℕ, List, [], ◌∷◌, ◌++◌, map, Option, Some, None, is_some, if◌then◌else◌}
use Rattle.std.specs.Borrow.{Bor}
use Rattle.std.specs.Map.{lookup}
use Rattle.std.specs.Str.{bytes_eq}
use Rattle.mx_module.specs.declared.link.LinkKind.{LinkKind}
use Rattle.mx_module.specs.declared.link.LinkKind.TheVariants.{Import, Export}
use Rattle.mx_module.specs.declared.exports.Exports.TheInside.{Inside}
use Rattle.mx_module.specs.Links.{Link}

-- what stands under a name, with the bytes of the name
abbrev pub named : {V : Type 0} → Bor (List ℕ) × V → List ℕ × V
named entry = (entry.0.now, entry.1)

-- names, each with the number of a line
abbrev pub Exports : Type 0
Exports = List (List ℕ × ℕ)

-- the line of the first export of a name
abbrev pub export_line : Exports → List ℕ → Option ℕ
export_line exports name = lookup (bytes_eq name) exports

-- the exports with one more: of several exports of a name the first one counts
unfoldable pub add_export : Exports → List ℕ → ℕ → Exports
add_export exports name number = if is_some (export_line exports name) then exports else exports ++ (name, number) ∷ []

-- the exports with that of a line
abbrev pub with_export : Exports → ℕ → LinkKind → Option (List ℕ) → Exports
with_export exports number Export (Some name) = add_export exports name number
with_export exports number Export None = exports
with_export exports number Import name = exports

-- the exports with those of these lines
abbrev pub exports_from : Exports → List Link → Exports
exports_from exports [] = exports
exports_from exports (l ∷ links) = exports_from (with_export exports l.number l.kind l.name) links

-- the table's exports, in order
abbrev pub exports_view : Inside → Exports
exports_view inside = map named inside.table.entries
