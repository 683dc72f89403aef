-- The faults of import and export lines.
use Rattle.std.specs.Prelude.{ℕ, ◌+◌, Bool, false, not, ◌||◌, nat_lt, List, [], ◌∷◌, take, drop, Option, Some, None, is_some, if◌then◌else◌}
use Rattle.mx_lines.specs.Operands.{label_named}
use Rattle.mx_module.specs.declared.error.JoinFault.{JoinFault}
use Rattle.mx_module.specs.declared.error.JoinFault.TheVariants.{BadName, NotDefined, DuplicateExport, NoExport, LocalClash}
use Rattle.mx_module.specs.declared.link.LinkKind.{LinkKind}
use Rattle.mx_module.specs.declared.link.LinkKind.TheVariants.{Import, Export}
use Rattle.mx_module.specs.Links.{Link}
use Rattle.mx_module.specs.ExportTable.{export_line}
use Rattle.mx_module.specs.Modules.{ModuleValue, exports_of}

-- the module exports the name
abbrev pub is_exported : ModuleValue → List ℕ → Bool
is_exported m name = is_some (export_line (exports_of m) name)

-- the name is a label of the module
abbrev pub is_label : ModuleValue → List ℕ → Bool
is_label m name = is_some (label_named m.labels name)

-- the first of these modules that exports the name
abbrev pub first_exporter : List ModuleValue → List ℕ → Option ModuleValue
first_exporter [] name = None
first_exporter (m ∷ ms) name = if is_exported m name then Some m else first_exporter ms name

abbrev pub or_exporter : Option ModuleValue → Option ModuleValue → Option ModuleValue
or_exporter (Some m) other = Some m
or_exporter None other = other

-- the first module but the one at this place that exports the name
abbrev pub exporter : List ModuleValue → ℕ → List ℕ → Option ModuleValue
exporter all place name = or_exporter (first_exporter (take place all) name) (first_exporter (drop (place + 1) all) name)

abbrev pub is_before : Option ℕ → ℕ → Bool
is_before (Some line) number = nat_lt line number
is_before None number = false

-- an earlier line, of this module or of one before it, exports the name
abbrev pub is_exported_before : List ModuleValue → ℕ → ModuleValue → ℕ → List ℕ → Bool
is_exported_before all place m number name = is_some (first_exporter (take place all) name) || is_before (export_line (exports_of m) name) number

-- a line links no name
abbrev pub is_bad_name : Link → Bool
is_bad_name l = not (is_some l.name)

-- it exports a name
abbrev pub exports_name : LinkKind → Option (List ℕ) → (List ℕ → Bool) → Bool
exports_name Export (Some name) test = test name
exports_name _ _ test = false

-- it imports a name
abbrev pub imports_name : LinkKind → Option (List ℕ) → (List ℕ → Bool) → Bool
imports_name Import (Some name) test = test name
imports_name _ _ test = false

-- a line of the module at this place exports a name that is no label of the module
abbrev pub is_not_defined : ModuleValue → Link → Bool
is_not_defined m l = exports_name l.kind l.name (λ name. not (is_label m name))

-- it exports a name that an earlier line exports, of any module
abbrev pub is_duplicate : List ModuleValue → ℕ → ModuleValue → Link → Bool
is_duplicate all place m l = exports_name l.kind l.name (is_exported_before all place m l.number)

-- it imports a name that no other module exports
abbrev pub has_no_export : List ModuleValue → ℕ → Link → Bool
has_no_export all place l = imports_name l.kind l.name (λ name. not (is_some (exporter all place name)))

-- it imports a label of its own module
abbrev pub is_local_clash : ModuleValue → Link → Bool
is_local_clash m l = imports_name l.kind l.name (is_label m)

-- the least fault of an import or export line of the module at this place
abbrev pub link_fault : List ModuleValue → ℕ → ModuleValue → Link → Option JoinFault
link_fault all place m l =
    if is_bad_name l then Some BadName
    else (if is_not_defined m l then Some NotDefined
    else (if is_duplicate all place m l then Some DuplicateExport
    else (if has_no_export all place l then Some NoExport
    else (if is_local_clash m l then Some LocalClash else None))))

-- where a program is refused: module, line and fault
abbrev pub Refusal : Type 0
Refusal = ℕ × ℕ × JoinFault

-- the refusal by the fault of a line, or a later one
abbrev pub refused_or : ℕ → ℕ → Option JoinFault → Option Refusal → Option Refusal
refused_or place number (Some fault) later = Some (place + 1, number, fault)
refused_or place number None later = later

abbrev pub refusal_or : Option Refusal → Option Refusal → Option Refusal
refusal_or (Some refusal) later = Some refusal
refusal_or None later = later

-- the first of these lines that has a fault
abbrev pub fault_in_links : List ModuleValue → ℕ → ModuleValue → List Link → Option Refusal
fault_in_links all place m [] = None
fault_in_links all place m (l ∷ links) = refused_or place l.number (link_fault all place m l) (fault_in_links all place m links)

-- the first faulty import or export line of these modules, the first of which is at this place
abbrev pub fault_in_modules : List ModuleValue → ℕ → List ModuleValue → Option Refusal
fault_in_modules all place [] = None
fault_in_modules all place (m ∷ ms) = refusal_or (fault_in_links all place m m.links) (fault_in_modules all (place + 1) ms)
