-- What texts join as.
pub use Rattle.mx_source.specs.Names.{AreApart}
use Rattle.std.specs.Prelude.{◌≡◌, ℕ, ◌+◌, List, [], ◌∷◌, ◌++◌, map, codes, Option, Some, None, if◌then◌else◌}
use Rattle.std.specs.Fmt.{decimal}
use Rattle.mx_source.specs.declared.Label.{Label}
use Rattle.mx_source.specs.SourceValue.{SourceValue}
use Rattle.mx_lines.specs.declared.Fault.{Fault}
use Rattle.mx_lines.specs.Instructions.{Labels}
use Rattle.mx_asm.specs.Directives.{Effect}
use Rattle.mx_lines.specs.Operands.{label_named}
use Rattle.mx_asm.specs.Positions.{define}
use Rattle.mx_asm.specs.Faults.{first_fault}
use Rattle.mx_asm.specs.Texts.{effects_from, statements_in, lines_in, values_in, input_in}
use Rattle.mx_module.specs.declared.error.JoinFault.TheVariants.{Line}
use Rattle.mx_module.specs.declared.error.JoinError.{JoinError}
use Rattle.mx_module.specs.declared.error.JoinError.TheVariants as errors
use Rattle.mx_module.specs.declared.link.LinkKind.{LinkKind}
use Rattle.mx_module.specs.declared.link.LinkKind.TheVariants.{Import}
use Rattle.mx_module.specs.Links.{Link}
use Rattle.mx_module.specs.Modules.{ModuleValue, modules_of}
use Rattle.mx_module.specs.LinkFaults.{Refusal, is_exported, exporter, refusal_or, fault_in_modules}

-- the label of this name in a module, if there is a module
abbrev pub label_in : Option ModuleValue → List ℕ → Option Label
label_in (Some m) name = label_named m.labels name
label_in None name = None

-- names and labels, with one more if it is there
abbrev pub with_label : Labels → List ℕ → Option Label → Labels
with_label labels name (Some l) = define labels l name
with_label labels name None = labels

-- the labels with the one that a line imports
abbrev pub with_import : List ModuleValue → ℕ → Labels → LinkKind → Option (List ℕ) → Labels
with_import all place labels Import (Some name) = with_label labels name (label_in (exporter all place name) name)
with_import all place labels _ _ = labels

-- the labels with those that these lines import
abbrev pub with_imports : List ModuleValue → ℕ → Labels → List Link → Labels
with_imports all place labels [] = labels
with_imports all place labels (l ∷ links) = with_imports all place (with_import all place labels l.kind l.name) links

-- what a name stands for in the module at this place: its label of this name, else the label of the module that exports the name
abbrev pub seen_in : List ModuleValue → ℕ → ModuleValue → Labels
seen_in all place m = with_imports all place m.labels m.links

-- the first faulty line, but for import and export lines, of these modules, the first of which is at this place
abbrev pub line_of : ℕ → Option (ℕ × Fault) → Option Refusal
line_of place (Some found) = Some (place + 1, found.0, Line found.1)
line_of place None = None

abbrev pub fault_in_lines : List ModuleValue → ℕ → List ModuleValue → Option Refusal
fault_in_lines all place [] = None
fault_in_lines all place (m ∷ ms) =
    refusal_or (line_of place (first_fault (seen_in all place m) 65536 m.start [] 1 m.lines)) (fault_in_lines all (place + 1) ms)

abbrev pub program_fault : List ModuleValue → Option Refusal
program_fault ms = refusal_or (fault_in_modules ms 0 ms) (fault_in_lines ms 0 ms)

-- the first fault of a program: of an import or export line, or else of another line
unfoldable pub join_fault : List (List ℕ) → Option Refusal
join_fault texts = program_fault (modules_of texts)

-- what the lines of these modules do, each with the number of its line in its text
abbrev pub effects_in : List ModuleValue → ℕ → List ModuleValue → List (ℕ × Effect)
effects_in all place [] = []
effects_in all place (m ∷ ms) = effects_from (seen_in all place m) m.start 1 m.lines ++ effects_in all (place + 1) ms

-- the name of a label in the program: an exported one keeps its name, any other gets `..` and the number of its module
abbrev pub program_name : ModuleValue → ℕ → List ℕ → List ℕ
program_name m place name = if is_exported m name then name else name ++ codes ".." ++ decimal (place + 1)

abbrev pub renamed : ModuleValue → ℕ → List ℕ × Label → List ℕ × Label
renamed m place entry = (program_name m place entry.0, entry.1)

-- the labels of these modules, under their names in the program
abbrev pub labels_in : ℕ → List ModuleValue → Labels
labels_in place [] = []
labels_in place (m ∷ ms) = map (renamed m place) m.labels ++ labels_in (place + 1) ms

-- the program of these modules
abbrev pub program : List ModuleValue → SourceValue
program ms =
    let effects = effects_in ms 0 ms in
    record {
      statements = statements_in effects;
      lines = lines_in effects;
      user_data = values_in effects;
      labels = labels_in 0 ms;
      input = input_in effects;
    }

-- modules without faults make this source
pub record JoinsModules (ms : List ModuleValue) (source : SourceValue) : Type 0 where
  pub faultless : program_fault ms ≡ None
  pub same : source ≡ program ms
  pub apart : AreApart source.labels

-- the source that texts join as
unfoldable pub joined : List (List ℕ) → SourceValue
joined texts = program (modules_of texts)

-- texts without faults join as this source
pub record Joins (texts : List (List ℕ)) (source : SourceValue) : Type 0 where
  pub faultless : join_fault texts ≡ None
  pub same : source ≡ joined texts
  pub apart : AreApart source.labels

-- a program is refused by its first fault; memory may run out
abbrev pub IsJoinRefusal : Option Refusal → JoinError → Type 0
IsJoinRefusal found (errors.Refused m line fault) = found ≡ Some (m, line, fault)
IsJoinRefusal found errors.Memory = Unit {0}
