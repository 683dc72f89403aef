-- What the lines before a line, or all lines of a text, decide about it.
use Rattle.std.specs.Prelude.{ℕ, Bool, false, not, ◌||◌, List, [], ◌∷◌, filter, filter_map, sum_by, unwrap_or, bytes_eq, Option, Some, None, if◌then◌else◌}
use Rattle.std.specs.List.{list_any, last_or}
use Rattle.mx_asm.specs.declared.position.Section.{Section}
use Rattle.mx_asm.specs.declared.position.Section.TheVariants as section
use Rattle.mx_asm.specs.declared.directive.Directive.{Directive}
use Rattle.mx_asm.specs.declared.directive.Directive.TheVariants as d
use Rattle.mx_lines.specs.Words.{Word, Name}
use Rattle.mx_asm.specs.Directives.{is_dotted, directive_named}
use Rattle.mx_asm.specs.Positions.{front_names, statement_words, line_words, instruction_count, word_count}

-- the words of the statement of a line: none where the line does not split into tokens
abbrev pub statement : List ℕ → List Word
statement line = statement_words (line_words line)

-- the section of these two directives
abbrev pub directed_to : Option Directive → Option Section
directed_to (Some d.Code) = Some section.Code
directed_to (Some d.Data) = Some section.Data
directed_to _ = None

-- the section that a statement sets: one that is exactly `.code` or `.data`
abbrev pub sets_section : List Word → Option Section
sets_section (Name name ∷ []) = directed_to (directive_named name)
sets_section _ = None

-- the section behind the lines with which a text begins: the last one that is set, or code
abbrev pub section_behind : List (List ℕ) → Section
section_behind lines = unwrap_or (last_or None (filter_map (λ line. sets_section (statement line)) lines)) section.Code

-- the names at the front of a line that are labels
abbrev pub front_labels : List ℕ → List (List ℕ)
front_labels line = filter (λ name. not (is_dotted name)) (front_names (line_words line))

-- a line defines a label of this name
abbrev pub defines : List ℕ → List ℕ → Bool
defines name line = list_any (bytes_eq name) (front_labels line)

-- the lines before the first that defines a label of this name
abbrev pub before_definition : List ℕ → List (List ℕ) → List (List ℕ)
before_definition name [] = []
before_definition name (line ∷ lines) = if defines name line then [] else line ∷ before_definition name lines

-- whether a name is a code label or a data label of a text, if it is one: the section of the first line that defines it
abbrev pub kind_in : List (List ℕ) → List ℕ → Option Section
kind_in lines name = if list_any (defines name) lines then Some (section_behind (before_definition name lines)) else None

-- a name stands twice among these
abbrev pub has_twice : List (List ℕ) → Bool
has_twice [] = false
has_twice (name ∷ names) = list_any (bytes_eq name) names || has_twice names

-- how many instructions stand on these lines
abbrev pub instructions : List (List ℕ) → ℕ
instructions lines = sum_by (λ line. instruction_count (statement line)) lines

-- how many data words stand on these lines
abbrev pub data_words : List (List ℕ) → ℕ
data_words lines = sum_by (λ line. word_count (statement line)) lines
