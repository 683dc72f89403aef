-- Where a line stands, and what its labels name.
use Rattle.std.specs.Prelude.{ℕ, ◌+◌, ◌/◌, min, Bool, true, false, not, ◌||◌, ◌&&◌, List, [], ◌∷◌, ◌++◌, length, Option, Some, Result, Ok, Err, is_some, if◌then◌else◌}
use Rattle.std.specs.List.{list_any}
use Rattle.mx_source.specs.declared.statement.Label.{Label}
use Rattle.mx_source.specs.declared.statement.Label.TheVariants as label
use Rattle.mx_lines.specs.declared.fault.Fault.{Fault}
use Rattle.mx_asm.specs.declared.position.Section.{Section}
use Rattle.mx_asm.specs.declared.position.Section.TheVariants as section
use Rattle.mx_asm.specs.declared.position.Position.{Position}
use Rattle.mx_asm.specs.declared.directive.Directive.{Directive}
use Rattle.mx_asm.specs.declared.directive.Directive.TheVariants as d
use Rattle.mx_lines.specs.Words.{Word, Name, Colon, words_of}
use Rattle.mx_lines.specs.Operands.{label_named}
use Rattle.mx_lines.specs.Instructions.{Labels}
use Rattle.mx_lines.specs.declared.labels.TheConstants.{PAST_END}
use Rattle.mx_asm.specs.Directives.{is_dotted, directive_named, space_count}

-- the names at the front of a line that a `:` follows
abbrev pub front_names : List Word → List (List ℕ)
front_names (Name name ∷ Colon ∷ words) = name ∷ front_names words
front_names _ = []

-- a name and a `:` stand at the front
abbrev pub begins_label : List Word → Bool
begins_label (Name name ∷ Colon ∷ words) = true
begins_label _ = false

-- the name at the front
abbrev pub first_name : List Word → List ℕ
first_name (Name name ∷ words) = name
first_name _ = []

-- what stands behind the labels at the front
abbrev pub statement_words : List Word → List Word
statement_words (Name name ∷ Colon ∷ words) = statement_words words
statement_words words = words

-- a name that begins with `.` stands in the place of a label
abbrev pub has_dotted_label : List Word → Bool
has_dotted_label words = list_any is_dotted (front_names words)

-- a label stands at the front
abbrev pub has_label : List Word → Bool
has_label words = list_any (λ name. not (is_dotted name)) (front_names words)

-- the section behind a statement: `.code` and `.data` alone change it
abbrev pub directs : Section → Option Directive → Section
directs s (Some d.Code) = section.Code
directs s (Some d.Data) = section.Data
directs s _ = s

-- the section behind a line with this statement
abbrev pub section_after : Section → List Word → Section
section_after s (Name name ∷ []) = directs s (directive_named name)
section_after s _ = s

-- how many instructions a statement is
abbrev pub instruction_count : List Word → ℕ
instruction_count (Name name ∷ words) = if is_dotted name then 0 else 1
instruction_count _ = 0

-- a number that was read, or 0
abbrev pub ok_or_zero : Result ℕ Fault → ℕ
ok_or_zero (Ok n) = n
ok_or_zero (Err fault) = 0

-- how many data words a directive asks for: one for each value, with a `,` between two
abbrev pub asked : Option Directive → List Word → ℕ
asked (Some d.Word) words = (length words + 1) / 2
asked (Some d.Space) words = ok_or_zero (space_count words)
asked _ words = 0

-- how many data words a statement is
abbrev pub word_count : List Word → ℕ
word_count (Name name ∷ words) = if is_dotted name then asked (directive_named name) words else 0
word_count _ = 0

-- where the line behind a statement stands: its section, the index of the next instruction and the address of the next data word.
-- Addresses past the end of memory count as `PAST_END`.
unfoldable pub behind : Position → List Word → Position
behind p statement =
    record {
      section = section_after p.section statement;
      index = p.index + instruction_count statement;
      address = min (p.address + word_count statement) PAST_END;
    }

-- where the line behind a line of these words stands
abbrev pub after : Position → List Word → Position
after p words = behind p (statement_words words)

-- what a label that stands here names
abbrev pub label_at : Section → ℕ → ℕ → Label
label_at section.Code index address = label.Code index
label_at section.Data index address = label.Data address

-- what a label names at this position
abbrev pub label_here : Position → Label
label_here p = label_at p.section p.index p.address

-- a label of this name is defined; a name that begins with `.` is no label
abbrev pub is_defined : Labels → List ℕ → Bool
is_defined labels name = not (is_dotted name) && is_some (label_named labels name)

-- the labels with one more: of a name that is defined more than once the first definition holds
unfoldable pub define : Labels → Label → List ℕ → Labels
define labels l name = if is_dotted name || is_some (label_named labels name) then labels else labels ++ (name, l) ∷ []

-- the labels with those at the front of a line
abbrev pub define_front : Labels → Label → List Word → Labels
define_front labels l (Name name ∷ Colon ∷ words) = define_front (define labels l name) l words
define_front labels l _ = labels

-- a label at the front of a line is defined before, or earlier on this line
abbrev pub is_repeated : Labels → Label → List Word → Bool
is_repeated labels l (Name name ∷ Colon ∷ words) = is_defined labels name || is_repeated (define labels l name) l words
is_repeated labels l _ = false

-- the words of a line, none where the line does not split into tokens
abbrev pub words_or_none : Result (List Word) Fault → List Word
words_or_none (Ok words) = words
words_or_none (Err fault) = []

-- the words of a line
abbrev pub line_words : List ℕ → List Word
line_words line = words_or_none (words_of line)

-- the labels with those of a line that stands here
abbrev pub with_labels : Position → Labels → List Word → Labels
with_labels p labels words = define_front labels (label_here p) words

-- the labels with those of all lines from a position on
abbrev pub labels_from : Position → Labels → List (List ℕ) → Labels
labels_from p labels [] = labels
labels_from p labels (line ∷ lines) = labels_from (after p (line_words line)) (with_labels p labels (line_words line)) lines

-- where a text begins
abbrev pub start : ℕ → Position
start address = record { section = section.Code; index = 0; address = address }

-- where the lines from a position on end
abbrev pub position_at_end : Position → List (List ℕ) → Position
position_at_end p [] = p
position_at_end p (line ∷ lines) = position_at_end (after p (line_words line)) lines
