-- Import and export lines.
use Rattle.std.specs.Prelude.{ℕ, ◌+◌, Bool, false, not, ◌&&◌, ◌||◌, ◌==◌, min, replicate, length, List, [], ◌∷◌, Option, Some, None, is_some, codes, if◌then◌else◌}
use Rattle.std.specs.Str.{str_eq_ignore_ascii_case}
use Rattle.mx_lines.specs.Words.{Word, Name}
use Rattle.mx_asm.specs.Directives.{is_dotted}
use Rattle.mx_asm.specs.Positions.{begins_label, statement_words, line_words}
use Rattle.mx_module.specs.declared.link.LinkKind.{LinkKind}
use Rattle.mx_module.specs.declared.link.LinkKind.TheVariants.{Import, Export}

-- `.import` or `.export`, in either case
abbrev pub kind_named : List ℕ → Option LinkKind
kind_named name =
    if str_eq_ignore_ascii_case name (codes ".import") then Some Import
    else (if str_eq_ignore_ascii_case name (codes ".export") then Some Export else None)

-- the statement begins with `.import` or `.export`
abbrev pub kind_of : List Word → Option LinkKind
kind_of (Name name ∷ words) = kind_named name
kind_of _ = None

-- a byte and those behind it begin with `..`
abbrev pub begins_two_dots : ℕ → List ℕ → Bool
begins_two_dots a [] = false
begins_two_dots a (b ∷ bytes) = a == 46 && b == 46

-- `..` stands in a name
abbrev pub has_two_dots : List ℕ → Bool
has_two_dots [] = false
has_two_dots (a ∷ bytes) = begins_two_dots a bytes || has_two_dots bytes

-- a name that may be imported: it does not begin with `.`; one that may be exported has no `..` either
abbrev pub may_link : LinkKind → List ℕ → Bool
may_link Import name = not (is_dotted name)
may_link Export name = not (is_dotted name) && not (has_two_dots name)

-- the name in a statement of exactly two names, if it may be linked
abbrev pub link_name : LinkKind → List Word → Option (List ℕ)
link_name kind (Name directive ∷ Name name ∷ []) = if may_link kind name then Some name else None
link_name kind _ = None

-- an import or export line: its number, and the name that it links. A line that has a label, or that names none that may be linked, links none.
pub record Link : Type 0 where
  pub number : ℕ
  pub kind : LinkKind
  pub name : Option (List ℕ)

-- what a line of this kind links
abbrev pub linked : ℕ → LinkKind → List Word → Link
linked number kind words = record { number = number; kind = kind; name = if begins_label words then None else link_name kind (statement_words words) }

-- the import or export of a line, before those of later lines
abbrev pub with_link : ℕ → Option LinkKind → List Word → List Link → List Link
with_link number (Some kind) words later = linked number kind words ∷ later
with_link number None words later = later

-- the import or export of a line, if it is one
abbrev pub link_here : ℕ → List Word → List Link
link_here number words = with_link number (kind_of (statement_words words)) words []

-- the import and export lines from a line number on
abbrev pub link_lines_from : ℕ → List (List ℕ) → List Link
link_lines_from number [] = []
link_lines_from number (line ∷ lines) = with_link number (kind_of (statement_words (line_words line))) (line_words line) (link_lines_from (number + 1) lines)

-- a line that has no label and imports or exports
abbrev pub is_bare_link : List Word → Bool
is_bare_link words = not (begins_label words) && is_some (kind_of (statement_words words))

-- as many blanks as a line has bytes, but 256 at most
abbrev pub blanks : ℕ → List ℕ
blanks long = replicate (min long 256) 32

-- the line as the assembler reads it: an import or export is blank there
abbrev pub plain_line : List ℕ → List ℕ
plain_line line = if is_bare_link (line_words line) then blanks (length line) else line
