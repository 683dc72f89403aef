-- The modules of a program.
use Rattle.std.specs.Prelude.{ℕ, List, [], ◌∷◌, map}
use Rattle.mx_lex.specs.Lines.{lines_of}
use Rattle.mx_asm.specs.declared.Position.{Position}
use Rattle.mx_asm.specs.declared.Section.TheVariants as section
use Rattle.mx_lines.specs.Instructions.{Labels}
use Rattle.mx_asm.specs.Positions.{labels_from, position_at_end, start}
use Rattle.mx_module.specs.Links.{Link, link_lines_from, plain_line}
use Rattle.mx_module.specs.ExportTable.{Exports, exports_from}

-- a module: where it begins, its lines as the assembler reads them, its imports and exports, and its labels
pub record ModuleValue : Type 0 where
  pub start : Position
  pub lines : List (List ℕ)
  pub links : List Link
  pub labels : Labels

-- what the assembler reads of a text
abbrev pub plain_lines : List ℕ → List (List ℕ)
plain_lines text = map plain_line (lines_of text)

-- the module of a text that begins here
abbrev pub module_at : Position → List ℕ → ModuleValue
module_at p text = record { start = p; lines = plain_lines text; links = link_lines_from 1 (lines_of text); labels = labels_from p [] (plain_lines text) }

-- where the next text begins: behind the statements and data words, in the code section
abbrev pub in_code : Position → Position
in_code p = record { section = section.Code; index = p.index; address = p.address }

abbrev pub behind_text : Position → List ℕ → Position
behind_text p text = in_code (position_at_end p (plain_lines text))

-- the modules of texts, one after the other
abbrev pub modules_from : Position → List (List ℕ) → List ModuleValue
modules_from p [] = []
modules_from p (text ∷ texts) = module_at p text ∷ modules_from (behind_text p text) texts

abbrev pub modules_of : List (List ℕ) → List ModuleValue
modules_of texts = modules_from (start 256) texts

-- the names that a module exports, each with its first line
abbrev pub exports_of : ModuleValue → Exports
exports_of m = exports_from [] m.links
