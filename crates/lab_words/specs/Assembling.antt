-- That a line in assembly language is assembled to a word.
use Rattle.std.specs.Prelude.{◌≡◌, ℕ, ◌==◌, Bool, true, false, ◌&&◌, ◌||◌, List, All, Option, Ok, is_some, is_none}
use Rattle.mx_isa.specs.declared.inst.Inst.{Inst}
use Rattle.mx_isa.specs.declared.inst.Inst.TheVariants.{Load, Store, Branch, Compute, Addi, MoveFrom, MoveTo, Jspci, Jpc, Jpcrs, Halt}
use Rattle.mx_isa.specs.Views.{is_md}
use Rattle.mx_code.specs.Codes.{word_of_row}
use Rattle.mx_source.specs.declared.statement.Statement.{Statement}
use Rattle.mx_source.specs.declared.statement.Label.{Label}
use Rattle.mx_source.specs.Labels.{LabelFits}
use Rattle.mx_source.specs.Names.{AreApart}
use Rattle.mx_lines.specs.Words.{Word, words_of}
use Rattle.mx_lines.specs.Instructions.{Labels}
use Rattle.mx_asm.specs.declared.position.Section.TheVariants as section
use Rattle.mx_asm.specs.Directives.{Instruction, effect_of}
use Rattle.mx_asm.specs.Positions.{begins_label}
use Rattle.mx_asm.specs.Printable.{IsLabelName}
use Rattle.mx_squash.specs.Copies.{no_copies}
use Rattle.mx_link.specs.Words.{linked_inst}
use Rattle.lab_words.specs.Naming.{Naming}
use Rattle.lab_words.specs.Texts.{target, data_label, is_zero, made_label}

-- the line has no label at its front, and in the code section of a text with these labels it is read as this statement
pub record ReadsAs (labels : Labels) (line : List ℕ) (statement : Statement) : Type 0 where
  pub words : List Word
  pub split : words_of line ≡ Ok words
  pub unlabelled : begins_label words ≡ false
  pub says : effect_of labels section.Code words ≡ Ok (Instruction statement)

-- the line is read as a statement that has this word at this address, where the blocks begin as the link map says
pub record AssemblesTo (labels : Labels) (link : ℕ → ℕ) (address : ℕ) (line : List ℕ) (word : ℕ) : Type 0 where
  pub statement : Statement
  pub read : ReadsAs labels line statement
  pub word_is : word_of_row (linked_inst link no_copies address statement) ≡ word

-- labels of a source of so many statements: each names one of them, the end or a data word, by a name of the language, no two the same
pub record AreLabels (count : ℕ) (labels : Labels) : Type 0 where
  pub fit : All (λ (p : List ℕ × Label). LabelFits count p.1) labels
  pub names : All (λ (p : List ℕ × Label). IsLabelName p.0) labels
  pub apart : AreApart labels

-- What a line of a source may ask for: of the moves those of MD, of the branches those that cancel nothing and lead to a label, of the jumps
-- those by a register alone, and those to a label.
abbrev pub HasLine : Naming → ℕ → Inst → Type 0
HasLine names address (Load base dest offset) = Unit {0}
HasLine names address (Store base value offset) = Unit {0}
HasLine names address (Branch a b condition squash by) = (squash ≡ false) × (is_some (names.code (target address by)) ≡ true)
HasLine names address (Compute a dest b op) = Unit {0}
HasLine names address (Addi a dest imm) = Unit {0}
HasLine names address (MoveFrom dest special) = is_md special ≡ true
HasLine names address (MoveTo a special) = is_md special ≡ true
HasLine names address (Jspci a dest imm) = (is_zero imm || (a == 0 && is_some (names.code (target 0 imm)))) ≡ true
HasLine names address Jpc = ⊥
HasLine names address Jpcrs = ⊥
HasLine names address Halt = Unit {0}

-- no number in it is told by a label
abbrev pub is_numbered : Naming → Option ℕ → Inst → Bool
is_numbered names aim (Load base dest offset) = is_none (data_label names offset)
is_numbered names aim (Store base value offset) = is_none (data_label names offset)
is_numbered names aim (Addi a dest imm) = is_none (made_label names aim a imm)
is_numbered names aim _ = true
