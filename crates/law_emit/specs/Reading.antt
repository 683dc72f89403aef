-- How the text of a line is read.
use Rattle.std.specs.Prelude.{◌≡◌, ℕ, ◌+◌, ◌^◌, ◌≤◌, ◌<◌, Bool, true, false, cond, not, ◌||◌, ◌==◌, nat_eq, nat_le, ◌⊎◌, List, [], ◌∷◌, ◌++◌, length, Option, Some, None, Result, Ok}
use Rattle.std.specs.List.{list_all, ends_with}
use Rattle.std.specs.Borrow.{Bor}
use Rattle.mx_isa.specs.Fields.{IsSignedField}
use Rattle.mx_isa.specs.Registers.{IsRegister}
use Rattle.mx_lex.specs.Lines.{lines_of}
use Rattle.mx_source.specs.declared.statement.Statement.{Statement}
use Rattle.mx_source.specs.declared.statement.Statement.TheVariants as statement
use Rattle.mx_lines.specs.declared.fault.Fault.{Fault}
use Rattle.mx_lines.specs.declared.labels.TheConstants.{PAST_END}
use Rattle.mx_lines.specs.Instructions.{Labels, instruction as instruction_read}
use Rattle.mx_lines.specs.Reading.{◌>>=◌}
use Rattle.mx_lines.specs.Words.{Word as TextWord, Name}
use Rattle.mx_asm.specs.declared.position.Section.TheVariants as section
use Rattle.mx_asm.specs.declared.position.Position.{Position}
use Rattle.mx_asm.specs.Directives.{Effect, Nothing, Instruction, effect_of, is_dotted}
use Rattle.mx_asm.specs.Positions.{front_names, statement_words, line_words, section_after, instruction_count, after}
use Rattle.mx_asm.specs.Printable.{is_name}
use Rattle.cc_program.specs.declared.symbols.Symbol.{Symbol}
use Rattle.cc_program.specs.declared.program.Program.{Program}
use Rattle.cc_emit.specs.declared.line.Plain.{Plain}
use Rattle.cc_emit.specs.declared.line.Plain.TheVariants.{Compute, Move, Not, Addi, Asr, Sh, Load, Store}
use Rattle.cc_emit.specs.declared.line.Word.{Word}
use Rattle.cc_emit.specs.declared.line.Word.TheVariants.{Number, End}
use Rattle.cc_emit.specs.declared.line.Transfer.{Transfer}
use Rattle.cc_emit.specs.declared.line.Transfer.TheVariants.{Branch, Jump, Call, CallReg, JumpReg, Halt}
use Rattle.cc_emit.specs.declared.line.Target.{Target}
use Rattle.cc_emit.specs.declared.line.Target.TheVariants.{Symbol as SymbolTarget, Routine, Shifted, Skip}
use Rattle.cc_emit.specs.declared.line.Line.{Line}
use Rattle.cc_emit.specs.declared.line.Line.TheVariants.{Plain as PlainLine, Transfer as TransferLine, Constant, Take, Mark, Told, Written}
use Rattle.cc_emit.specs.Lines.{line_text, file_name, is_statement}
use Rattle.cc_emit.specs.Names.{symbol_text}
use Rattle.cc_emit.specs.Statements.{target_label}
use Rattle.law_emit.specs.Statements.{instruction, transfer_statement, take_statement, constant_statement}

-- the statement of words that begin with a mnemonic
abbrev pub words_statement : Labels → List TextWord → Option (Result Statement Fault)
words_statement labels (Name name ∷ words) = Some (instruction_read labels name words)
words_statement labels _ = None

-- the statement that a line is: a line of a routine is a text, and is whatever statement the text is
abbrev pub line_statement : Labels → Program → Line → Option (Result Statement Fault)
line_statement labels p (PlainLine plain) = Some (Ok (statement.Plain (instruction plain)))
line_statement labels p (Constant value rd) = Some (constant_statement labels value rd)
line_statement labels p (Take word base rd) = Some (take_statement labels word base rd)
line_statement labels p (TransferLine transfer) = Some (transfer_statement labels p.symbols.list.items transfer)
line_statement labels p (Mark target) = None
line_statement labels p (Told unit file line) = None
line_statement labels p (Written text) = words_statement labels (statement_words (line_words text.now))

-- the labels that a line defines
abbrev pub line_names : Program → Line → List (List ℕ)
line_names p (Mark target) = target_label p.symbols.list.items target ∷ []
line_names p (Written text) = front_names (line_words text.now)
line_names p _ = []

-- a line of a routine is a statement, unless a `:` ends it
abbrev pub written_count : List ℕ → ℕ
written_count text = cond (not (ends_with nat_eq text (58 ∷ []))) 1 0

-- how many statements a line is
abbrev pub statement_count : Line → ℕ
statement_count line = cond (is_statement line) 1 0

-- what a statement does, or its fault
abbrev pub effect_from : Option (Result Statement Fault) → Result Effect Fault
effect_from None = Ok Nothing
effect_from (Some result) = result >>= λ s. Ok (Instruction s)

-- a place of the code
abbrev pub code_at : ℕ → ℕ → Position
code_at index address = record { section = section.Code; index = index; address = address }

-- the text is one line, which defines these labels, and the assembler reads it as this statement or finds its fault
pub record ReadsAs (labels : Labels) (text : List ℕ) (names : List (List ℕ)) (count : ℕ) (said : Option (Result Statement Fault)) : Type 0 where
  pub line : List ℕ
  pub alone : (rest : List ℕ) → lines_of (text ++ rest) ≡ line ∷ lines_of rest
  pub labelled : front_names (line_words line) ≡ names
  pub effect : effect_of labels section.Code (statement_words (line_words line)) ≡ effect_from said
  pub next : (index address : ℕ) → address ≤ PAST_END → after (code_at index address) (line_words line) ≡ code_at (index + count) address

-- there is no text, and it is for no label and no statement
pub record IsSilent (text : List ℕ) (names : List (List ℕ)) (count : ℕ) (said : Option (Result Statement Fault)) : Type 0 where
  pub untold : text ≡ []
  pub unlabelled : names ≡ []
  pub uncounted : count ≡ 0
  pub unsaid : said ≡ None

abbrev pub Reads : Labels → List ℕ → List (List ℕ) → ℕ → Option (Result Statement Fault) → Type 0
Reads labels text names count said = IsSilent text names count said ⊎ ReadsAs labels text names count said

-- the text of a line is read as the statement and the labels that the line is
abbrev pub LineReads : Labels → Program → Line → Type 0
LineReads labels p line = Reads labels (line_text p line) (line_names p line) (statement_count line) (line_statement labels p line)

-- registers and numbers are in the range of an instruction
abbrev pub PlainFits : Plain → Type 0
PlainFits (Compute computed a b rd) = IsRegister a × IsRegister b × IsRegister rd
PlainFits (Move rs rd) = IsRegister rs × IsRegister rd
PlainFits (Not rs rd) = IsRegister rs × IsRegister rd
PlainFits (Addi rs number rd) = IsRegister rs × IsSignedField 16 number × IsRegister rd
PlainFits (Asr rs count rd) = IsRegister rs × (count ≤ 31) × IsRegister rd
PlainFits (Sh a b count rd) = IsRegister a × IsRegister b × (count ≤ 31) × IsRegister rd
PlainFits (Load words base rd) = IsSignedField 16 words × IsRegister base × IsRegister rd
PlainFits (Store words base rs) = IsSignedField 16 words × IsRegister base × IsRegister rs

-- numbers in the labels of words that the translation adds have 32 bits
abbrev pub WordFits : Word → Type 0
WordFits (Number n) = n < 2 ^ 32
WordFits (End addend) = addend < 2 ^ 32
WordFits _ = Unit {0}

-- the label of a symbol is a name of the language; numbers in other labels have 8 or 32 bits
abbrev pub TargetFits : List Symbol → Target → Type 0
TargetFits symbols (SymbolTarget number) = is_name (symbol_text symbols number) ≡ true
TargetFits symbols (Routine routine) = Unit {0}
TargetFits symbols (Shifted routine count) = count < 2 ^ 8
TargetFits symbols (Skip number) = number < 2 ^ 32

abbrev pub TransferFits : List Symbol → Transfer → Type 0
TransferFits symbols (Branch condition a b to) = IsRegister a × IsRegister b × TargetFits symbols to
TransferFits symbols (Jump to) = TargetFits symbols to
TransferFits symbols (Call to link) = TargetFits symbols to × IsRegister link
TransferFits symbols (CallReg rs link) = IsRegister rs × IsRegister link
TransferFits symbols (JumpReg rs) = IsRegister rs
TransferFits symbols Halt = Unit {0}

-- no byte ends a line
abbrev pub is_one_line : List ℕ → Bool
is_one_line text = list_all (λ b. not (b == 10 || b == 13)) text

-- no byte of the name of a file ends a line, unless the name is too long for a comment
abbrev pub FileFits : Option (Bor (List ℕ)) → Type 0
FileFits None = Unit {0}
FileFits (Some name) = nat_le (length name.now) 160 ≡ true → is_one_line name.now ≡ true

-- words begin with a mnemonic, or there are none
abbrev pub IsCode : List TextWord → Type 0
IsCode [] = Unit {0}
IsCode (Name name ∷ words) = is_dotted name ≡ false
IsCode _ = ⊥

-- the text of a routine's line is one line, with a label or a statement
pub record WrittenFits (text : List ℕ) : Type 0 where
  pub one : is_one_line text ≡ true
  pub code : IsCode (statement_words (line_words text))
  pub stays : section_after section.Code (statement_words (line_words text)) ≡ section.Code
  pub counts : instruction_count (statement_words (line_words text)) ≡ written_count text

abbrev pub LineFits : Program → Line → Type 0
LineFits p (PlainLine plain) = PlainFits plain
LineFits p (Constant value rd) = (value < 2 ^ 32) × IsRegister rd
LineFits p (Take word base rd) = WordFits word × IsRegister base × IsRegister rd
LineFits p (TransferLine transfer) = TransferFits p.symbols.list.items transfer
LineFits p (Mark target) = TargetFits p.symbols.list.items target
LineFits p (Told unit file line) = FileFits (file_name p unit file) × (line < 2 ^ 32)
LineFits p (Written text) = WrittenFits text.now
