-- Lines of a translation that work on registers alone, their place in a source, and what runs of the source do with them.
use Rattle.std.specs.Prelude.{◌≡◌, ◌≢◌, ℕ, ◌+◌, ◌^◌, ◌≤◌, ◌<◌, Bool, true, false, cond, eqb, ◌||◌, List, [], ◌∷◌, ◌++◌, All, count_by, Option, Some, None, Ok}
use Rattle.std.specs.Int.{w32, cast_signed}
use Rattle.mx_isa.specs.declared.place.Place.{Place}
use Rattle.mx_isa.specs.Words.{Words, reg}
use Rattle.mx_isa.specs.Effect.{Core, Bus}
use Rattle.mx_isa.specs.UserBus.{is_user}
use Rattle.mx_isa.specs.Views.{sources, dest}
use Rattle.mx_source.specs.declared.statement.Label.TheVariants.{Code, Data}
use Rattle.mx_source.specs.declared.statement.Value.{Value}
use Rattle.mx_source.specs.declared.statement.Value.TheVariants.{Int, Code as CodeValue}
use Rattle.mx_source.specs.SourceValue.{SourceValue}
use Rattle.mx_source.specs.Values.{Values, value_in, is_code}
use Rattle.mx_source.specs.Meaning.{Program as Machine, State, Going, run_for}
use Rattle.mx_lines.specs.Operands.{label_named}
use Rattle.cc_program.specs.declared.program.Program.{Program}
use Rattle.cc_emit.specs.declared.line.Line.{Line}
use Rattle.cc_emit.specs.declared.line.Line.TheVariants.{Plain as PlainLine, Transfer as TransferLine, Constant, Mark, Told}
use Rattle.cc_emit.specs.declared.line.Plain.TheVariants.{Move, Load, Store}
use Rattle.cc_emit.specs.declared.line.Target.TheVariants.{Skip}
use Rattle.cc_emit.specs.declared.line.Transfer.TheVariants.{Branch}
use Rattle.cc_emit.specs.declared.line.Word.TheVariants.{Number}
use Rattle.cc_emit.specs.Lines.{is_statement, is_short}
use Rattle.cc_emit.specs.Statements.{target_label, word_label}
use Rattle.law_emit.specs.Lines.{resolve}
use Rattle.law_emit.specs.Reading.{LineFits}
use Rattle.law_emit.specs.Statements.{instruction}
use Rattle.law_operations.specs.Runs.{marks, ran_lines}

-- a line that works on registers alone: an instruction that neither loads nor stores, a number, a branch to a place of the translation's
-- own, a label, or a comment
abbrev pub is_alone : Line → Bool
is_alone (PlainLine (Load words base rd)) = false
is_alone (PlainLine (Store words base rs)) = false
is_alone (PlainLine plain) = true
is_alone (Constant value rd) = true
is_alone (TransferLine (Branch condition a b (Skip n))) = true
is_alone (Mark target) = true
is_alone (Told unit file line) = true
is_alone _ = false

-- the register that a line writes, or 0
abbrev pub written : Line → ℕ
written (PlainLine plain) = dest (instruction plain)
written (Constant value rd) = rd
written _ = 0

-- the registers that an instruction reads, 0 where it reads fewer than two
abbrev pub read : Line → ℕ × ℕ
read (PlainLine plain) = sources (instruction plain)
read _ = (0, 0)

-- a set of registers with one more
abbrev pub also : (ℕ → Bool) → ℕ → ℕ → Bool
also words d n = eqb n d || words n

-- a register is r0 or in the set
abbrev pub Has : (ℕ → Bool) → ℕ → Type 0
Has words n = also words 0 n ≡ true

-- a set of registers after register rd got the value of rs
abbrev pub copied : (ℕ → Bool) → ℕ → ℕ → ℕ → Bool
copied words rs rd n = cond (eqb n rd) (also words 0 rs) (words n)

-- lines read registers of a set, and such as lines before them write, whether a branch is taken or not. So do those after a place to
-- which one skips. A copy may read any register. The label of each place is after its branches. The registers of the last set are among
-- these at the end
abbrev pub Knows : Option ℕ → (ℕ → Bool) → List Line → (ℕ → Bool) → Type 0
Knows None words [] last = (n : ℕ) → last n ≡ true → words n ≡ true
Knows (Some m) words [] last = ⊥
Knows (Some m) words (line ∷ rest) last = Knows (cond (marks m line) None (Some m)) words rest last
Knows None words (TransferLine (Branch condition a b (Skip m)) ∷ rest) last =
    Has words a × Has words b × Knows None words rest last × Knows (Some m) words rest last
Knows None words (PlainLine (Move rs rd) ∷ rest) last = Knows None (copied words rs rd) rest last
Knows None words (line ∷ rest) last = Has words (read line).0 × Has words (read line).1 × Knows None (also words (written line)) rest last

-- lines are the statements of a source between those of other lines, and the labels of their places name the statements after them
pub record IsAt (p : Program) (source : SourceValue) (before code after : List Line) : Type 0 where
  pub fits : All (LineFits p) (before ++ (code ++ after))
  pub resolved : resolve source.labels p (before ++ (code ++ after)) ≡ Ok source.statements
  pub marks : (first rest : List Line) (n : ℕ) → code ≡ first ++ Mark (Skip n) ∷ rest
      → label_named source.labels (target_label p.symbols.list.items (Skip n)) ≡ Some (Code (count_by is_statement (before ++ first)))

-- a number is a word of user data, where its label says
pub record IsHeld (source : SourceValue) (place : Place) (mem : Values) (value : ℕ) : Type 0 where
  pub address : ℕ
  pub label : label_named source.labels (word_label (Number value)) ≡ Some (Data address)
  pub user : is_user place address ≡ true
  pub word : mem address ≡ Int value

-- the number of a line is, if it is too long for an instruction
abbrev pub NumberHeld : SourceValue → Place → Values → Line → Type 0
NumberHeld source place mem (Constant value rd) = is_short (cast_signed w32 value) ≡ false → IsHeld source place mem value
NumberHeld source place mem _ = Unit {0}

-- registers of a set hold words
abbrev pub HoldWords : (ℕ → Bool) → State → Type 0
HoldWords words s = (n : ℕ) → words n ≡ true → is_code (value_in s.regs n) ≡ false

-- values as words, where places of code are any words
abbrev pub AreWords : (ℕ → ℕ) → Type 0
AreWords link = (i : ℕ) → link i < 2 ^ 32

abbrev pub as_word : (ℕ → ℕ) → Value → ℕ
as_word link (Int word) = word
as_word link (CodeValue i) = link i

abbrev pub as_words : (ℕ → ℕ) → Values → Words
as_words link f n = as_word link (f n)

abbrev pub core_of : (ℕ → ℕ) → State → Core
core_of link s = record { regs = as_words link s.regs; md = s.md; mem = as_words link s.mem; taken = s.taken }

-- a run is at the first statement after these lines
pub record ComesTo (before : List Line) (s : State) : Type 0 where
  pub index : s.index ≡ count_by is_statement before
  pub going : s.mark ≡ Going

-- from a state, at most so many steps as lines have statements lead to their end. They send nothing, and do to the registers what the
-- lines do to words, whatever words places of code are. Registers of the last set hold words then. A register that no line writes holds
-- what it held, and MD, data and input are as before
pub record Runs (machine : Machine) (code : List Line) (last : ℕ → Bool) (bus : Bus) (s : State) : Type 0 where
  pub steps : ℕ
  pub few : steps ≤ count_by is_statement code
  pub after : State
  pub runs : (console : List ℕ) → run_for machine steps (record { state = s; console = console }) ≡ record { state = after; console = console }
  pub index : after.index ≡ s.index + count_by is_statement code
  pub going : after.mark ≡ Going
  pub core : (link : ℕ → ℕ) → AreWords link → core_of link after ≡ ran_lines bus code (core_of link s)
  pub words : (n : ℕ) → last n ≡ true → (link : ℕ → ℕ) → AreWords link → value_in after.regs n ≡ Int (reg (ran_lines bus code (core_of link s)).regs n)
  pub places : (n i : ℕ) → ((link : ℕ → ℕ) → AreWords link → reg (ran_lines bus code (core_of link s)).regs n ≡ link i)
      → value_in after.regs n ≡ CodeValue i
  pub kept : (n : ℕ) → All (λ line. written line ≢ n) code → after.regs n ≡ s.regs n
  pub md : after.md ≡ s.md
  pub mem : after.mem ≡ s.mem
  pub taken : after.taken ≡ s.taken
