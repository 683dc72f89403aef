-- What may stand in a source with these labels and so many statements.
use Rattle.std.specs.Prelude.{ℕ, ◌<◌, Bool, true, false, List, All, Result, IfOk}
use Rattle.mx_isa.specs.declared.board.TheConstants.{DATA_END}
use Rattle.mx_source.specs.declared.statement.Label.{Label}
use Rattle.mx_source.specs.declared.statement.Label.TheVariants.{Code, Data}
use Rattle.mx_source.specs.declared.statement.Statement.{Statement}
use Rattle.mx_source.specs.Labels.{LabelFits, IsPlace}
use Rattle.mx_source.specs.Statements.{StatementFits}
use Rattle.mx_isa.specs.declared.inst.Op.{Op}
use Rattle.mx_isa.specs.declared.inst.Op.TheVariants.{Not, Mstart, Asr, Sh}
use Rattle.mx_lines.specs.declared.mnemonic.Mnemonic.{Mnemonic}
use Rattle.mx_lines.specs.declared.mnemonic.Mnemonic.TheVariants.{Compute}
use Rattle.mx_lines.specs.declared.fault.Fault.{Fault}

-- each label fits in a source of so many statements
abbrev pub LabelsFit : ℕ → List (List ℕ × Label) → Type 0
LabelsFit count labels = All (λ (p : List ℕ × Label). LabelFits count p.1) labels

-- what a label names there is a place of the source, or an address below 65536
abbrev pub NamedFits : List (List ℕ × Label) → ℕ → Label → Type 0
NamedFits labels count (Code i) = IsPlace labels count i
NamedFits labels count (Data a) = a < DATA_END

-- a statement that was read fits in whatever source
abbrev pub FitsAlone : Result Statement Fault → Type 0
FitsAlone result = (labels : List (List ℕ × Label)) (count : ℕ) → IfOk result (StatementFits (IsPlace labels count))

-- a statement that was read by these labels fits in a source that has them
abbrev pub FitsBy : List (List ℕ × Label) → Result Statement Fault → Type 0
FitsBy labels result = (count : ℕ) → LabelsFit count labels → IfOk result (StatementFits (IsPlace labels count))

-- the operation has two sources and no count
abbrev pub uses_both : Op → Bool
uses_both Not = false
uses_both Mstart = false
uses_both (Asr n) = false
uses_both (Sh n) = false
uses_both _ = true

-- a mnemonic of three registers has such an operation
abbrev pub is_regular : Mnemonic → Bool
is_regular (Compute op) = uses_both op
is_regular _ = true
