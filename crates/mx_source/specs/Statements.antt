-- What statements and values may stand in a source.
use Rattle.std.specs.Prelude.{◌≡◌, ℕ, true}
use Rattle.mx_isa.specs.declared.inst.Inst.{Inst}
use Rattle.mx_isa.specs.declared.inst.Inst.TheVariants.{Load, Store, Compute, Addi, MoveFrom, MoveTo}
use Rattle.mx_isa.specs.Fields.{InstFits}
use Rattle.mx_isa.specs.Views.{is_md}
use Rattle.mx_source.specs.declared.statement.Value.{Value}
use Rattle.mx_source.specs.declared.statement.Value.TheVariants.{Int, Code}
use Rattle.mx_source.specs.declared.statement.Statement.{Statement}
use Rattle.mx_source.specs.declared.statement.Statement.TheVariants.{Plain, LaCode, Branch, Call}

-- the instructions that are statements as they are: loads, stores, compute instructions, addi, and moves of MD
abbrev pub IsPlain : Inst → Type 0
IsPlain (Load base dest offset) = Unit {0}
IsPlain (Store base value offset) = Unit {0}
IsPlain (Compute a dest b op) = Unit {0}
IsPlain (Addi a dest imm) = Unit {0}
IsPlain (MoveFrom dest special) = is_md special ≡ true
IsPlain (MoveTo a special) = is_md special ≡ true
IsPlain _ = ⊥

-- the instruction of a statement fits, and its target is a place of the source
abbrev pub StatementFits : (ℕ → Type 0) → Statement → Type 0
StatementFits IsPlace (Plain inst) = IsPlain inst × InstFits inst
StatementFits IsPlace (LaCode dest target) = IsPlace target
StatementFits IsPlace (Branch a b cond target) = IsPlace target
StatementFits IsPlace (Call dest target) = IsPlace target
StatementFits IsPlace _ = Unit {0}

-- a place of code among the data is a place of the source
abbrev pub ValueFits : (ℕ → Type 0) → Value → Type 0
ValueFits IsPlace (Int word) = Unit {0}
ValueFits IsPlace (Code i) = IsPlace i
