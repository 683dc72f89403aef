-- Code words, decoded once.
use Rattle.std.specs.Prelude.{ℕ, List, unwrap_or, slice_get}
use Rattle.mx_isa.specs.declared.inst.Inst.{Inst}
use Rattle.mx_isa.specs.declared.inst.Inst.TheVariants.{Compute}
use Rattle.mx_isa.specs.Arithmetic.{CountFits}
use Rattle.mx_code.specs.Decoding.{inst_of}
use Rattle.mx_delay.specs.Delay.{Code, idle}

-- what a word does; one that spells nothing does nothing
abbrev pub what_of : ℕ → Inst
what_of word = unwrap_or (inst_of word) idle

-- the code that these instructions are, from address 0 on, and the no-op behind them
abbrev pub code_in : List Inst → Code
code_in insts a = unwrap_or (slice_get insts a) idle

-- the count of a shift is at most 31
abbrev pub ShiftFits : Inst → Type 0
ShiftFits (Compute a d b op) = CountFits op
ShiftFits _ = Unit {0}
