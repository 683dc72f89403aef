-- The statement that a line of a translation is, where labels name places of code and addresses of data.
use Rattle.std.specs.Prelude.{ℕ, cond, List, Result, Ok, pos}
use Rattle.std.specs.Int.{w32, cast_signed}
use Rattle.mx_isa.specs.declared.inst.Op.{Op}
use Rattle.mx_isa.specs.declared.inst.Op.TheVariants as op
use Rattle.mx_isa.specs.declared.inst.Cond.TheVariants.{Eq, Ne, Lt, Ge, Lo, Hs}
use Rattle.mx_isa.specs.declared.inst.Inst.{Inst}
use Rattle.mx_isa.specs.declared.inst.Inst.TheVariants as inst
use Rattle.mx_source.specs.declared.statement.Statement.{Statement}
use Rattle.mx_source.specs.declared.statement.Statement.TheVariants as statement
use Rattle.mx_lines.specs.declared.fault.Fault.{Fault}
use Rattle.mx_lines.specs.Instructions.{Labels}
use Rattle.mx_lines.specs.Operands.{code_label, data_label}
use Rattle.mx_lines.specs.Reading.{◌>>=◌}
use Rattle.cc_lines.specs.declared.instruction.Condition.{Condition}
use Rattle.cc_lines.specs.declared.instruction.Condition.TheVariants.{Equal, NotEqual, Less, NotLess, Greater, NotGreater, Lower, NotLower, Higher, NotHigher}
use Rattle.cc_program.specs.declared.symbols.Symbol.{Symbol}
use Rattle.cc_emit.specs.declared.line.Computed.{Computed}
use Rattle.cc_emit.specs.declared.line.Computed.TheVariants.{Add, Sub, And, Or, Xor, Bic, Rotlb}
use Rattle.cc_emit.specs.declared.line.Plain.{Plain}
use Rattle.cc_emit.specs.declared.line.Plain.TheVariants.{Compute, Move, Not, Addi, Asr, Sh, Load, Store}
use Rattle.cc_emit.specs.declared.line.Word.{Word}
use Rattle.cc_emit.specs.declared.line.Word.TheVariants.{Number}
use Rattle.cc_emit.specs.declared.line.Transfer.{Transfer}
use Rattle.cc_emit.specs.declared.line.Transfer.TheVariants.{Branch, Jump, Call, CallReg, JumpReg, Halt}
use Rattle.cc_emit.specs.Lines.{is_short}
use Rattle.cc_emit.specs.Statements.{word_label, target_label}

abbrev pub operation : Computed → Op
operation Add = op.Add
operation Sub = op.Sub
operation And = op.And
operation Or = op.Or
operation Xor = op.Xor
operation Bic = op.Bic
operation Rotlb = op.Rotlb

-- an instruction over registers and words of data; a move adds r0
abbrev pub instruction : Plain → Inst
instruction (Compute computed a b rd) = inst.Compute a rd b (operation computed)
instruction (Move rs rd) = inst.Compute rs rd 0 op.Add
instruction (Not rs rd) = inst.Compute rs rd 0 op.Not
instruction (Addi rs number rd) = inst.Addi rs rd number
instruction (Asr rs count rd) = inst.Compute rs rd 0 (op.Asr count)
instruction (Sh a b count rd) = inst.Compute a rd b (op.Sh count)
instruction (Load words base rd) = inst.Load base rd words
instruction (Store words base rs) = inst.Store base rs words

-- a branch: `>`, `<=` and their like for unsigned numbers compare the other way round
abbrev pub branch : Condition → ℕ → ℕ → ℕ → Statement
branch Equal a b to = statement.Branch a b Eq to
branch NotEqual a b to = statement.Branch a b Ne to
branch Less a b to = statement.Branch a b Lt to
branch NotLess a b to = statement.Branch a b Ge to
branch Greater a b to = statement.Branch b a Lt to
branch NotGreater a b to = statement.Branch b a Ge to
branch Lower a b to = statement.Branch a b Lo to
branch NotLower a b to = statement.Branch a b Hs to
branch Higher a b to = statement.Branch b a Lo to
branch NotHigher a b to = statement.Branch b a Hs to

-- what transfers control to the place that its label names
abbrev pub transfer_statement : Labels → List Symbol → Transfer → Result Statement Fault
transfer_statement labels symbols (Branch condition a b to) = code_label labels (target_label symbols to) >>= λ i. Ok (branch condition a b i)
transfer_statement labels symbols (Jump to) = code_label labels (target_label symbols to) >>= λ i. Ok (statement.Branch 0 0 Eq i)
transfer_statement labels symbols (Call to link) = code_label labels (target_label symbols to) >>= λ i. Ok (statement.Call link i)
transfer_statement labels symbols (CallReg rs link) = Ok (statement.CallReg rs link)
transfer_statement labels symbols (JumpReg rs) = Ok (statement.JumpReg rs)
transfer_statement labels symbols Halt = Ok statement.Halt

-- a load of a word that the translation adds, by the address that its label names
abbrev pub take_statement : Labels → Word → ℕ → ℕ → Result Statement Fault
take_statement labels word base rd = data_label labels (word_label word) >>= λ a. Ok (statement.Plain (inst.Load base rd (pos a)))

-- a load of a number: a sum with r0, or a word of data
abbrev pub constant_statement : Labels → ℕ → ℕ → Result Statement Fault
constant_statement labels value rd =
    cond (is_short (cast_signed w32 value)) (Ok (statement.Plain (inst.Addi 0 rd (cast_signed w32 value)))) (take_statement labels (Number value) 0 rd)
