-- The statement that an instruction spells: its operands have the shape of its mnemonic, its registers and special
-- words are ones, its numbers are in range and its labels are defined and of the right kind, in this order.
use Rattle.std.specs.Prelude.{ℕ, List, Option, Some, None, Result, Ok, Err, pos}
use Rattle.mx_isa.specs.declared.inst.Op.{Op}
use Rattle.mx_isa.specs.declared.inst.Op.TheVariants as op
use Rattle.mx_isa.specs.declared.inst.Cond.{Cond}
use Rattle.mx_isa.specs.declared.inst.Cond.TheVariants.{Eq}
use Rattle.mx_isa.specs.declared.inst.Special.{Special}
use Rattle.mx_isa.specs.declared.inst.Special.TheVariants.{Md, Pc1, Pc2, Pc3}
use Rattle.mx_isa.specs.declared.inst.Inst.TheVariants as inst
use Rattle.mx_source.specs.declared.statement.Label.{Label}
use Rattle.mx_source.specs.declared.statement.Label.TheVariants as label
use Rattle.mx_source.specs.declared.statement.Statement.{Statement}
use Rattle.mx_source.specs.declared.statement.Statement.TheVariants.{Plain, LaCode, Branch, Call, CallReg, JumpReg, Halt}
use Rattle.mx_lines.specs.declared.fault.Fault.{Fault}
use Rattle.mx_lines.specs.declared.fault.Fault.TheVariants.{UnknownMnemonic, SystemInstruction}
use Rattle.mx_lines.specs.declared.mnemonic.Mnemonic.{Mnemonic}
use Rattle.mx_lines.specs.declared.mnemonic.Mnemonic.TheVariants as m
use Rattle.mx_lines.specs.Reading.{◌>>=◌}
use Rattle.mx_lines.specs.Words.{Word}
use Rattle.mx_lines.specs.Shapes.{nothing, one_name, two_names, three_names, name_number_name, names_number_name, memory}
use Rattle.mx_lines.specs.Operands.{register, special, immediate, count, any_label, code_label, offset}
use Rattle.mx_lines.specs.Mnemonics.{mnemonic_named}

-- the labels of a text, each with what it names
abbrev pub Labels : Type 0
Labels = List (List ℕ × Label)

-- `add R,R,R`: sources and destination
unfoldable pub compute : Op → List Word → Result Statement Fault
compute op words = do
  names ← three_names words
  a ← register names.0
  b ← register names.1
  dest ← register names.2
  Ok (Plain (inst.Compute a dest b op))

-- `not R,R`, and `mov R,R` as `add` of the first and r0
unfoldable pub of_one : Op → List Word → Result Statement Fault
of_one op words = do
  names ← two_names words
  a ← register names.0
  dest ← register names.1
  Ok (Plain (inst.Compute a dest 0 op))

-- `mstart R,R`: second source and destination
unfoldable pub mstart : List Word → Result Statement Fault
mstart words = do
  names ← two_names words
  b ← register names.0
  dest ← register names.1
  Ok (Plain (inst.Compute 0 dest b op.Mstart))

-- `asr R,#N,R`
unfoldable pub asr : List Word → Result Statement Fault
asr words = do
  operands ← name_number_name words
  a ← register operands.source
  dest ← register operands.dest
  n ← count operands.negative operands.value
  Ok (Plain (inst.Compute a dest 0 (op.Asr n)))

-- `sh R,R,#N,R`
unfoldable pub sh : List Word → Result Statement Fault
sh words = do
  operands ← names_number_name words
  a ← register operands.first
  b ← register operands.second
  dest ← register operands.dest
  n ← count operands.negative operands.value
  Ok (Plain (inst.Compute a dest b (op.Sh n)))

-- `addi R,#I,R`
unfoldable pub addi : List Word → Result Statement Fault
addi words = do
  operands ← name_number_name words
  a ← register operands.source
  dest ← register operands.dest
  imm ← immediate operands.negative operands.value
  Ok (Plain (inst.Addi a dest imm))

-- `nop` is `add r0,r0,r0`
unfoldable pub nop : List Word → Result Statement Fault
nop words = nothing words >>= λ _. Ok (Plain (inst.Compute 0 0 0 op.Add))

-- `halt`
unfoldable pub halt : List Word → Result Statement Fault
halt words = nothing words >>= λ _. Ok Halt

-- only MD may be moved
abbrev pub if_md : Special → Statement → Result Statement Fault
if_md Md statement = Ok statement
if_md Pc1 statement = Err SystemInstruction
if_md Pc2 statement = Err SystemInstruction
if_md Pc3 statement = Err SystemInstruction

-- `movfrs S,R`
unfoldable pub move_from : List Word → Result Statement Fault
move_from words = do
  names ← two_names words
  s ← special names.0
  dest ← register names.1
  if_md s (Plain (inst.MoveFrom dest s))

-- `movtos R,S`
unfoldable pub move_to : List Word → Result Statement Fault
move_to words = do
  names ← two_names words
  a ← register names.0
  s ← special names.1
  if_md s (Plain (inst.MoveTo a s))

-- `ld O[R],R`
unfoldable pub load : Labels → List Word → Result Statement Fault
load labels words = do
  operands ← memory words
  base ← register operands.base
  dest ← register operands.register
  o ← offset labels operands.offset
  Ok (Plain (inst.Load base dest o))

-- `st O[R],R`
unfoldable pub store : Labels → List Word → Result Statement Fault
store labels words = do
  operands ← memory words
  base ← register operands.base
  value ← register operands.register
  o ← offset labels operands.offset
  Ok (Plain (inst.Store base value o))

-- a data label's address is an `addi` of r0, a code label's place stays a place
abbrev pub address_of : Label → ℕ → Statement
address_of (label.Data a) dest = Plain (inst.Addi 0 dest (pos a))
address_of (label.Code i) dest = LaCode dest i

-- `la A,R`
unfoldable pub load_address : Labels → List Word → Result Statement Fault
load_address labels words = do
  names ← two_names words
  dest ← register names.1
  l ← any_label labels names.0
  Ok (address_of l dest)

-- `beq R,R,L`
unfoldable pub branch : Labels → Cond → List Word → Result Statement Fault
branch labels cond words = do
  names ← three_names words
  a ← register names.0
  b ← register names.1
  target ← code_label labels names.2
  Ok (Branch a b cond target)

-- `bgt R,R,L` is `blt` with the registers swapped
unfoldable pub swapped_branch : Labels → Cond → List Word → Result Statement Fault
swapped_branch labels cond words = do
  names ← three_names words
  a ← register names.0
  b ← register names.1
  target ← code_label labels names.2
  Ok (Branch b a cond target)

-- `b L` is `beq r0,r0,L`
unfoldable pub goto : Labels → List Word → Result Statement Fault
goto labels words = do
  name ← one_name words
  target ← code_label labels name
  Ok (Branch 0 0 Eq target)

-- `call L,R`
unfoldable pub call : Labels → List Word → Result Statement Fault
call labels words = do
  names ← two_names words
  dest ← register names.1
  target ← code_label labels names.0
  Ok (Call dest target)

-- `callr R,R`
unfoldable pub call_register : List Word → Result Statement Fault
call_register words = do
  names ← two_names words
  a ← register names.0
  dest ← register names.1
  Ok (CallReg a dest)

-- `jr R`
unfoldable pub jump : List Word → Result Statement Fault
jump words = do
  name ← one_name words
  a ← register name
  Ok (JumpReg a)

-- `jpc` and `jpcrs` are known, and refused
unfoldable pub system : List Word → Result Statement Fault
system words = nothing words >>= λ _. Err SystemInstruction

-- the statement of a mnemonic with these words behind it
unfoldable pub spelled_by : Labels → Mnemonic → List Word → Result Statement Fault
spelled_by labels (m.Compute op) words = compute op words
spelled_by labels m.Not words = of_one op.Not words
spelled_by labels m.Mstart words = mstart words
spelled_by labels m.Asr words = asr words
spelled_by labels m.Sh words = sh words
spelled_by labels m.Addi words = addi words
spelled_by labels m.Mov words = of_one op.Add words
spelled_by labels m.Nop words = nop words
spelled_by labels m.MoveFrom words = move_from words
spelled_by labels m.MoveTo words = move_to words
spelled_by labels m.Load words = load labels words
spelled_by labels m.Store words = store labels words
spelled_by labels m.LoadAddress words = load_address labels words
spelled_by labels (m.Branch cond) words = branch labels cond words
spelled_by labels (m.SwappedBranch cond) words = swapped_branch labels cond words
spelled_by labels m.Goto words = goto labels words
spelled_by labels m.Call words = call labels words
spelled_by labels m.CallReg words = call_register words
spelled_by labels m.JumpReg words = jump words
spelled_by labels m.Halt words = halt words
spelled_by labels m.System words = system words

-- the statement of a mnemonic, if the name spells one
abbrev pub with_mnemonic : Labels → Option Mnemonic → List Word → Result Statement Fault
with_mnemonic labels (Some mnemonic) words = spelled_by labels mnemonic words
with_mnemonic labels None words = Err UnknownMnemonic

-- the statement of a name that begins a line's statement, and the words behind it
unfoldable pub instruction : Labels → List ℕ → List Word → Result Statement Fault
instruction labels name words = with_mnemonic labels (mnemonic_named name) words
