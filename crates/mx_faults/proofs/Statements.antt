-- The fault of a statement is the least of those that hold of its form.
use Rattle.std.proofs.Common.{◌≡◌, ℕ, ◌||◌, List, [], ◌∷◌, cond, Bool, true, false, Option, Some, None, Result, Ok, Err, refl}
use Rattle.std.specs.Prelude.{not, is_none, ok_or, option_map, ℤ, pos}
use Rattle.std.specs.List.{list_any}
use Rattle.mx_isa.specs.declared.inst.Special.{Special}
use Rattle.mx_isa.specs.declared.inst.Special.TheVariants.{Md, Pc1, Pc2, Pc3}
use Rattle.mx_isa.specs.declared.inst.Inst.TheVariants as inst
use Rattle.mx_isa.specs.declared.inst.Op.{Op}
use Rattle.mx_isa.specs.declared.inst.Op.TheVariants as op
use Rattle.mx_isa.specs.declared.inst.Cond.{Cond}
use Rattle.mx_isa.specs.declared.inst.Cond.TheVariants.{Eq}
use Rattle.mx_source.specs.declared.statement.Label.{Label}
use Rattle.mx_source.specs.declared.statement.Label.TheVariants as label
use Rattle.mx_source.specs.declared.statement.Statement.{Statement}
use Rattle.mx_source.specs.declared.statement.Statement.TheVariants.{Plain, Branch, Call, CallReg, JumpReg, Halt}
use Rattle.mx_lines.specs.declared.fault.Fault.{Fault}
use Rattle.mx_lines.specs.declared.fault.Fault.TheVariants as f
use Rattle.mx_asm.specs.declared.position.Section.{Section}
use Rattle.mx_asm.specs.declared.position.Section.TheVariants as section
use Rattle.mx_lines.specs.declared.mnemonic.Mnemonic.{Mnemonic}
use Rattle.mx_lines.specs.declared.mnemonic.Mnemonic.TheVariants as m
use Rattle.mx_lines.specs.Reading.{◌>>=◌}
use Rattle.mx_lines.specs.Words.{Word, Name, Number, Comma, Open, Close, Hash, Colon, End}
use Rattle.mx_lines.specs.Shapes.{three_names, memory}
use Rattle.mx_lines.specs.Operands.{register, register_named, special, special_named, immediate, count, integer, in_range, label_named, any_label, code_label, code_index, data_label, data_address, offset}
use Rattle.mx_lines.specs.Mnemonics.{mnemonic_named}
use Rattle.mx_lines.specs.Instructions.{Labels, compute, of_one, mstart, asr, sh, addi, nop, halt, if_md, move_from, move_to, load, store, address_of, load_address, branch, swapped_branch, goto, call, call_register, jump, system, spelled_by, with_mnemonic, instruction}
use Rattle.mx_asm.specs.Directives.{in_code}
use Rattle.mx_asm.specs.Faults.{is_data}
use Rattle.mx_faults.specs.Forms.{Form, AnInstruction, form, operands, is_no_register, is_outside, is_undefined, is_wrong_kind, is_code_kind, is_data_kind, is_chain, moves_chain}
use Rattle.mx_faults.specs.Walking.{section_of, kind_by}
use Rattle.mx_faults.specs.Holding.{is_unknown, is_misshapen, is_system, is_misplaced}

-- the fault of what was read
abbrev pub fault_of : {A : Type 0} → Result A Fault → Option Fault
fault_of (Ok x) = None
fault_of (Err fault) = Some fault

-- the least of eight faults of a statement
abbrev pub least_of_eight : (b3 b4 b5 b6 b8 b9 b10 b11 : Bool) → Option Fault
least_of_eight b3 b4 b5 b6 b8 b9 b10 b11 =
    cond b3 (Some f.UnknownMnemonic) (cond b4 (Some f.BadOperands) (cond b5 (Some f.BadRegister) (cond b6 (Some f.NumberOutOfRange)
    (cond b8 (Some f.UndefinedLabel) (cond b9 (Some f.WrongLabelKind) (cond b10 (Some f.SystemInstruction) (cond b11 (Some f.BadDirective) None)))))))

-- the least fault of a form, where names have these kinds, in a section
abbrev pub form_fault : (List ℕ → Option Section) → Section → Form → Option Fault
form_fault kind s form =
    least_of_eight (is_unknown form) (is_misshapen form) (list_any is_no_register (operands form)) (list_any is_outside (operands form))
    (list_any (is_undefined kind) (operands form)) (list_any (is_wrong_kind kind) (operands form)) (is_system form || list_any moves_chain (operands form))
    (is_misplaced s form)

-- the last three faults of a statement
abbrev registers_then : Bool → Option Fault → Option Fault
registers_then b rest = cond b (Some f.BadRegister) rest

abbrev stands : Section → Option Fault
stands s = cond (is_data s) (Some f.BadDirective) None

coded : (s : Section) (statement : Statement) → fault_of (in_code s statement) ≡ stands s
coded section.Code statement = refl
coded section.Data statement = refl

regs1 : (s : Section) (g : ℕ → Statement) (a : Option ℕ)
    → fault_of ((ok_or a f.BadRegister >>= λ x. Ok (g x)) >>= in_code s) ≡ registers_then (is_none a || false) (stands s)
regs1 s g None = refl
regs1 s g (Some a) = coded s (g a)

regs2 : (s : Section) (g : ℕ → ℕ → Statement) (a b : Option ℕ)
    → fault_of ((ok_or a f.BadRegister >>= λ x. ok_or b f.BadRegister >>= λ y. Ok (g x y)) >>= in_code s)
    ≡ registers_then (is_none a || (is_none b || false)) (stands s)
regs2 s g None b = refl
regs2 s g (Some a) None = refl
regs2 s g (Some a) (Some b) = coded s (g a b)

regs3 : (s : Section) (g : ℕ → ℕ → ℕ → Statement) (a b c : Option ℕ)
    → fault_of ((ok_or a f.BadRegister >>= λ x. ok_or b f.BadRegister >>= λ y. ok_or c f.BadRegister >>= λ z. Ok (g x y z)) >>= in_code s)
    ≡ registers_then (is_none a || (is_none b || (is_none c || false))) (stands s)
regs3 s g None b c = refl
regs3 s g (Some a) None c = refl
regs3 s g (Some a) (Some b) None = refl
regs3 s g (Some a) (Some b) (Some c) = coded s (g a b c)

number2 : {X : Type 0} (s : Section) (g : ℕ → ℕ → X → Statement) (a b : Option ℕ) (ok : Bool) (x : X)
    → fault_of ((ok_or a f.BadRegister >>= λ y. ok_or b f.BadRegister >>= λ z. cond ok (Ok x) (Err f.NumberOutOfRange) >>= λ n. Ok (g y z n)) >>= in_code s)
    ≡ registers_then (is_none a || (is_none b || false)) (cond (not ok || false) (Some f.NumberOutOfRange) (stands s))
number2 s g None b ok x = refl
number2 s g (Some a) None ok x = refl
number2 s g (Some a) (Some b) false x = refl
number2 s g (Some a) (Some b) true x = coded s (g a b x)

number3 : {X : Type 0} (s : Section) (g : ℕ → ℕ → ℕ → X → Statement) (a b c : Option ℕ) (ok : Bool) (x : X)
    → fault_of ((ok_or a f.BadRegister >>= λ y. ok_or b f.BadRegister >>= λ z. ok_or c f.BadRegister >>= λ w. cond ok (Ok x)
    (Err f.NumberOutOfRange) >>= λ n. Ok (g y z w n)) >>= in_code s)
    ≡ registers_then (is_none a || (is_none b || (is_none c || false))) (cond (not ok || false) (Some f.NumberOutOfRange) (stands s))
number3 s g None b c ok x = refl
number3 s g (Some a) None c ok x = refl
number3 s g (Some a) (Some b) None ok x = refl
number3 s g (Some a) (Some b) (Some c) false x = refl
number3 s g (Some a) (Some b) (Some c) true x = coded s (g a b c x)

-- only MD is moved
moved : (s : Section) (x : Special) (statement : Statement)
    → fault_of (if_md x statement >>= in_code s) ≡ cond (is_chain (Some x) || false) (Some f.SystemInstruction) (stands s)
moved s Md statement = coded s statement
moved s Pc1 statement = refl
moved s Pc2 statement = refl
moved s Pc3 statement = refl

from_special : (s : Section) (g : Special → ℕ → Statement) (a : Option Special) (b : Option ℕ)
    → fault_of ((ok_or a f.BadRegister >>= λ x. ok_or b f.BadRegister >>= λ y. if_md x (g x y)) >>= in_code s)
    ≡ registers_then (is_none a || (is_none b || false)) (cond (is_chain a || false) (Some f.SystemInstruction) (stands s))
from_special s g None b = refl
from_special s g (Some a) None = refl
from_special s g (Some a) (Some b) = moved s a (g a b)

to_special : (s : Section) (g : ℕ → Special → Statement) (a : Option ℕ) (b : Option Special)
    → fault_of ((ok_or a f.BadRegister >>= λ x. ok_or b f.BadRegister >>= λ y. if_md y (g x y)) >>= in_code s)
    ≡ registers_then (is_none a || (is_none b || false)) (cond (is_chain b || false) (Some f.SystemInstruction) (stands s))
to_special s g None b = refl
to_special s g (Some a) None = refl
to_special s g (Some a) (Some b) = moved s b (g a b)

-- a target that is undefined, or of the wrong kind
abbrev target_then : Option Label → Option Fault → Option Fault
target_then l rest = cond (is_none (option_map section_of l) || false) (Some f.UndefinedLabel)
    (cond (is_data_kind (option_map section_of l) || false) (Some f.WrongLabelKind) rest)

target0 : (s : Section) (g : ℕ → Statement) (l : Option Label)
    → fault_of (((ok_or l f.UndefinedLabel >>= code_index) >>= λ t. Ok (g t)) >>= in_code s) ≡ target_then l (stands s)
target0 s g None = refl
target0 s g (Some (label.Code i)) = coded s (g i)
target0 s g (Some (label.Data a)) = refl

target1 : (s : Section) (g : ℕ → ℕ → Statement) (a : Option ℕ) (l : Option Label)
    → fault_of ((ok_or a f.BadRegister >>= λ x. (ok_or l f.UndefinedLabel >>= code_index) >>= λ t. Ok (g x t)) >>= in_code s)
    ≡ registers_then (is_none a || false) (target_then l (stands s))
target1 s g None l = refl
target1 s g (Some a) l = target0 s (g a) l

target2 : (s : Section) (g : ℕ → ℕ → ℕ → Statement) (a b : Option ℕ) (l : Option Label)
    → fault_of ((ok_or a f.BadRegister >>= λ x. ok_or b f.BadRegister >>= λ y. (ok_or l f.UndefinedLabel >>= code_index) >>= λ t. Ok (g x y t)) >>= in_code s)
    ≡ registers_then (is_none a || (is_none b || false)) (target_then l (stands s))
target2 s g None b l = refl
target2 s g (Some a) None l = refl
target2 s g (Some a) (Some b) l = target0 s (g a b) l

any1 : (s : Section) (g : ℕ → Label → Statement) (a : Option ℕ) (l : Option Label)
    → fault_of ((ok_or a f.BadRegister >>= λ x. ok_or l f.UndefinedLabel >>= λ t. Ok (g x t)) >>= in_code s)
    ≡ registers_then (is_none a || false) (cond (is_none (option_map section_of l) || false) (Some f.UndefinedLabel) (stands s))
any1 s g None l = refl
any1 s g (Some a) None = refl
any1 s g (Some a) (Some l) = coded s (g a l)

offset0 : (s : Section) (g : ℤ → Statement) (l : Option Label)
    → fault_of ((((ok_or l f.UndefinedLabel >>= data_address) >>= λ x. Ok (pos x)) >>= λ o. Ok (g o)) >>= in_code s)
    ≡ cond (is_none (option_map section_of l) || false) (Some f.UndefinedLabel)
    (cond (is_code_kind (option_map section_of l) || false) (Some f.WrongLabelKind) (stands s))
offset0 s g None = refl
offset0 s g (Some (label.Code i)) = refl
offset0 s g (Some (label.Data a)) = coded s (g (pos a))

offset2 : (s : Section) (g : ℕ → ℕ → ℤ → Statement) (a b : Option ℕ) (l : Option Label)
    → fault_of ((ok_or a f.BadRegister >>= λ x. ok_or b f.BadRegister >>= λ y. ((ok_or l f.UndefinedLabel >>= data_address) >>= λ x. Ok (pos x)) >>= λ o. Ok
    (g x y o)) >>= in_code s)
    ≡ registers_then (is_none a || (is_none b || false))
    (cond (is_none (option_map section_of l) || false) (Some f.UndefinedLabel)
    (cond (is_code_kind (option_map section_of l) || false) (Some f.WrongLabelKind) (stands s)))
offset2 s g None b l = refl
offset2 s g (Some a) None l = refl
offset2 s g (Some a) (Some b) l = offset0 s (g a b) l

module _ (labels : Labels) (s : Section) where
  abbrev kind : List ℕ → Option Section
  kind = kind_by labels

  -- the least fault of an instruction
  abbrev Spells : Mnemonic → Result Statement Fault → List Word → Type 0
  Spells mnemonic result words = fault_of (result >>= in_code s) ≡ form_fault kind s (AnInstruction (Some mnemonic) words)

  compute_is : (o : Op) (words : List Word) → Spells (m.Compute o) (compute o words) words
  unfolding compute register
  compute_is o (Name a ∷ Comma ∷ Name b ∷ Comma ∷ Name c ∷ []) =
      regs3 s (λ x y z. Plain (inst.Compute x z y o)) (register_named a) (register_named b) (register_named c)
  compute_is o _ = refl

  -- as for `not`, so for `mov`
  one_is : (o : Op) (words : List Word) → Spells m.Not (of_one o words) words
  unfolding of_one register
  one_is o (Name a ∷ Comma ∷ Name b ∷ []) = regs2 s (λ x y. Plain (inst.Compute x y 0 o)) (register_named a) (register_named b)
  one_is o _ = refl

  mstart_is : (words : List Word) → Spells m.Mstart (mstart words) words
  unfolding mstart register
  mstart_is (Name a ∷ Comma ∷ Name b ∷ []) = regs2 s (λ x y. Plain (inst.Compute 0 y x op.Mstart)) (register_named a) (register_named b)
  mstart_is _ = refl

  asr_is : (words : List Word) → Spells m.Asr (asr words) words
  unfolding asr register count
  asr_is (Name a ∷ Comma ∷ Hash ∷ Number negative value ∷ Comma ∷ Name b ∷ []) =
      number2 s (λ x y n. Plain (inst.Compute x y 0 (op.Asr n))) (register_named a) (register_named b) (in_range 0 31 negative value) value
  asr_is _ = refl

  sh_is : (words : List Word) → Spells m.Sh (sh words) words
  unfolding sh register count
  sh_is (Name a ∷ Comma ∷ Name b ∷ Comma ∷ Hash ∷ Number negative value ∷ Comma ∷ Name c ∷ []) =
      number3 s (λ x y z n. Plain (inst.Compute x z y (op.Sh n))) (register_named a) (register_named b) (register_named c) (in_range 0 31 negative value) value
  sh_is _ = refl

  addi_is : (words : List Word) → Spells m.Addi (addi words) words
  unfolding addi register immediate
  addi_is (Name a ∷ Comma ∷ Hash ∷ Number negative value ∷ Comma ∷ Name b ∷ []) =
      number2 s (λ x y n. Plain (inst.Addi x y n)) (register_named a) (register_named b) (in_range 65536 65535 negative value) (integer negative value)
  addi_is _ = refl

  nop_is : (words : List Word) → Spells m.Nop (nop words) words
  unfolding nop
  nop_is [] = coded s (Plain (inst.Compute 0 0 0 op.Add))
  nop_is _ = refl

  halt_is : (words : List Word) → Spells m.Halt (halt words) words
  unfolding halt
  halt_is [] = coded s Halt
  halt_is _ = refl

  system_is : (words : List Word) → Spells m.System (system words) words
  unfolding system
  system_is [] = refl
  system_is _ = refl

  move_from_is : (words : List Word) → Spells m.MoveFrom (move_from words) words
  unfolding move_from register special
  move_from_is (Name a ∷ Comma ∷ Name b ∷ []) = from_special s (λ x y. Plain (inst.MoveFrom y x)) (special_named a) (register_named b)
  move_from_is _ = refl

  move_to_is : (words : List Word) → Spells m.MoveTo (move_to words) words
  unfolding move_to register special
  move_to_is (Name a ∷ Comma ∷ Name b ∷ []) = to_special s (λ x y. Plain (inst.MoveTo x y)) (register_named a) (special_named b)
  move_to_is _ = refl

  -- as for `ld`, so for `st`
  accessed_is : (make : ℕ → ℕ → ℤ → Statement) (words : List Word)
      → Spells m.Load (memory words >>= λ operands. register operands.base >>= λ base. register operands.register >>= λ r.
      offset labels operands.offset >>= λ o. Ok (make base r o)) words
  unfolding register offset immediate data_label any_label
  accessed_is make (Name a ∷ Open ∷ Name b ∷ Close ∷ Comma ∷ Name c ∷ []) =
      offset2 s make (register_named b) (register_named c) (label_named labels a)
  accessed_is make (Number negative value ∷ Open ∷ Name b ∷ Close ∷ Comma ∷ Name c ∷ []) =
      number2 s make (register_named b) (register_named c) (in_range 65536 65535 negative value) (integer negative value)
  accessed_is make (Comma ∷ Open ∷ Name b ∷ Close ∷ Comma ∷ Name c ∷ []) = refl
  accessed_is make (Open ∷ Open ∷ Name b ∷ Close ∷ Comma ∷ Name c ∷ []) = refl
  accessed_is make (Close ∷ Open ∷ Name b ∷ Close ∷ Comma ∷ Name c ∷ []) = refl
  accessed_is make (Hash ∷ Open ∷ Name b ∷ Close ∷ Comma ∷ Name c ∷ []) = refl
  accessed_is make (Colon ∷ Open ∷ Name b ∷ Close ∷ Comma ∷ Name c ∷ []) = refl
  accessed_is make (End ∷ Open ∷ Name b ∷ Close ∷ Comma ∷ Name c ∷ []) = refl
  accessed_is make _ = refl

  load_is : (words : List Word) → Spells m.Load (load labels words) words
  unfolding load
  load_is words = accessed_is (λ base dest o. Plain (inst.Load base dest o)) words

  store_is : (words : List Word) → Spells m.Store (store labels words) words
  unfolding store
  store_is words = accessed_is (λ base value o. Plain (inst.Store base value o)) words

  load_address_is : (words : List Word) → Spells m.LoadAddress (load_address labels words) words
  unfolding load_address register any_label
  load_address_is (Name a ∷ Comma ∷ Name b ∷ []) = any1 s (λ x l. address_of l x) (register_named b) (label_named labels a)
  load_address_is _ = refl

  compared_is : (c : Cond) (make : ℕ → ℕ → ℕ → Statement) (words : List Word)
      → Spells (m.Branch c) (three_names words >>= λ names. register names.0 >>= λ a. register names.1 >>= λ b.
      code_label labels names.2 >>= λ target. Ok (make a b target)) words
  unfolding register code_label any_label
  compared_is c make (Name a ∷ Comma ∷ Name b ∷ Comma ∷ Name t ∷ []) = target2 s make (register_named a) (register_named b) (label_named labels t)
  compared_is c make _ = refl

  branch_is : (c : Cond) (words : List Word) → Spells (m.Branch c) (branch labels c words) words
  unfolding branch
  branch_is c words = compared_is c (λ a b target. Branch a b c target) words

  swapped_is : (c : Cond) (words : List Word) → Spells (m.SwappedBranch c) (swapped_branch labels c words) words
  unfolding swapped_branch
  swapped_is c words = compared_is c (λ a b target. Branch b a c target) words

  goto_is : (words : List Word) → Spells m.Goto (goto labels words) words
  unfolding goto code_label any_label
  goto_is (Name t ∷ []) = target0 s (λ i. Branch 0 0 Eq i) (label_named labels t)
  goto_is _ = refl

  call_is : (words : List Word) → Spells m.Call (call labels words) words
  unfolding call register code_label any_label
  call_is (Name t ∷ Comma ∷ Name b ∷ []) = target1 s (λ x i. Call x i) (register_named b) (label_named labels t)
  call_is _ = refl

  call_register_is : (words : List Word) → Spells m.CallReg (call_register words) words
  unfolding call_register register
  call_register_is (Name a ∷ Comma ∷ Name b ∷ []) = regs2 s (λ x y. CallReg x y) (register_named a) (register_named b)
  call_register_is _ = refl

  jump_is : (words : List Word) → Spells m.JumpReg (jump words) words
  unfolding jump register
  jump_is (Name a ∷ []) = regs1 s (λ x. JumpReg x) (register_named a)
  jump_is _ = refl

  spelled_is : (mnemonic : Mnemonic) (words : List Word) → Spells mnemonic (spelled_by labels mnemonic words) words
  unfolding spelled_by
  spelled_is (m.Compute o) words = compute_is o words
  spelled_is m.Not words = one_is op.Not words
  spelled_is m.Mstart words = mstart_is words
  spelled_is m.Asr words = asr_is words
  spelled_is m.Sh words = sh_is words
  spelled_is m.Addi words = addi_is words
  spelled_is m.Mov words = one_is op.Add words
  spelled_is m.Nop words = nop_is words
  spelled_is m.MoveFrom words = move_from_is words
  spelled_is m.MoveTo words = move_to_is words
  spelled_is m.Load words = load_is words
  spelled_is m.Store words = store_is words
  spelled_is m.LoadAddress words = load_address_is words
  spelled_is (m.Branch c) words = branch_is c words
  spelled_is (m.SwappedBranch c) words = swapped_is c words
  spelled_is m.Goto words = goto_is words
  spelled_is m.Call words = call_is words
  spelled_is m.CallReg words = call_register_is words
  spelled_is m.JumpReg words = jump_is words
  spelled_is m.Halt words = halt_is words
  spelled_is m.System words = system_is words

  with_is : (o : Option Mnemonic) (words : List Word) → fault_of (with_mnemonic labels o words >>= in_code s) ≡ form_fault kind s (AnInstruction o words)
  with_is None words = refl
  with_is (Some mnemonic) words = spelled_is mnemonic words

  pub instruction_is : (name : List ℕ) (words : List Word)
      → fault_of (instruction labels name words >>= λ statement. in_code s statement) ≡ form_fault kind s (AnInstruction (mnemonic_named name) words)
  unfolding instruction
  instruction_is name words = with_is (mnemonic_named name) words
