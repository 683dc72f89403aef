-- What holds of each form of statement, with what was read for it, holds of whatever instructions read as (`instruction_has`).
use Rattle.std.proofs.Common.{◌≡◌, ℕ, zero, suc, ◌+◌, ◌-◌, ◌*◌, ◌≤◌, ◌&&◌, List, [], ◌∷◌, cond, Bool, true, false, Option, Some, None, Result, Ok, Err, ℤ, refl, subst, arith}
use Rattle.std.specs.Prelude.{IfOk, IfSome, nat_le, ok_or}
use Rattle.std.specs.Char.{is_digit}
use Rattle.std.specs.List.{list_all}
use Rattle.std.specs.Str.{str_eq_ignore_ascii_case}
use Rattle.std.proofs.lemmas.Bool.{and_parts}
use Rattle.std.proofs.lemmas.Bool.Decides.{nat_tests}
use Rattle.mx_isa.specs.Fields.{IsSignedField, OpFits}
use Rattle.mx_isa.specs.Registers.{IsRegister}
use Rattle.mx_isa.specs.declared.inst.Op.{Op}
use Rattle.mx_isa.specs.declared.inst.Op.TheVariants as op
use Rattle.mx_isa.specs.declared.inst.Cond.{Cond}
use Rattle.mx_isa.specs.declared.inst.Cond.TheVariants.{Eq}
use Rattle.mx_isa.specs.declared.inst.Special.{Special}
use Rattle.mx_isa.specs.declared.inst.Special.TheVariants.{Md, Pc1, Pc2, Pc3}
use Rattle.mx_isa.specs.declared.inst.Inst.TheVariants as inst
use Rattle.mx_source.specs.declared.statement.Label.{Label}
use Rattle.mx_source.specs.declared.statement.Statement.{Statement}
use Rattle.mx_source.specs.declared.statement.Statement.TheVariants.{Plain, Branch, Call, CallReg, JumpReg, Halt}
use Rattle.mx_lines.specs.declared.fault.Fault.{Fault}
use Rattle.mx_lines.specs.declared.fault.Fault.TheVariants.{BadRegister, NumberOutOfRange}
use Rattle.mx_lines.specs.declared.mnemonic.Mnemonic.{Mnemonic}
use Rattle.mx_lines.specs.declared.mnemonic.Mnemonic.TheVariants as m
use Rattle.mx_lines.specs.Reading.{◌>>=◌}
use Rattle.mx_lines.specs.Words.{Word}
use Rattle.mx_lines.specs.Shapes.{nothing, one_name, two_names, three_names, name_number_name, names_number_name, memory}
use Rattle.mx_lines.specs.Operands.{is_r, register_named, register, special, integer, in_range, immediate, count, any_label, code_label, offset}
use Rattle.mx_lines.specs.Mnemonics.{mnemonics, spelled, mnemonic_named}
use Rattle.mx_lines.specs.Instructions.{Labels, compute, of_one, mstart, asr, sh, addi, nop, halt, if_md, move_from, move_to, load, store, address_of, load_address, branch, swapped_branch, goto, call, call_register, jump, system, spelled_by, with_mnemonic, instruction}
use Rattle.mx_lines.specs.Fitting.{uses_both, is_regular}
use Rattle.mx_lines.proofs.Fits.{fits_both}

-- what is known of a value that was read
pub was_read : {A : Type 0} (P : A → Type 0) (r : Result A Fault) (x : A) → IfOk r P → r ≡ Ok x → P x
was_read P r x h e = subst (λ s. IfOk s P) e h

-- what is read after something else
pub bind_has : {A B : Type 0} (P : B → Type 0) (r : Result A Fault) (f : A → Result B Fault) → ((x : A) → r ≡ Ok x → IfOk (f x) P) → IfOk (r >>= f) P
bind_has P (Ok x) f h = h x refl
bind_has P (Err fault) f h = tt

cond_has : {A : Type 0} (P : A → Type 0) (b : Bool) (x : A) (fault : Fault) → (b ≡ true → P x) → IfOk (cond b (Ok x) (Err fault)) P
cond_has P true x fault h = h refl
cond_has P false x fault h = tt

-- a register has a number from 0 to 31
some_if : (b : Bool) (n : ℕ) → (b ≡ true → n ≤ 31) → IfSome (cond b (Some n) None) IsRegister
some_if true n h = h refl
some_if false n h = tt

digit_few : (c : ℕ) → is_digit c 10 ≡ true → c - 48 ≤ 31
digit_few c h = grind (arith, nat_tests)

last_few : (a b e : Bool) (n : ℕ) → a && b && e && nat_le n 31 ≡ true → n ≤ 31
last_few a b e n h = grind (arith, nat_tests)

named_few : (name : List ℕ) → IfSome (register_named name) IsRegister
named_few [] = tt
named_few (a ∷ []) = tt
named_few (r ∷ c ∷ []) = some_if (is_r r && is_digit c 10) (c - 48) (λ h. digit_few c (and_parts (is_r r) (is_digit c 10) h).1)
named_few (r ∷ t ∷ c ∷ []) =
    some_if (is_r r && (nat_le 49 t && nat_le t 51) && is_digit c 10 && nat_le (10 * (t - 48) + (c - 48)) 31) (10 * (t - 48) + (c - 48))
    (λ h. last_few (is_r r) (nat_le 49 t && nat_le t 51) (is_digit c 10) (10 * (t - 48) + (c - 48)) h)
named_few (a ∷ b ∷ c ∷ e ∷ rest) = tt

ok_has : (o : Option ℕ) (fault : Fault) → IfSome o IsRegister → IfOk (ok_or o fault) IsRegister
ok_has None fault h = tt
ok_has (Some n) fault h = h

register_few : (name : List ℕ) → IfOk (register name) IsRegister
unfolding register
register_few name = ok_has (register_named name) BadRegister (named_few name)

zero_few : IsRegister 0
zero_few = omega arith

-- an immediate fits in its field, a count is at most 31
signed : (negative : Bool) (value : ℕ) → in_range 65536 65535 negative value ≡ true → IsSignedField 16 (integer negative value)
signed true zero h = omega arith
signed true (suc n) h = let e : suc n ≤ 65536 = grind (arith, nat_tests) in omega (arith, e)
signed false value h = let e : value ≤ 65535 = grind (arith, nat_tests) in omega (arith, e)

pub immediate_fits : (negative : Bool) (value : ℕ) → IfOk (immediate negative value) (IsSignedField 16)
unfolding immediate
immediate_fits negative value = cond_has (IsSignedField 16) (in_range 65536 65535 negative value) (integer negative value) NumberOutOfRange
    (signed negative value)

few : (negative : Bool) (value : ℕ) → in_range 0 31 negative value ≡ true → value ≤ 31
few true value h = let e : value ≤ 0 = grind (arith, nat_tests) in omega (arith, e)
few false value h = grind (arith, nat_tests)

count_few : (negative : Bool) (value : ℕ) → IfOk (count negative value) (λ n. n ≤ 31)
unfolding count
count_few negative value = cond_has (λ n. n ≤ 31) (in_range 0 31 negative value) value NumberOutOfRange (few negative value)

-- a mnemonic of three registers has an operation of two sources
some_of : {A : Type 0} (P : A → Type 0) (b : Bool) (x : A) (o : Option A) → P x → IfSome o P → IfSome (cond b (Some x) o) P
some_of P true x o here there = here
some_of P false x o here there = there

rows_regular : (rows : List (List ℕ × Mnemonic)) (name : List ℕ) → list_all (λ r. is_regular r.1) rows ≡ true
    → IfSome (spelled rows name) (λ n. is_regular n ≡ true)
rows_regular [] name h = tt
rows_regular (row ∷ rows) name h =
    let parts = and_parts (is_regular row.1) (list_all (λ r. is_regular r.1) rows) h in
    some_of (λ n. is_regular n ≡ true) (str_eq_ignore_ascii_case name row.0) row.1 (spelled rows name) parts.0 (rows_regular rows name parts.1)

named_regular : (name : List ℕ) → IfSome (mnemonic_named name) (λ n. is_regular n ≡ true)
unfolding mnemonic_named mnemonics
named_regular name = rows_regular mnemonics name refl

-- it holds of each form of statement, with what was read for its operands
pub record Forms (labels : Labels) (Has : Statement → Type 0) : Type 0 where
  pub compute : (o : Op) (a dest b : ℕ) → OpFits o a b → IsRegister a → IsRegister dest → IsRegister b → Has (Plain (inst.Compute a dest b o))
  pub addi : (a dest : ℕ) (imm : ℤ) → IsSignedField 16 imm → IsRegister a → IsRegister dest → Has (Plain (inst.Addi a dest imm))
  pub move_from : (dest : ℕ) → IsRegister dest → Has (Plain (inst.MoveFrom dest Md))
  pub move_to : (a : ℕ) → IsRegister a → Has (Plain (inst.MoveTo a Md))
  pub load : (word : Word) (base dest : ℕ) (o : ℤ) → offset labels word ≡ Ok o → IsRegister base → IsRegister dest → Has (Plain (inst.Load base dest o))
  pub store : (word : Word) (base value : ℕ) (o : ℤ) → offset labels word ≡ Ok o → IsRegister base → IsRegister value → Has (Plain (inst.Store base value o))
  pub address : (name : List ℕ) (l : Label) (dest : ℕ) → any_label labels name ≡ Ok l → IsRegister dest → Has (address_of l dest)
  pub branch : (name : List ℕ) (a b : ℕ) (c : Cond) (target : ℕ) → code_label labels name ≡ Ok target → IsRegister a → IsRegister b → Has (Branch a b c target)
  pub call : (name : List ℕ) (dest target : ℕ) → code_label labels name ≡ Ok target → IsRegister dest → Has (Call dest target)
  pub call_register : (a dest : ℕ) → IsRegister a → IsRegister dest → Has (CallReg a dest)
  pub jump : (a : ℕ) → IsRegister a → Has (JumpReg a)
  pub halt : Has Halt

module _ (labels : Labels) (Has : Statement → Type 0) (forms : Forms labels Has) where
  -- what is read after something else, and after a register
  after : {A : Type 0} (r : Result A Fault) (f : A → Result Statement Fault) → ((x : A) → r ≡ Ok x → IfOk (f x) Has) → IfOk (r >>= f) Has
  after r f h = bind_has Has r f h

  named : (name : List ℕ) (f : ℕ → Result Statement Fault) → ((n : ℕ) → IsRegister n → IfOk (f n) Has) → IfOk (register name >>= f) Has
  named name f h = bind_has Has (register name) f (λ n e. h n (was_read IsRegister (register name) n (register_few name) e))

  compute_has : (o : Op) (words : List Word) → uses_both o ≡ true → IfOk (compute o words) Has
  unfolding compute
  compute_has o words h =
      after (three_names words) _ (λ names e.
      named names.0 _ (λ a p. named names.1 _ (λ b q. named names.2 _ (λ dest r. forms.compute o a dest b (fits_both o a b h) p r q))))

  one_has : (o : Op) (words : List Word) → ((a : ℕ) → OpFits o a 0) → IfOk (of_one o words) Has
  unfolding of_one
  one_has o words fits =
      after (two_names words) _ (λ names e. named names.0 _ (λ a p. named names.1 _ (λ dest q. forms.compute o a dest 0 (fits a) p q zero_few)))

  mstart_has : (words : List Word) → IfOk (mstart words) Has
  unfolding mstart
  mstart_has words =
      after (two_names words) _ (λ names e. named names.0 _ (λ b p. named names.1 _ (λ dest q. forms.compute op.Mstart 0 dest b refl zero_few q p)))

  -- and after the count of a shift
  counted : (negative : Bool) (value : ℕ) (f : ℕ → Result Statement Fault) → ((n : ℕ) → n ≤ 31 → IfOk (f n) Has) → IfOk (count negative value >>= f) Has
  counted negative value f h = bind_has Has (count negative value) f (λ n e. h n (was_read (λ i. i ≤ 31) (count negative value) n (count_few negative value) e))

  asr_has : (words : List Word) → IfOk (asr words) Has
  unfolding asr
  asr_has words =
      after (name_number_name words) _ (λ operands e.
      named operands.source _ (λ a p. named operands.dest _ (λ dest q.
      counted operands.negative operands.value _ (λ n within. forms.compute (op.Asr n) a dest 0 (within, refl) p q zero_few))))

  sh_has : (words : List Word) → IfOk (sh words) Has
  unfolding sh
  sh_has words =
      after (names_number_name words) _ (λ operands e.
      named operands.first _ (λ a p. named operands.second _ (λ b q. named operands.dest _ (λ dest r.
      counted operands.negative operands.value _ (λ n within. forms.compute (op.Sh n) a dest b within p r q)))))

  addi_has : (words : List Word) → IfOk (addi words) Has
  unfolding addi
  addi_has words =
      after (name_number_name words) _ (λ operands e.
      named operands.source _ (λ a p. named operands.dest _ (λ dest q.
      after (immediate operands.negative operands.value) _ (λ imm k.
      forms.addi a dest imm
      (was_read (IsSignedField 16) (immediate operands.negative operands.value) imm (immediate_fits operands.negative operands.value) k) p q))))

  nop_has : (words : List Word) → IfOk (nop words) Has
  unfolding nop
  nop_has words = after (nothing words) _ (λ u e. forms.compute op.Add 0 0 0 tt zero_few zero_few zero_few)

  halt_has : (words : List Word) → IfOk (halt words) Has
  unfolding halt
  halt_has words = after (nothing words) _ (λ u e. forms.halt)

  from_md : (s : Special) (dest : ℕ) → IsRegister dest → IfOk (if_md s (Plain (inst.MoveFrom dest s))) Has
  from_md Md dest h = forms.move_from dest h
  from_md Pc1 dest h = tt
  from_md Pc2 dest h = tt
  from_md Pc3 dest h = tt

  to_md : (s : Special) (a : ℕ) → IsRegister a → IfOk (if_md s (Plain (inst.MoveTo a s))) Has
  to_md Md a h = forms.move_to a h
  to_md Pc1 a h = tt
  to_md Pc2 a h = tt
  to_md Pc3 a h = tt

  move_from_has : (words : List Word) → IfOk (move_from words) Has
  unfolding move_from
  move_from_has words = after (two_names words) _ (λ names e. after (special names.0) _ (λ s e1. named names.1 _ (λ dest p. from_md s dest p)))

  move_to_has : (words : List Word) → IfOk (move_to words) Has
  unfolding move_to
  move_to_has words = after (two_names words) _ (λ names e. named names.0 _ (λ a p. after (special names.1) _ (λ s e1. to_md s a p)))

  accessed : (make : ℕ → ℕ → ℤ → Statement)
      → ((word : Word) (base r : ℕ) (o : ℤ) → offset labels word ≡ Ok o → IsRegister base → IsRegister r → Has (make base r o)) → (words : List Word)
      → IfOk (memory words >>= λ operands. register operands.base >>= λ base. register operands.register >>= λ r.
      offset labels operands.offset >>= λ o. Ok (make base r o)) Has
  accessed make has words =
      after (memory words) _ (λ operands e.
      named operands.base _ (λ base p. named operands.register _ (λ r q.
      after (offset labels operands.offset) _ (λ o k. has operands.offset base r o k p q))))

  load_has : (words : List Word) → IfOk (load labels words) Has
  unfolding load
  load_has words = accessed (λ base dest o. Plain (inst.Load base dest o)) forms.load words

  store_has : (words : List Word) → IfOk (store labels words) Has
  unfolding store
  store_has words = accessed (λ base value o. Plain (inst.Store base value o)) forms.store words

  load_address_has : (words : List Word) → IfOk (load_address labels words) Has
  unfolding load_address
  load_address_has words =
      after (two_names words) _ (λ names e.
      named names.1 _ (λ dest p. after (any_label labels names.0) _ (λ l k. forms.address names.0 l dest k p)))

  compared : (make : ℕ → ℕ → ℕ → Statement)
      → ((name : List ℕ) (a b target : ℕ) → code_label labels name ≡ Ok target → IsRegister a → IsRegister b → Has (make a b target)) → (words : List Word)
      → IfOk (three_names words >>= λ names. register names.0 >>= λ a. register names.1 >>= λ b.
      code_label labels names.2 >>= λ target. Ok (make a b target)) Has
  compared make has words =
      after (three_names words) _ (λ names e.
      named names.0 _ (λ a p. named names.1 _ (λ b q.
      after (code_label labels names.2) _ (λ target k. has names.2 a b target k p q))))

  branch_has : (c : Cond) (words : List Word) → IfOk (branch labels c words) Has
  unfolding branch
  branch_has c words = compared (λ a b target. Branch a b c target) (λ name a b target k p q. forms.branch name a b c target k p q) words

  swapped_has : (c : Cond) (words : List Word) → IfOk (swapped_branch labels c words) Has
  unfolding swapped_branch
  swapped_has c words = compared (λ a b target. Branch b a c target) (λ name a b target k p q. forms.branch name b a c target k q p) words

  goto_has : (words : List Word) → IfOk (goto labels words) Has
  unfolding goto
  goto_has words =
      after (one_name words) _ (λ name e. after (code_label labels name) _ (λ target k. forms.branch name 0 0 Eq target k zero_few zero_few))

  call_has : (words : List Word) → IfOk (call labels words) Has
  unfolding call
  call_has words =
      after (two_names words) _ (λ names e.
      named names.1 _ (λ dest p. after (code_label labels names.0) _ (λ target k. forms.call names.0 dest target k p)))

  call_register_has : (words : List Word) → IfOk (call_register words) Has
  unfolding call_register
  call_register_has words =
      after (two_names words) _ (λ names e. named names.0 _ (λ a p. named names.1 _ (λ dest q. forms.call_register a dest p q)))

  jump_has : (words : List Word) → IfOk (jump words) Has
  unfolding jump
  jump_has words = after (one_name words) _ (λ name e. named name _ (λ a p. forms.jump a p))

  system_has : (words : List Word) → IfOk (system words) Has
  unfolding system
  system_has words = after (nothing words) _ (λ u e. tt)

  spelled_has : (mnemonic : Mnemonic) (words : List Word) → is_regular mnemonic ≡ true → IfOk (spelled_by labels mnemonic words) Has
  unfolding spelled_by
  spelled_has (m.Compute o) words h = compute_has o words h
  spelled_has m.Not words h = one_has op.Not words (λ a. refl)
  spelled_has m.Mstart words h = mstart_has words
  spelled_has m.Asr words h = asr_has words
  spelled_has m.Sh words h = sh_has words
  spelled_has m.Addi words h = addi_has words
  spelled_has m.Mov words h = one_has op.Add words (λ a. tt)
  spelled_has m.Nop words h = nop_has words
  spelled_has m.MoveFrom words h = move_from_has words
  spelled_has m.MoveTo words h = move_to_has words
  spelled_has m.Load words h = load_has words
  spelled_has m.Store words h = store_has words
  spelled_has m.LoadAddress words h = load_address_has words
  spelled_has (m.Branch c) words h = branch_has c words
  spelled_has (m.SwappedBranch c) words h = swapped_has c words
  spelled_has m.Goto words h = goto_has words
  spelled_has m.Call words h = call_has words
  spelled_has m.CallReg words h = call_register_has words
  spelled_has m.JumpReg words h = jump_has words
  spelled_has m.Halt words h = halt_has words
  spelled_has m.System words h = system_has words

  with_has : (o : Option Mnemonic) (words : List Word) → IfSome o (λ n. is_regular n ≡ true) → IfOk (with_mnemonic labels o words) Has
  with_has (Some mnemonic) words h = spelled_has mnemonic words h
  with_has None words h = tt

  pub instruction_has : (name : List ℕ) (words : List Word) → IfOk (instruction labels name words) Has
  unfolding instruction
  instruction_has name words = with_has (mnemonic_named name) words (named_regular name)
