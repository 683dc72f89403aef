-- The canonical text of a statement says the statement.
use Rattle.std.proofs.Common.{◌≡◌, ℕ, suc, ◌+◌, ◌^◌, ◌≤◌, ◌<◌, Bool, true, false, cond, eqb, leb, ◌&&◌, List, [], ◌∷◌, ◌++◌, length, Some, Result, Ok, Err, refl, sym, ap, ◌∙◌, subst, arith, decimal, pos, negsuc, ℤ, append_assoc}
use Rattle.std.specs.Prelude.{codes, ok_or, not}
use Rattle.std.specs.Fmt.{digits, signed_decimal}
use Rattle.std.specs.List.{join_with_byte}
use Rattle.std.proofs.lemmas.Bool.{le-leb, eqb-true, leb-true, agree_below_at}
use Rattle.std.proofs.lemmas.List.{append-nil, length-append}
use Rattle.std.proofs.lemmas.Fmt.{length-decimal-le}
use Rattle.mx_lex.specs.declared.token.Kind.TheVariants as kinds
use Rattle.mx_isa.specs.Fields.{IsSignedField, OpFits, InstFits}
use Rattle.mx_isa.specs.Registers.{IsRegister}
use Rattle.mx_isa.specs.declared.inst.Special.TheVariants.{Md, Pc1, Pc2, Pc3}
use Rattle.mx_isa.specs.declared.inst.Op.{Op}
use Rattle.mx_isa.specs.declared.inst.Op.TheVariants.{Add, Sub, Subnc, And, Or, Xor, Bic, Not, Rotlb, Mstart, Mstep, Dstep, Asr, Sh}
use Rattle.mx_isa.specs.declared.inst.Cond.{Cond}
use Rattle.mx_isa.specs.declared.inst.Cond.TheVariants.{Eq, Ne, Lt, Ge, Lo, Hs}
use Rattle.mx_isa.specs.declared.inst.Inst.{Inst}
use Rattle.mx_isa.specs.declared.inst.Inst.TheVariants as inst
use Rattle.mx_source.specs.declared.statement.Label.TheVariants as label
use Rattle.mx_source.specs.declared.statement.Statement.{Statement}
use Rattle.mx_source.specs.declared.statement.Statement.TheVariants.{Plain, LaCode, Branch, Call, CallReg, JumpReg, Halt}
use Rattle.mx_source.specs.declared.statement.Value.{Value}
use Rattle.mx_source.specs.declared.statement.Value.TheVariants as values
use Rattle.mx_source.specs.Labels.{IsPlace}
use Rattle.mx_source.specs.Statements.{IsPlain, StatementFits, ValueFits}
use Rattle.mx_source.specs.Printed as text
use Rattle.mx_source.specs.Printed.{spelled, place_name, statement_text, instruction_text, compute_text, condition_text}
use Rattle.mx_lines.specs.declared.fault.Fault.{Fault}
use Rattle.mx_lines.specs.declared.fault.Fault.TheVariants.{NumberOutOfRange, UndefinedLabel}
use Rattle.mx_asm.specs.declared.position.Section.{Section}
use Rattle.mx_asm.specs.declared.position.Section.TheVariants as section
use Rattle.mx_lines.specs.declared.mnemonic.Mnemonic.{Mnemonic}
use Rattle.mx_lines.specs.declared.mnemonic.Mnemonic.TheVariants as m
use Rattle.mx_lines.specs.Reading.{◌>>=◌}
use Rattle.mx_lines.specs.Words.{Word, Name, Number, Comma, Open, Close, Hash}
use Rattle.mx_lines.specs.Operands.{register, data_word, special, immediate, count, label_named, any_label, code_label, offset, code_index}
use Rattle.mx_lines.specs.Mnemonics.{mnemonics, mnemonic_named}
use Rattle.mx_lines.specs.Instructions.{Labels, instruction, with_mnemonic, spelled_by, compute, of_one, mstart, asr, sh, addi, move_from, move_to, load, store, load_address, branch, call, call_register, jump, halt}
use Rattle.mx_asm.specs.Directives.{Effect, Instruction, Data, in_data, word_values, effect_of, directed, directive_named, is_dotted, in_code}
use Rattle.mx_asm.specs.Positions.{begins_label, section_after}
use Rattle.mx_asm.specs.Printable.{is_name, IsWord, IsLabelName, NamesRegisters, HasRegisters}
use Rattle.mx_asm.proofs.Spelled.{Splits, splits_end, splits_name, splits_mark, splits_blank, splits_decimal, splits_signed, is_negative, size, is_comma, is_open, is_close, is_hash, register_name, and_both}

-- the same label under each name
abbrev pub SameLabels : Labels → Labels → Type 0
SameLabels K labels = (name : List ℕ) → label_named K name ≡ label_named labels name

-- the text is a line without labels that says this effect, in a text that has these labels
pub record Says (labels : Labels) (s : Section) (line : List ℕ) (e : Effect) : Type 0 where
  pub words : List Word
  pub splits : Splits line words
  pub front : begins_label words ≡ false
  pub section : section_after s words ≡ s
  pub short : length line ≤ 255
  pub effect : (K : Labels) → SameLabels K labels → effect_of K s words ≡ Ok e

-- a name that names this place
pub record Placed (labels : Labels) (i : ℕ) : Type 0 where
  pub name : IsLabelName (place_name labels i)
  pub found : label_named labels (place_name labels i) ≡ Some (label.Code i)

record IsMnemonic (name : List ℕ) (mnemonic : Mnemonic) : Type 0 where
  letters : is_name name ≡ true
  undotted : is_dotted name ≡ false
  short : length name ≤ 6
  named : mnemonic_named name ≡ Some mnemonic

is_read : ℕ → Result ℕ Fault → Bool
is_read r (Ok n) = eqb n r
is_read r (Err fault) = false

read_from : (r : ℕ) (result : Result ℕ Fault) → is_read r result ≡ true → result ≡ Ok r
unfolding is_read
read_from r (Ok n) h = ap Ok (eqb-true n r h)
read_from r (Err fault) h = cc

-- a register's text reads as the register
pub register_read : (r : ℕ) → IsRegister r → register (text.register r) ≡ Ok r
unfolding is_read register digits
register_read r h = read_from r (register (text.register r)) (agree_below_at (λ r. is_read r (register (text.register r))) (λ r. true) 32 r refl (omega arith))

bind_is : {A B : Type 0} (r : Result A Fault) (f : A → Result B Fault) (x : A) (y : B) → r ≡ Ok x → f x ≡ Ok y → (r >>= f) ≡ Ok y
bind_is r f x y h k = ap (λ r. r >>= f) h ∙ k

immediate_read : (z : ℤ) → IsSignedField 16 z → immediate (is_negative z) (size z) ≡ Ok z
unfolding immediate
immediate_read (pos v) h = ap (λ t. cond t (Ok (pos v)) (Err NumberOutOfRange)) (le-leb v 65535 (omega arith))
immediate_read (negsuc v) h = ap (λ t. cond t (Ok (negsuc v)) (Err NumberOutOfRange)) (le-leb (suc v) 65536 (omega arith))

count_read : (n : ℕ) → n ≤ 31 → count false n ≡ Ok n
unfolding count
count_read n h = ap (λ t. cond t (Ok n) (Err NumberOutOfRange)) (le-leb n 31 h)

-- the effect of an instruction
instruction_says : (K : Labels) (name : List ℕ) (mnemonic : Mnemonic) (words : List Word) (s : Statement) → IsMnemonic name mnemonic
    → spelled_by K mnemonic words ≡ Ok s → effect_of K section.Code (Name name ∷ words) ≡ Ok (Instruction s)
unfolding effect_of instruction
instruction_says K name mnemonic words s is h =
    ap (λ t. cond t (directed K section.Code (directive_named name) words) (instruction K name words >>= λ s. in_code section.Code s)) is.undotted
    ∙ ap (λ o. with_mnemonic K o words >>= λ s. in_code section.Code s) is.named
    ∙ ap (λ r. r >>= λ s. in_code section.Code s) h

-- texts and their words
last_name : (n : List ℕ) → is_name n ≡ true → Splits n (Name n ∷ [])
last_name n h = subst (λ t. Splits t (Name n ∷ [])) (append-nil n) (splits_name n [] [] h refl splits_end)

last_decimal : (v : ℕ) → v < 2 ^ 33 → Splits (decimal v) (Number false v ∷ [])
last_decimal v h = subst (λ t. Splits t (Number false v ∷ [])) (append-nil (decimal v)) (splits_decimal v [] [] h refl splits_end)

name_comma : (n rest : List ℕ) (words : List Word) → is_name n ≡ true → Splits rest words → Splits (n ++ 44 ∷ rest) (Name n ∷ Comma ∷ words)
name_comma n rest words h s = splits_name n (44 ∷ rest) (Comma ∷ words) h refl (splits_mark 44 kinds.Comma Comma is_comma rest words s)

-- a mnemonic, a blank and operands
opens : (n : List ℕ) (xs : List (List ℕ)) (words : List Word) → is_name n ≡ true → Splits (join_with_byte 44 xs) words → Splits (spelled n xs) (Name n ∷ words)
opens n xs words h s =
    subst (λ t. Splits t (Name n ∷ words)) (sym (append_assoc n (32 ∷ []) (join_with_byte 44 xs)))
    (splits_name n (32 ∷ join_with_byte 44 xs) words h refl (splits_blank (join_with_byte 44 xs) words s))

hash : (rest : List ℕ) (words : List Word) → Splits rest words → Splits (35 ∷ rest) (Hash ∷ words)
hash rest words s = splits_mark 35 kinds.Hash Hash is_hash rest words s

register_comma : (r : ℕ) (rest : List ℕ) (words : List Word) → IsRegister r → Splits rest words
    → Splits (text.register r ++ 44 ∷ rest) (Name (text.register r) ∷ Comma ∷ words)
register_comma r rest words h s = name_comma (text.register r) rest words (register_name r h) s

last_register : (r : ℕ) → IsRegister r → Splits (text.register r) (Name (text.register r) ∷ [])
last_register r h = last_name (text.register r) (register_name r h)

-- `O[R],R`
memory_splits : (z : ℤ) (base r : ℕ) → IsSignedField 16 z → IsRegister base → IsRegister r
    → Splits (text.memory z base ++ 44 ∷ text.register r)
    (Number (is_negative z) (size z) ∷ Open ∷ Name (text.register base) ∷ Close ∷ Comma ∷ Name (text.register r) ∷ [])
memory_splits z base r small hb hr =
    subst (λ t. Splits t (Number (is_negative z) (size z) ∷ Open ∷ Name (text.register base) ∷ Close ∷ Comma ∷ Name (text.register r) ∷ [])) (sym flat)
    (splits_signed z _ _ small refl
    (splits_mark 91 kinds.Open Open is_open _ _
    (splits_name (text.register base) _ _ (register_name base hb) refl
    (splits_mark 93 kinds.Close Close is_close _ _ (splits_mark 44 kinds.Comma Comma is_comma _ _ (last_register r hr))))))
  where
    flat : text.memory z base ++ 44 ∷ text.register r ≡ signed_decimal z ++ (91 ∷ (text.register base ++ (93 ∷ 44 ∷ text.register r)))
    flat = simp append_assoc

-- how long they are
decimal_short : (n : ℕ) → n < 2 ^ 32 → length (decimal n) ≤ 10
decimal_short n h = length-decimal-le 10 n (omega arith) (omega arith) (omega arith)

register_short : (r : ℕ) → IsRegister r → length (text.register r) ≤ 11
register_short r h = let k = decimal_short r (omega arith) in omega arith

signed_short : (z : ℤ) → IsSignedField 16 z → length (signed_decimal z) ≤ 11
signed_short (pos v) h = let k = decimal_short v (omega arith) in omega arith
signed_short (negsuc v) h = let k = decimal_short (suc v) (omega arith) in omega arith

memory_short : (z : ℤ) (base : ℕ) → IsSignedField 16 z → IsRegister base → length (text.memory z base) ≤ 30
memory_short z base hz hb = simp length-append (omega (arith, signed_short z hz, register_short base hb))

abbrev width : List (List ℕ) → ℕ
width [] = 0
width (x ∷ xs) = length x + 1 + width xs

joined_short : (xs : List (List ℕ)) → length (join_with_byte 44 xs) ≤ width xs
joined_short [] = omega arith
joined_short (x ∷ []) = omega arith
joined_short (x ∷ y ∷ xs) = let l : length (x ++ (44 ∷ join_with_byte 44 (y ∷ xs))) ≡ length x + suc (length (join_with_byte 44 (y ∷ xs))) = length-append x
    (44 ∷ join_with_byte 44 (y ∷ xs)) in omega (arith, joined_short (y ∷ xs))

spelled_short : (n : List ℕ) (xs : List (List ℕ)) → length n ≤ 6 → width xs ≤ 248 → length (spelled n xs) ≤ 255
spelled_short n xs h k = simp length-append (omega (arith, joined_short xs))

comma : (rest : List ℕ) (words : List Word) → Splits rest words → Splits (44 ∷ rest) (Comma ∷ words)
comma rest words s = splits_mark 44 kinds.Comma Comma is_comma rest words s

is_mnemonic : (n : List ℕ) (mnemonic : Mnemonic) → (is_name n && not (is_dotted n) && leb (length n) 6) ≡ true → mnemonic_named n ≡ Some mnemonic
    → IsMnemonic n mnemonic
is_mnemonic n mnemonic h named =
    let b = and_both (is_name n && not (is_dotted n)) (leb (length n) 6) h in
    let c = and_both (is_name n) (not (is_dotted n)) b.0 in
    record { letters = c.0; undotted = undone (is_dotted n) c.1; short = leb-true (length n) 6 b.1; named = named }
  where
    undone : (b : Bool) → not b ≡ true → b ≡ false
    undone true h = cc
    undone false h = refl

module _ (labels : Labels) where
  abbrev SaysStatement : List ℕ → Statement → Type 0
  SaysStatement line s = Says labels section.Code line (Instruction s)

  says_of : (n : List ℕ) (mnemonic : Mnemonic) (xs : List (List ℕ)) (words : List Word) (s : Statement) → IsMnemonic n mnemonic
      → Splits (join_with_byte 44 xs) words
      → begins_label (Name n ∷ words) ≡ false → section_after section.Code (Name n ∷ words) ≡ section.Code → width xs ≤ 248
      → ((K : Labels) → SameLabels K labels → spelled_by K mnemonic words ≡ Ok s)
      → SaysStatement (spelled n xs) s
  says_of n mnemonic xs words s is splits front stays few reads = record {
    words = Name n ∷ words;
    splits = opens n xs words is.letters splits;
    front = front;
    section = stays;
    short = spelled_short n xs is.short few;
    effect = λ K same. instruction_says K n mnemonic words s is (reads K same);
  }

  three_says : (n : List ℕ) (op : Op) (a b d : ℕ) → IsMnemonic n (m.Compute op) → IsRegister a → IsRegister b → IsRegister d
      → SaysStatement (spelled n (text.register a ∷ text.register b ∷ text.register d ∷ [])) (Plain (inst.Compute a d b op))
  unfolding spelled_by compute
  three_says n op a b d is ha hb hd =
      let la = register_short a ha in let lb = register_short b hb in let ld = register_short d hd in
      says_of n (m.Compute op) (text.register a ∷ text.register b ∷ text.register d ∷ [])
      (Name (text.register a) ∷ Comma ∷ Name (text.register b) ∷ Comma ∷ Name (text.register d) ∷ [])
      (Plain (inst.Compute a d b op)) is (register_comma a _ _ ha (register_comma b _ _ hb (last_register d hd))) refl refl (omega arith)
      (λ K same. bind_is _ _ a _ (register_read a ha) (bind_is _ _ b _ (register_read b hb) (bind_is _ _ d _ (register_read d hd) refl)))

  not_says : (a d : ℕ) → IsRegister a → IsRegister d
      → SaysStatement (spelled (codes "not") (text.register a ∷ text.register d ∷ [])) (Plain (inst.Compute a d 0 Not))
  unfolding spelled_by of_one mnemonic_named mnemonics
  not_says a d ha hd =
      let la = register_short a ha in let ld = register_short d hd in
      says_of (codes "not") m.Not (text.register a ∷ text.register d ∷ []) (Name (text.register a) ∷ Comma ∷ Name (text.register d) ∷ [])
      (Plain (inst.Compute a d 0 Not)) (is_mnemonic (codes "not") m.Not refl refl) (register_comma a _ _ ha (last_register d hd)) refl refl (omega arith)
      (λ K same. bind_is _ _ a _ (register_read a ha) (bind_is _ _ d _ (register_read d hd) refl))

  mstart_says : (b d : ℕ) → IsRegister b → IsRegister d
      → SaysStatement (spelled (codes "mstart") (text.register b ∷ text.register d ∷ [])) (Plain (inst.Compute 0 d b Mstart))
  unfolding spelled_by mstart mnemonic_named mnemonics
  mstart_says b d hb hd =
      let lb = register_short b hb in let ld = register_short d hd in
      says_of (codes "mstart") m.Mstart (text.register b ∷ text.register d ∷ []) (Name (text.register b) ∷ Comma ∷ Name (text.register d) ∷ [])
      (Plain (inst.Compute 0 d b Mstart)) (is_mnemonic (codes "mstart") m.Mstart refl refl) (register_comma b _ _ hb (last_register d hd)) refl refl
      (omega arith)
      (λ K same. bind_is _ _ b _ (register_read b hb) (bind_is _ _ d _ (register_read d hd) refl))

  asr_says : (a d n : ℕ) → IsRegister a → IsRegister d → n ≤ 31
      → SaysStatement (spelled (codes "asr") (text.register a ∷ text.count n ∷ text.register d ∷ [])) (Plain (inst.Compute a d 0 (Asr n)))
  unfolding spelled_by asr mnemonic_named mnemonics
  asr_says a d n ha hd hn =
      let la = register_short a ha in let ld = register_short d hd in let ln = decimal_short n (omega arith) in
      says_of (codes "asr") m.Asr (text.register a ∷ text.count n ∷ text.register d ∷ [])
      (Name (text.register a) ∷ Comma ∷ Hash ∷ Number false n ∷ Comma ∷ Name (text.register d) ∷ [])
      (Plain (inst.Compute a d 0 (Asr n))) (is_mnemonic (codes "asr") m.Asr refl refl)
      (register_comma a _ _ ha (hash _ _ (splits_decimal n (44 ∷ text.register d) _ (omega arith) refl (comma _ _ (last_register d hd))))) refl refl
      (omega arith)
      (λ K same. bind_is _ _ a _ (register_read a ha) (bind_is _ _ d _ (register_read d hd) (bind_is _ _ n _ (count_read n hn) refl)))

  sh_says : (a b d n : ℕ) → IsRegister a → IsRegister b → IsRegister d → n ≤ 31
      → SaysStatement (spelled (codes "sh") (text.register a ∷ text.register b ∷ text.count n ∷ text.register d ∷ [])) (Plain (inst.Compute a d b (Sh n)))
  unfolding spelled_by sh mnemonic_named mnemonics
  sh_says a b d n ha hb hd hn =
      let la = register_short a ha in let lb = register_short b hb in let ld = register_short d hd in let ln = decimal_short n (omega arith) in
      says_of (codes "sh") m.Sh (text.register a ∷ text.register b ∷ text.count n ∷ text.register d ∷ [])
      (Name (text.register a) ∷ Comma ∷ Name (text.register b) ∷ Comma ∷ Hash ∷ Number false n ∷ Comma ∷ Name (text.register d) ∷ [])
      (Plain (inst.Compute a d b (Sh n))) (is_mnemonic (codes "sh") m.Sh refl refl)
      (register_comma a _ _ ha (register_comma b _ _ hb
      (hash _ _ (splits_decimal n (44 ∷ text.register d) _ (omega arith) refl (comma _ _ (last_register d hd)))))) refl refl (omega arith)
      (λ K same. bind_is _ _ a _ (register_read a ha)
      (bind_is _ _ b _ (register_read b hb) (bind_is _ _ d _ (register_read d hd) (bind_is _ _ n _ (count_read n hn) refl))))

  addi_says : (a d : ℕ) (z : ℤ) → IsRegister a → IsRegister d → IsSignedField 16 z
      → SaysStatement (spelled (codes "addi") (text.register a ∷ text.immediate z ∷ text.register d ∷ [])) (Plain (inst.Addi a d z))
  unfolding spelled_by addi mnemonic_named mnemonics
  addi_says a d z ha hd hz =
      let la = register_short a ha in let ld = register_short d hd in let lz = signed_short z hz in
      says_of (codes "addi") m.Addi (text.register a ∷ text.immediate z ∷ text.register d ∷ [])
      (Name (text.register a) ∷ Comma ∷ Hash ∷ Number (is_negative z) (size z) ∷ Comma ∷ Name (text.register d) ∷ [])
      (Plain (inst.Addi a d z)) (is_mnemonic (codes "addi") m.Addi refl refl)
      (register_comma a _ _ ha (hash _ _ (splits_signed z (44 ∷ text.register d) _ hz refl (comma _ _ (last_register d hd))))) refl refl (omega arith)
      (λ K same. bind_is _ _ a _ (register_read a ha) (bind_is _ _ d _ (register_read d hd) (bind_is _ _ z _ (immediate_read z hz) refl)))

  load_says : (base d : ℕ) (z : ℤ) → IsRegister base → IsRegister d → IsSignedField 16 z
      → SaysStatement (spelled (codes "ld") (text.memory z base ∷ text.register d ∷ [])) (Plain (inst.Load base d z))
  unfolding spelled_by load offset mnemonic_named mnemonics
  load_says base d z hb hd hz =
      let lb = memory_short z base hz hb in let ld = register_short d hd in
      says_of (codes "ld") m.Load (text.memory z base ∷ text.register d ∷ [])
      (Number (is_negative z) (size z) ∷ Open ∷ Name (text.register base) ∷ Close ∷ Comma ∷ Name (text.register d) ∷ [])
      (Plain (inst.Load base d z)) (is_mnemonic (codes "ld") m.Load refl refl) (memory_splits z base d hz hb hd) refl refl (omega arith)
      (λ K same. bind_is _ _ base _ (register_read base hb) (bind_is _ _ d _ (register_read d hd) (bind_is _ _ z _ (immediate_read z hz) refl)))

  store_says : (base d : ℕ) (z : ℤ) → IsRegister base → IsRegister d → IsSignedField 16 z
      → SaysStatement (spelled (codes "st") (text.memory z base ∷ text.register d ∷ [])) (Plain (inst.Store base d z))
  unfolding spelled_by store offset mnemonic_named mnemonics
  store_says base d z hb hd hz =
      let lb = memory_short z base hz hb in let ld = register_short d hd in
      says_of (codes "st") m.Store (text.memory z base ∷ text.register d ∷ [])
      (Number (is_negative z) (size z) ∷ Open ∷ Name (text.register base) ∷ Close ∷ Comma ∷ Name (text.register d) ∷ [])
      (Plain (inst.Store base d z)) (is_mnemonic (codes "st") m.Store refl refl) (memory_splits z base d hz hb hd) refl refl (omega arith)
      (λ K same. bind_is _ _ base _ (register_read base hb) (bind_is _ _ d _ (register_read d hd) (bind_is _ _ z _ (immediate_read z hz) refl)))

  move_from_says : (d : ℕ) → IsRegister d → SaysStatement (spelled (codes "movfrs") (codes "md" ∷ text.register d ∷ [])) (Plain (inst.MoveFrom d Md))
  unfolding spelled_by move_from special mnemonic_named mnemonics
  move_from_says d hd =
      let ld = register_short d hd in
      says_of (codes "movfrs") m.MoveFrom (codes "md" ∷ text.register d ∷ []) (Name (codes "md") ∷ Comma ∷ Name (text.register d) ∷ [])
      (Plain (inst.MoveFrom d Md)) (is_mnemonic (codes "movfrs") m.MoveFrom refl refl) (name_comma (codes "md") _ _ refl (last_register d hd)) refl refl
      (omega arith)
      (λ K same. bind_is _ _ d _ (register_read d hd) refl)

  move_to_says : (a : ℕ) → IsRegister a → SaysStatement (spelled (codes "movtos") (text.register a ∷ codes "md" ∷ [])) (Plain (inst.MoveTo a Md))
  unfolding spelled_by move_to special mnemonic_named mnemonics
  move_to_says a ha =
      let la = register_short a ha in
      says_of (codes "movtos") m.MoveTo (text.register a ∷ codes "md" ∷ []) (Name (text.register a) ∷ Comma ∷ Name (codes "md") ∷ [])
      (Plain (inst.MoveTo a Md)) (is_mnemonic (codes "movtos") m.MoveTo refl refl) (register_comma a _ _ ha (last_name (codes "md") refl)) refl refl
      (omega arith)
      (λ K same. bind_is _ _ a _ (register_read a ha) refl)

  -- names of places
  place_read : (K : Labels) (i : ℕ) → SameLabels K labels → Placed labels i → any_label K (place_name labels i) ≡ Ok (label.Code i)
  unfolding any_label
  place_read K i same h = ap (λ o. ok_or o UndefinedLabel) (same (place_name labels i) ∙ h.found)

  code_read : (K : Labels) (i : ℕ) → SameLabels K labels → Placed labels i → code_label K (place_name labels i) ≡ Ok i
  unfolding code_label
  code_read K i same h = ap (λ r. r >>= code_index) (place_read K i same h)

  la_says : (d i : ℕ) → IsRegister d → Placed labels i → SaysStatement (spelled (codes "la") (place_name labels i ∷ text.register d ∷ [])) (LaCode d i)
  unfolding spelled_by load_address mnemonic_named mnemonics
  la_says d i hd hi =
      let ld = register_short d hd in let li = hi.name.short in
      says_of (codes "la") m.LoadAddress (place_name labels i ∷ text.register d ∷ []) (Name (place_name labels i) ∷ Comma ∷ Name (text.register d) ∷ [])
      (LaCode d i) (is_mnemonic (codes "la") m.LoadAddress refl refl) (name_comma (place_name labels i) _ _ hi.name.spelled (last_register d hd)) refl refl
      (omega arith)
      (λ K same. bind_is _ _ d _ (register_read d hd) (bind_is _ _ (label.Code i) _ (place_read K i same hi) refl))

  branch_says : (n : List ℕ) (a b i : ℕ) (c : Cond) → IsMnemonic n (m.Branch c) → IsRegister a → IsRegister b → Placed labels i
      → SaysStatement (spelled n (text.register a ∷ text.register b ∷ place_name labels i ∷ [])) (Branch a b c i)
  unfolding spelled_by branch
  branch_says n a b i c is ha hb hi =
      let la = register_short a ha in let lb = register_short b hb in let li = hi.name.short in
      says_of n (m.Branch c) (text.register a ∷ text.register b ∷ place_name labels i ∷ [])
      (Name (text.register a) ∷ Comma ∷ Name (text.register b) ∷ Comma ∷ Name (place_name labels i) ∷ [])
      (Branch a b c i) is (register_comma a _ _ ha (register_comma b _ _ hb (last_name (place_name labels i) hi.name.spelled))) refl refl (omega arith)
      (λ K same. bind_is _ _ a _ (register_read a ha) (bind_is _ _ b _ (register_read b hb) (bind_is _ _ i _ (code_read K i same hi) refl)))

  call_says : (d i : ℕ) → IsRegister d → Placed labels i → SaysStatement (spelled (codes "call") (place_name labels i ∷ text.register d ∷ [])) (Call d i)
  unfolding spelled_by call mnemonic_named mnemonics
  call_says d i hd hi =
      let ld = register_short d hd in let li = hi.name.short in
      says_of (codes "call") m.Call (place_name labels i ∷ text.register d ∷ []) (Name (place_name labels i) ∷ Comma ∷ Name (text.register d) ∷ [])
      (Call d i) (is_mnemonic (codes "call") m.Call refl refl) (name_comma (place_name labels i) _ _ hi.name.spelled (last_register d hd)) refl refl
      (omega arith)
      (λ K same. bind_is _ _ d _ (register_read d hd) (bind_is _ _ i _ (code_read K i same hi) refl))

  call_register_says : (a d : ℕ) → IsRegister a → IsRegister d → SaysStatement (spelled (codes "callr") (text.register a ∷ text.register d ∷ [])) (CallReg a d)
  unfolding spelled_by call_register mnemonic_named mnemonics
  call_register_says a d ha hd =
      let la = register_short a ha in let ld = register_short d hd in
      says_of (codes "callr") m.CallReg (text.register a ∷ text.register d ∷ []) (Name (text.register a) ∷ Comma ∷ Name (text.register d) ∷ [])
      (CallReg a d) (is_mnemonic (codes "callr") m.CallReg refl refl) (register_comma a _ _ ha (last_register d hd)) refl refl (omega arith)
      (λ K same. bind_is _ _ a _ (register_read a ha) (bind_is _ _ d _ (register_read d hd) refl))

  jump_says : (a : ℕ) → IsRegister a → SaysStatement (spelled (codes "jr") (text.register a ∷ [])) (JumpReg a)
  unfolding spelled_by jump mnemonic_named mnemonics
  jump_says a ha =
      let la = register_short a ha in
      says_of (codes "jr") m.JumpReg (text.register a ∷ []) (Name (text.register a) ∷ []) (JumpReg a) (is_mnemonic (codes "jr") m.JumpReg refl refl)
      (last_register a ha) refl refl (omega arith)
      (λ K same. bind_is _ _ a _ (register_read a ha) refl)

  halt_says : SaysStatement (codes "halt") Halt
  unfolding spelled_by halt mnemonic_named mnemonics directive_named
  halt_says = record {
    words = Name (codes "halt") ∷ [];
    splits = last_name (codes "halt") refl;
    front = refl;
    section = refl;
    short = omega arith;
    effect = λ K same. instruction_says K (codes "halt") m.Halt [] Halt (is_mnemonic (codes "halt") m.Halt refl refl) refl;
  }

  compute_says : (op : Op) (a b d : ℕ) → OpFits op a b → IsRegister a → IsRegister b → IsRegister d
      → SaysStatement (compute_text op a b d) (Plain (inst.Compute a d b op))
  unfolding mnemonic_named mnemonics
  compute_says Add a b d h ha hb hd = three_says (codes "add") Add a b d (is_mnemonic (codes "add") (m.Compute Add) refl refl) ha hb hd
  compute_says Sub a b d h ha hb hd = three_says (codes "sub") Sub a b d (is_mnemonic (codes "sub") (m.Compute Sub) refl refl) ha hb hd
  compute_says Subnc a b d h ha hb hd = three_says (codes "subnc") Subnc a b d (is_mnemonic (codes "subnc") (m.Compute Subnc) refl refl) ha hb hd
  compute_says And a b d h ha hb hd = three_says (codes "and") And a b d (is_mnemonic (codes "and") (m.Compute And) refl refl) ha hb hd
  compute_says Or a b d h ha hb hd = three_says (codes "or") Or a b d (is_mnemonic (codes "or") (m.Compute Or) refl refl) ha hb hd
  compute_says Xor a b d h ha hb hd = three_says (codes "xor") Xor a b d (is_mnemonic (codes "xor") (m.Compute Xor) refl refl) ha hb hd
  compute_says Bic a b d h ha hb hd = three_says (codes "bic") Bic a b d (is_mnemonic (codes "bic") (m.Compute Bic) refl refl) ha hb hd
  compute_says Rotlb a b d h ha hb hd = three_says (codes "rotlb") Rotlb a b d (is_mnemonic (codes "rotlb") (m.Compute Rotlb) refl refl) ha hb hd
  compute_says Mstep a b d h ha hb hd = three_says (codes "mstep") Mstep a b d (is_mnemonic (codes "mstep") (m.Compute Mstep) refl refl) ha hb hd
  compute_says Dstep a b d h ha hb hd = three_says (codes "dstep") Dstep a b d (is_mnemonic (codes "dstep") (m.Compute Dstep) refl refl) ha hb hd
  compute_says Not a b d h ha hb hd = subst (λ k. SaysStatement (compute_text Not a k d) (Plain (inst.Compute a d k Not))) (sym h) (not_says a d ha hd)
  compute_says Mstart a b d h ha hb hd = subst (λ k. SaysStatement (compute_text Mstart k b d) (Plain (inst.Compute k d b Mstart))) (sym h)
      (mstart_says b d hb hd)
  compute_says (Asr n) a b d h ha hb hd = subst (λ k. SaysStatement (compute_text (Asr n) a k d) (Plain (inst.Compute a d k (Asr n)))) (sym h.1)
      (asr_says a d n ha hd h.0)
  compute_says (Sh n) a b d h ha hb hd = sh_says a b d n ha hb hd h

  plain_says : (i : Inst) → IsPlain i → InstFits i → HasRegisters i → SaysStatement (instruction_text i) (Plain i)
  plain_says (inst.Load base d z) p f r = load_says base d z r.0 r.1 f
  plain_says (inst.Store base v z) p f r = store_says base v z r.0 r.1 f
  plain_says (inst.Compute a d b op) p f r = compute_says op a b d f r.0 r.2 r.1
  plain_says (inst.Addi a d z) p f r = addi_says a d z r.0 r.1 f
  plain_says (inst.MoveFrom d Md) p f r = move_from_says d r
  plain_says (inst.MoveFrom d Pc1) p f r = cc
  plain_says (inst.MoveFrom d Pc2) p f r = cc
  plain_says (inst.MoveFrom d Pc3) p f r = cc
  plain_says (inst.MoveTo a Md) p f r = move_to_says a r
  plain_says (inst.MoveTo a Pc1) p f r = cc
  plain_says (inst.MoveTo a Pc2) p f r = cc
  plain_says (inst.MoveTo a Pc3) p f r = cc
  plain_says (inst.Branch a b c s z) p f r = absurd p
  plain_says (inst.Jspci a d z) p f r = absurd p
  plain_says inst.Jpc p f r = absurd p
  plain_says inst.Jpcrs p f r = absurd p
  plain_says inst.Halt p f r = absurd p

  condition_says : (c : Cond) (a b i : ℕ) → IsRegister a → IsRegister b → Placed labels i
      → SaysStatement (spelled (condition_text c) (text.register a ∷ text.register b ∷ place_name labels i ∷ [])) (Branch a b c i)
  unfolding mnemonic_named mnemonics
  condition_says Eq a b i ha hb hi = branch_says (codes "beq") a b i Eq (is_mnemonic (codes "beq") (m.Branch Eq) refl refl) ha hb hi
  condition_says Ne a b i ha hb hi = branch_says (codes "bne") a b i Ne (is_mnemonic (codes "bne") (m.Branch Ne) refl refl) ha hb hi
  condition_says Lt a b i ha hb hi = branch_says (codes "blt") a b i Lt (is_mnemonic (codes "blt") (m.Branch Lt) refl refl) ha hb hi
  condition_says Ge a b i ha hb hi = branch_says (codes "bge") a b i Ge (is_mnemonic (codes "bge") (m.Branch Ge) refl refl) ha hb hi
  condition_says Lo a b i ha hb hi = branch_says (codes "blo") a b i Lo (is_mnemonic (codes "blo") (m.Branch Lo) refl refl) ha hb hi
  condition_says Hs a b i ha hb hi = branch_says (codes "bhs") a b i Hs (is_mnemonic (codes "bhs") (m.Branch Hs) refl refl) ha hb hi

  -- the text of a statement says it
  pub statement_says : (count : ℕ) → ((i : ℕ) → IsPlace labels count i → Placed labels i) → (s : Statement) → StatementFits (IsPlace labels count) s
      → NamesRegisters s → SaysStatement (statement_text labels s) s
  statement_says count placed (Plain i) f r = plain_says i f.0 f.1 r
  statement_says count placed (LaCode d i) f r = la_says d i r (placed i f)
  statement_says count placed (Branch a b c i) f r = condition_says c a b i r.0 r.1 (placed i f)
  statement_says count placed (Call d i) f r = call_says d i r (placed i f)
  statement_says count placed (CallReg a d) f r = call_register_says a d r.0 r.1
  statement_says count placed (JumpReg a) f r = jump_says a r
  statement_says count placed Halt f r = halt_says

  -- data words
  word_effect : (K : Labels) (words : List Word) (vs : List Value) → word_values K words ≡ Ok vs
      → effect_of K section.Data (Name (codes ".word") ∷ words) ≡ Ok (Data vs)
  unfolding effect_of directive_named directed
  word_effect K words vs h = ap (λ r. r >>= λ vs. in_data section.Data vs) h

  word_read : (w : ℕ) → w < 2 ^ 32 → data_word false w ≡ Ok w
  unfolding data_word
  word_read w h = ap (λ t. cond t (Ok w) (Err NumberOutOfRange)) (le-leb w 4294967295 (omega arith))

  int_read : (K : Labels) (w : ℕ) → w < 2 ^ 32 → word_values K (Number false w ∷ []) ≡ Ok (values.Int w ∷ [])
  unfolding word_values
  int_read K w h = rw (word_read w h) refl

  code_value : (K : Labels) (i : ℕ) → SameLabels K labels → Placed labels i → word_values K (Name (place_name labels i) ∷ []) ≡ Ok (values.Code i ∷ [])
  unfolding word_values
  code_value K i same h = rw (place_read K i same h) refl

  value_short : (v : Value) → length (text.value_text labels v) ≤ 200 → length (spelled (codes ".word") (text.value_text labels v ∷ [])) ≤ 255
  value_short v h = spelled_short (codes ".word") (text.value_text labels v ∷ []) (omega arith) (omega arith)

  -- the text of a data word says it
  pub value_says : (count : ℕ) → ((i : ℕ) → IsPlace labels count i → Placed labels i) → (v : Value) → ValueFits (IsPlace labels count) v → IsWord v
      → Says labels section.Data (spelled (codes ".word") (text.value_text labels v ∷ [])) (Data (v ∷ []))
  value_says count placed (values.Int w) f small = let short = decimal_short w small in record {
    words = Name (codes ".word") ∷ Number false w ∷ [];
    splits = opens (codes ".word") (decimal w ∷ []) (Number false w ∷ []) refl (last_decimal w (omega arith));
    front = refl;
    section = refl;
    short = value_short (values.Int w) (omega arith);
    effect = λ K same. word_effect K (Number false w ∷ []) (values.Int w ∷ []) (int_read K w small);
  }
  value_says count placed (values.Code i) f small = let h = placed i f in record {
    words = Name (codes ".word") ∷ Name (place_name labels i) ∷ [];
    splits = opens (codes ".word") (place_name labels i ∷ []) (Name (place_name labels i) ∷ []) refl (last_name (place_name labels i) h.name.spelled);
    front = refl;
    section = refl;
    short = value_short (values.Code i) (h.name.short);
    effect = λ K same. word_effect K (Name (place_name labels i) ∷ []) (values.Code i ∷ []) (code_value K i same h);
  }
