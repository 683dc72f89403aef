-- The text of a word is assembled to that word.
use Rattle.std.proofs.Common.{◌≡◌, ℕ, zero, suc, ◌+◌, ◌-◌, ◌^◌, ◌<◌, Bool, true, false, cond, ◌&&◌, ◌||◌, ◌==◌, leb, List, [], ◌∷◌, ◌++◌, Option, Some, None, Result, Ok, ℤ, pos, negsuc, refl, sym, ap, ◌∙◌, subst, arith, append_assoc}
use Rattle.std.specs.Prelude.{codes, is_some, is_none}
use Rattle.std.specs.Fmt.{digits}
use Rattle.std.specs.List.{list_all}
use Rattle.std.proofs.lemmas.List.{append-nil}
use Rattle.std.proofs.lemmas.Str.{encode_ascii}
use Rattle.std.proofs.lemmas.Bool.{le-leb}
use Rattle.std.proofs.lemmas.Bool.Decides.{nat_tests}
use Rattle.mx_isa.specs.Fields.{IsSignedField, InstFits}
use Rattle.mx_isa.specs.Registers.{IsRegister}
use Rattle.mx_isa.specs.declared.inst.Cond.{Cond}
use Rattle.mx_isa.specs.declared.inst.Special.TheVariants.{Md, Pc1, Pc2, Pc3}
use Rattle.mx_isa.specs.declared.inst.Inst.{Inst}
use Rattle.mx_isa.specs.declared.inst.Inst.TheVariants as inst
use Rattle.mx_code.specs.Codes.{Codes, word_of_row}
use Rattle.mx_code.specs.Decoding.{inst_of}
use Rattle.mx_code.proofs.Rows.{coded}
use Rattle.mx_source.specs.declared.statement.Label.TheVariants as label
use Rattle.mx_source.specs.declared.statement.Statement.{Statement}
use Rattle.mx_source.specs.declared.statement.Statement.TheVariants.{Plain, LaCode, Branch, Call, CallReg, JumpReg, Halt}
use Rattle.mx_source.specs.Labels.{IsPlace}
use Rattle.mx_source.specs.Statements.{IsPlain}
use Rattle.mx_source.specs.Printed as text
use Rattle.mx_source.specs.Printed.{spelled, place_name, statement_text, condition_text}
use Rattle.mx_lex.specs.declared.token.Kind.TheVariants as kinds
use Rattle.mx_lines.specs.declared.fault.Fault.{Fault}
use Rattle.mx_lines.specs.declared.mnemonic.Mnemonic.TheVariants as m
use Rattle.mx_lines.specs.Reading.{◌>>=◌}
use Rattle.mx_lines.specs.Words.{Word, Name, Comma, Open, Close}
use Rattle.mx_lines.specs.Operands.{label_named, any_label, data_label as data_address_of, offset}
use Rattle.mx_lines.specs.Mnemonics.{mnemonics, mnemonic_named}
use Rattle.mx_lines.specs.Instructions.{Labels, instruction, spelled_by, load, store}
use Rattle.mx_lines.proofs.Clean.{is_clean}
use Rattle.mx_asm.specs.declared.position.Section.TheVariants as section
use Rattle.mx_asm.specs.Directives.{Instruction, effect_of}
use Rattle.mx_asm.specs.Printable.{is_name, HasRegisters}
use Rattle.mx_asm.proofs.Spelled.{Splits, splits_end, splits_name, splits_mark, splits_blank, is_comma, is_open, is_close, register_name, name_is_clean, words_are, and_both}
use Rattle.mx_asm.proofs.Spellings.{Says, Placed, register_read, statement_says}
use Rattle.mx_asm.proofs.Tabled.{are_apart, are_placed}
use Rattle.mx_link.specs.Words.{displacement}
use Rattle.lab_words.specs.Naming.{Naming, names_of, aimed}
use Rattle.lab_words.specs.Texts.{name_text, or_number, or_else, behind_text, place_text, target, data_label, is_zero, register_jump_text, jump_text, made_label, sum_text, instruction_text}
use Rattle.lab_words.specs.Assembling.{ReadsAs, AssemblesTo, AreLabels, HasLine, is_numbered}
use Rattle.lab_words.proofs.Named.{AreNames, NamesCode}
use Rattle.lab_words.proofs.SourceLabels.{are_names, aimed_names}

-- a name of the language is its own text
clean_ascii : (b : ℕ) → is_clean b ≡ true → b < 128
clean_ascii b h = grind (arith, nat_tests)

clean_text : (bytes : List ℕ) → list_all is_clean bytes ≡ true → name_text bytes ≡ bytes
clean_text [] h = refl
clean_text (b ∷ bytes) h =
    let both = and_both (is_clean b) (list_all is_clean bytes) h in
    ap (λ front. front ++ name_text bytes) (encode_ascii b (clean_ascii b both.0)) ∙ ap (λ rest. b ∷ rest) (clean_text bytes both.1)

pub own_text : (name : List ℕ) → is_name name ≡ true → name_text name ≡ name
own_text name h = clean_text name (name_is_clean name h)

-- canonical texts
none_is : {A : Type 0} (o : Option A) → is_none o ≡ true → o ≡ None
none_is None h = refl
none_is (Some x) h = cc

pub plain_text : (names : Naming) (labels : Labels) (aim : Option ℕ) (address : ℕ) (i : Inst) → IsPlain i → is_numbered names aim i ≡ true
    → instruction_text names aim address i ≡ statement_text labels (Plain i)
plain_text names labels aim address (inst.Load base d z) p h =
    ap (λ o. spelled (codes "ld") ((or_number o z ++ codes "[" ++ text.register base ++ codes "]") ∷ text.register d ∷ []))
    (none_is (data_label names z) h)
plain_text names labels aim address (inst.Store base v z) p h =
    ap (λ o. spelled (codes "st") ((or_number o z ++ codes "[" ++ text.register base ++ codes "]") ∷ text.register v ∷ []))
    (none_is (data_label names z) h)
plain_text names labels aim address (inst.Compute a d b op) p h = refl
plain_text names labels aim address (inst.Addi a d z) p h = ap (λ o. sum_text o a d z) (none_is (made_label names aim a z) h)
plain_text names labels aim address (inst.MoveFrom d Md) p h = refl
plain_text names labels aim address (inst.MoveFrom d Pc1) p h = cc
plain_text names labels aim address (inst.MoveFrom d Pc2) p h = cc
plain_text names labels aim address (inst.MoveFrom d Pc3) p h = cc
plain_text names labels aim address (inst.MoveTo a Md) p h = refl
plain_text names labels aim address (inst.MoveTo a Pc1) p h = cc
plain_text names labels aim address (inst.MoveTo a Pc2) p h = cc
plain_text names labels aim address (inst.MoveTo a Pc3) p h = cc
plain_text names labels aim address (inst.Branch a b c s z) p h = absurd p
plain_text names labels aim address (inst.Jspci a d z) p h = absurd p
plain_text names labels aim address inst.Jpc p h = absurd p
plain_text names labels aim address inst.Jpcrs p h = absurd p
plain_text names labels aim address inst.Halt p h = absurd p

-- a place that has a name
placed_text : (names : Naming) (at : ℕ) (name : List ℕ) → is_name name ≡ true → names.code at ≡ Some name → place_text names at ≡ name
placed_text names at name letters h = rw h (append-nil (name_text name) ∙ own_text name letters)

pub branch_text : (names : Naming) (labels : Labels) (aim : Option ℕ) (address a b i : ℕ) (c : Cond) (by : ℤ) → is_name (place_name labels i) ≡ true
    → (aimed aim names).code (target address by) ≡ Some (place_name labels i)
    → instruction_text names aim address (inst.Branch a b c false by) ≡ statement_text labels (Branch a b c i)
branch_text names labels aim address a b i c by letters h =
    ap (λ m. spelled m (text.register a ∷ text.register b ∷ place_text (aimed aim names) (target address by) ∷ [])) (append-nil (condition_text c))
    ∙ ap (λ t. spelled (condition_text c) (text.register a ∷ text.register b ∷ t ∷ []))
    (placed_text (aimed aim names) (target address by) (place_name labels i) letters h)

-- jumps
abbrev by_place : List ℕ → ℕ → List ℕ
by_place place d = spelled (codes "call") (place ∷ text.register d ∷ [])

to_place : (names : Naming) (a d : ℕ) (z : ℤ) → is_zero z ≡ false → (a == 0) ≡ true → jump_text names a d z ≡ by_place (place_text names (target 0 z)) d
to_place names a d z h k = rw h (rw k refl)

pub call_text : (names : Naming) (labels : Labels) (aim : Option ℕ) (address d i : ℕ) (z : ℤ) → is_zero z ≡ false → is_name (place_name labels i) ≡ true
    → (aimed aim names).code (target 0 z) ≡ Some (place_name labels i)
    → instruction_text names aim address (inst.Jspci 0 d z) ≡ statement_text labels (Call d i)
call_text names labels aim address d i z more letters h =
    to_place (aimed aim names) 0 d z more refl ∙ ap (λ t. by_place t d) (placed_text (aimed aim names) (target 0 z) (place_name labels i) letters h)

to_register : (names : Naming) (a d : ℕ) (z : ℤ) → is_zero z ≡ true → jump_text names a d z ≡ register_jump_text a d
to_register names a d z h = rw h refl

returns_text : (a d : ℕ) → (d == 0) ≡ false → register_jump_text a d ≡ spelled (codes "callr") (text.register a ∷ text.register d ∷ [])
returns_text a d h = rw h refl

leaves_text : (a d : ℕ) → (d == 0) ≡ true → register_jump_text a d ≡ spelled (codes "jr") (text.register a ∷ [])
leaves_text a d h = rw h refl

pub call_register_text : (names : Naming) (labels : Labels) (aim : Option ℕ) (address a d : ℕ) → 0 < d
    → instruction_text names aim address (inst.Jspci a d (pos 0)) ≡ statement_text labels (CallReg a d)
call_register_text names labels aim address a d h = returns_text a d (grind (arith, nat_tests))

-- a call that goes to its aim, or to one of the two words behind it
only_aim : (names : Naming) (at a : ℕ) (b : Bool) → (a == at) ≡ b → (aimed (Some at) names).code a ≡ cond b (names.code a) None
only_aim names at a b h = ap (λ b. cond b (names.code a) None) h

at_aim : (names : Naming) (at a : ℕ) (name : List ℕ) → names.code at ≡ Some name → a ≡ at → (aimed (Some at) names).code a ≡ Some name
at_aim names at a name h e = only_aim names at a true (grind (arith, nat_tests)) ∙ (ap names.code e ∙ h)

off_aim : (names : Naming) (at a : ℕ) → (a ≡ at → ⊥) → (aimed (Some at) names).code a ≡ None
off_aim names at a h = by_test (a == at) refl
  where
    by_test : (b : Bool) → (a == at) ≡ b → (aimed (Some at) names).code a ≡ None
    by_test true t = absurd (h (grind (arith, nat_tests)))
    by_test false t = only_aim names at a false t

abbrev placed_as : Option (List ℕ) → Option (List ℕ) → Option (List ℕ) → ℕ → List ℕ
placed_as x y z a = or_else x [] (or_else y (codes "+1") (or_else z (codes "+2") (codes "0x" ++ digits 16 false a)))

behind_aim : (names : Naming) (at behind : ℕ) (name : List ℕ) → names.code at ≡ Some name → 0 < at → behind < 3
    → place_text (aimed (Some at) names) (at + behind) ≡ name_text name ++ behind_text behind
unfolding digits
behind_aim names at zero name h above few =
    let n = aimed (Some at) names in
    ap (λ x. placed_as x (n.code (at + 0 - 1)) (n.code (at + 0 - 2)) (at + 0)) (at_aim names at (at + 0) name h (omega arith))
behind_aim names at (suc zero) name h above few =
    let n = aimed (Some at) names in
    ap (λ x. placed_as x (n.code (at + 1 - 1)) (n.code (at + 1 - 2)) (at + 1)) (off_aim names at (at + 1) (λ e. omega (arith, e)))
    ∙ ap (λ y. placed_as None y (n.code (at + 1 - 2)) (at + 1)) (at_aim names at (at + 1 - 1) name h (omega arith))
behind_aim names at (suc (suc zero)) name h above few =
    let n = aimed (Some at) names in
    ap (λ x. placed_as x (n.code (at + 2 - 1)) (n.code (at + 2 - 2)) (at + 2)) (off_aim names at (at + 2) (λ e. omega (arith, e)))
    ∙ ap (λ y. placed_as None y (n.code (at + 2 - 2)) (at + 2)) (off_aim names at (at + 2 - 1) (λ e. omega (arith, e)))
    ∙ ap (λ z. placed_as None None z (at + 2)) (at_aim names at (at + 2 - 2) name h (omega arith))
behind_aim names at (suc (suc (suc n))) name h above few = absurd (omega arith)

pub aimed_call : (names : Naming) (address d at behind : ℕ) (name : List ℕ) → names.code at ≡ Some name → 0 < at → at + behind < 2 ^ 32 → behind < 3
    → instruction_text names (Some at) address (inst.Jspci 0 d (pos (at + behind))) ≡ by_place (name_text name ++ behind_text behind) d
aimed_call names address d at behind name h above low few =
    let there : target 0 (pos (at + behind)) ≡ at + behind = omega arith in
    to_place (aimed (Some at) names) 0 d (pos (at + behind)) (grind (arith, nat_tests)) refl
    ∙ ap (λ t. by_place (place_text (aimed (Some at) names) t) d) there
    ∙ ap (λ t. by_place t d) (behind_aim names at behind name h above few)

-- a load and a store by the name of a data word
bind_is : {A B : Type 0} (r : Result A Fault) (f : A → Result B Fault) (x : A) (y : B) → r ≡ Ok x → f x ≡ Ok y → (r >>= f) ≡ Ok y
bind_is r f x y h k = ap (λ r. r >>= f) h ∙ k

module _ (labels : Labels) (name : List ℕ) (n base r : ℕ) (letters : is_name name ≡ true) (found : label_named labels name ≡ Some (label.Data n))
    (hb : IsRegister base) (hr : IsRegister r) where
  abbrev operands : List ℕ
  operands = (name ++ codes "[" ++ text.register base ++ codes "]") ++ 44 ∷ text.register r

  abbrev parts : List Word
  parts = Name name ∷ Open ∷ Name (text.register base) ∷ Close ∷ Comma ∷ Name (text.register r) ∷ []

  last_register : Splits (text.register r) (Name (text.register r) ∷ [])
  last_register = subst (λ t. Splits t (Name (text.register r) ∷ [])) (append-nil (text.register r))
      (splits_name (text.register r) [] [] (register_name r hr) refl splits_end)

  operands_split : Splits operands parts
  operands_split =
      subst (λ t. Splits t parts) (sym flat)
      (splits_name name _ _ letters refl
      (splits_mark 91 kinds.Open Open is_open _ _
      (splits_name (text.register base) _ _ (register_name base hb) refl
      (splits_mark 93 kinds.Close Close is_close _ _ (splits_mark 44 kinds.Comma Comma is_comma _ _ last_register)))))
    where
      flat : operands ≡ name ++ (91 ∷ (text.register base ++ (93 ∷ 44 ∷ text.register r)))
      flat = simp append_assoc

  opened : (mnemonic : List ℕ) → is_name mnemonic ≡ true → Splits (mnemonic ++ codes " " ++ operands) (Name mnemonic ∷ parts)
  opened mnemonic h =
      subst (λ t. Splits t (Name mnemonic ∷ parts)) (sym (append_assoc mnemonic (32 ∷ []) operands))
      (splits_name mnemonic (32 ∷ operands) parts h refl (splits_blank operands parts operands_split))

  address_read : offset labels (Name name) ≡ Ok (pos n)
  unfolding offset data_address_of any_label
  address_read = rw found refl

  load_read : spelled_by labels m.Load parts ≡ Ok (Plain (inst.Load base r (pos n)))
  unfolding spelled_by load
  load_read = bind_is _ _ base _ (register_read base hb) (bind_is _ _ r _ (register_read r hr) (bind_is _ _ (pos n) _ address_read refl))

  store_read : spelled_by labels m.Store parts ≡ Ok (Plain (inst.Store base r (pos n)))
  unfolding spelled_by store
  store_read = bind_is _ _ base _ (register_read base hb) (bind_is _ _ r _ (register_read r hr) (bind_is _ _ (pos n) _ address_read refl))

  load_says : effect_of labels section.Code (Name (codes "ld") ∷ parts) ≡ Ok (Instruction (Plain (inst.Load base r (pos n))))
  unfolding effect_of instruction mnemonic_named mnemonics
  load_says = ap (λ s. s >>= λ statement. Ok (Instruction statement)) load_read

  store_says : effect_of labels section.Code (Name (codes "st") ∷ parts) ≡ Ok (Instruction (Plain (inst.Store base r (pos n))))
  unfolding effect_of instruction mnemonic_named mnemonics
  store_says = ap (λ s. s >>= λ statement. Ok (Instruction statement)) store_read

  pub named_load : ReadsAs labels (codes "ld" ++ codes " " ++ operands) (Plain (inst.Load base r (pos n)))
  named_load = record { words = Name (codes "ld") ∷ parts; split = words_are _ _ (opened (codes "ld") refl); unlabelled = refl; says = load_says }

  pub named_store : ReadsAs labels (codes "st" ++ codes " " ++ operands) (Plain (inst.Store base r (pos n)))
  named_store = record { words = Name (codes "st") ∷ parts; split = words_are _ _ (opened (codes "st") refl); unlabelled = refl; says = store_says }

-- from an address to one near it
displaced : (address at : ℕ) (by : ℤ) → address < 2 ^ 31 → at < 2 ^ 31 → IsSignedField 15 by → at ≡ target address by → displacement address (at + 0) ≡ by
displaced address at (pos m) ha ht small e =
    let to : at + 0 ≡ address + m = omega arith in
    ap (displacement address) to
    ∙ ap (λ t. cond t (pos (address + m - address)) (negsuc (address - (address + m) - 1))) (le-leb address (address + m) (omega arith))
    ∙ ap pos (omega arith)
displaced address at (negsuc m) ha ht small e =
    let far : at + suc m ≡ address = omega arith in
    let below : leb address (at + 0) ≡ false = grind (arith, nat_tests) in
    ap (λ t. cond t (pos (at + 0 - address)) (negsuc (address - (at + 0) - 1))) below
    ∙ ap negsuc (omega arith)

-- the address of a place is the number that makes it
made_is : (at : ℕ) (z : ℤ) → at < 2 ^ 31 → IsSignedField 16 z → at ≡ target 0 z → pos at ≡ z
made_is at (pos m) low small e = ap pos (omega (arith, e))
made_is at (negsuc m) low small e = absurd (omega (arith, e))

zero_is : (z : ℤ) → is_zero z ≡ true → z ≡ pos 0
zero_is (pos n) h = ap pos (grind (arith, nat_tests))
zero_is (negsuc n) h = cc

module _ (names : Naming) (aim : Option ℕ) (labels : Labels) (count : ℕ) (link : ℕ → ℕ) (are : AreLabels count labels)
    (named : AreNames labels count link names) (near : (index : ℕ) → link index < 2 ^ 31) where
  placed : (i : ℕ) → IsPlace labels count i → Placed labels i
  placed = are_placed labels count are.names (are_apart labels are.apart)

  from_says : (line : List ℕ) (s : Statement) → Says labels section.Code line (Instruction s) → ReadsAs labels line s
  from_says line s says = record {
    words = says.words;
    split = words_are line says.words says.splits;
    unlabelled = says.front;
    says = says.effect labels (λ name. refl);
  }

  plain_reads : (i : Inst) → IsPlain i → InstFits i → HasRegisters i → ReadsAs labels (statement_text labels (Plain i)) (Plain i)
  plain_reads i p f r = from_says _ _ (statement_says labels count placed (Plain i) (p, f) r)

  numbered_reads : (address : ℕ) (i : Inst) → IsPlain i → InstFits i → HasRegisters i → is_numbered names aim i ≡ true
      → ReadsAs labels (instruction_text names aim address i) (Plain i)
  numbered_reads address i p f r h = subst (λ t. ReadsAs labels t (Plain i)) (sym (plain_text names labels aim address i p h)) (plain_reads i p f r)

  load_reads : (address base d : ℕ) (z : ℤ) (o : Option (List ℕ)) → data_label names z ≡ o → IsSignedField 16 z → IsRegister base → IsRegister d
      → ReadsAs labels (instruction_text names aim address (inst.Load base d z)) (Plain (inst.Load base d z))
  load_reads address base d z None e f hb hd = numbered_reads address (inst.Load base d z) tt f (hb, hd) (ap is_none e)
  load_reads address base d (pos n) (Some name) e f hb hd =
      let k = named.user_data n name e in
      subst (λ t. ReadsAs labels (spelled (codes "ld") ((t ++ codes "[" ++ text.register base ++ codes "]") ∷ text.register d ∷ []))
      (Plain (inst.Load base d (pos n))))
      (sym (ap (λ o. or_number o (pos n)) e ∙ own_text name k.letters.spelled)) (named_load labels name n base d k.letters.spelled k.found hb hd)
  load_reads address base d (negsuc n) (Some name) e f hb hd = cc

  store_reads : (address base v : ℕ) (z : ℤ) (o : Option (List ℕ)) → data_label names z ≡ o → IsSignedField 16 z → IsRegister base → IsRegister v
      → ReadsAs labels (instruction_text names aim address (inst.Store base v z)) (Plain (inst.Store base v z))
  store_reads address base v z None e f hb hv = numbered_reads address (inst.Store base v z) tt f (hb, hv) (ap is_none e)
  store_reads address base v (pos n) (Some name) e f hb hv =
      let k = named.user_data n name e in
      subst (λ t. ReadsAs labels (spelled (codes "st") ((t ++ codes "[" ++ text.register base ++ codes "]") ∷ text.register v ∷ []))
      (Plain (inst.Store base v (pos n))))
      (sym (ap (λ o. or_number o (pos n)) e ∙ own_text name k.letters.spelled)) (named_store labels name n base v k.letters.spelled k.found hb hv)
  store_reads address base v (negsuc n) (Some name) e f hb hv = cc

  -- the address of a place in a register
  made_by : (a at : ℕ) (z : ℤ) (name : List ℕ) (b c : Bool) → (a == 0) ≡ b → (at == target 0 z) ≡ c → cond (b && c) (names.code at) None ≡ Some name
      → (a ≡ 0) × NamesCode labels count link (target 0 z) name
  made_by a at z name true true is_a is_at e =
      let same : at ≡ target 0 z = grind (arith, nat_tests) in
      (grind (arith, nat_tests), subst (λ t. NamesCode labels count link t name) same (named.code at name e))
  made_by a at z name true false is_a is_at e = cc
  made_by a at z name false c is_a is_at e = cc

  made_named : (a : ℕ) (z : ℤ) (name : List ℕ) (o : Option ℕ) → made_label names o a z ≡ Some name
      → (a ≡ 0) × NamesCode labels count link (target 0 z) name
  made_named a z name None e = cc
  made_named a z name (Some at) e = made_by a at z name (a == 0) (at == target 0 z) refl refl e

  sum_again : (address word a d : ℕ) (z : ℤ) (o : Option (List ℕ)) → made_label names aim a z ≡ o → Codes (inst.Addi a d z) word
      → AssemblesTo labels link address (instruction_text names aim address (inst.Addi a d z)) word
  sum_again address word a d z None e row = record {
    statement = Plain (inst.Addi a d z);
    read = numbered_reads address (inst.Addi a d z) tt row.fits row.registers (ap is_none e);
    word_is = sym row.word_is;
  }
  sum_again address word a d z (Some name) e row =
      let made = made_named a z name aim e in
      let k = made.1 in
      let p = placed k.index k.place in
      let there : pos (link k.index) ≡ z = made_is (link k.index) z (near k.index) row.fits k.begins in
      let own : place_name labels k.index ≡ name_text name = sym (own_text (place_name labels k.index) p.name.spelled) ∙ ap name_text (sym k.first) in
      record {
        statement = LaCode d k.index;
        read = subst (λ t. ReadsAs labels t (LaCode d k.index))
            (sym (ap (λ o. sum_text o a d z) e ∙ ap (λ t. spelled (codes "la") (t ∷ text.register d ∷ [])) (sym own)))
            (from_says _ _ (statement_says labels count placed (LaCode d k.index) k.place row.registers.1));
        word_is = ap (λ z. word_of_row (inst.Addi 0 d z)) there ∙ ap (λ a. word_of_row (inst.Addi a d z)) (sym made.0) ∙ sym row.word_is;
      }

  -- a branch to a label
  branch_again : (address word a b : ℕ) (c : Cond) (by : ℤ) (o : Option (List ℕ)) → (aimed aim names).code (target address by) ≡ o → is_some o ≡ true
      → Codes (inst.Branch a b c false by) word → address < 2 ^ 31
      → AssemblesTo labels link address (instruction_text names aim address (inst.Branch a b c false by)) word
  branch_again address word a b c by None e some row low = cc
  branch_again address word a b c by (Some name) e some row low =
      let k = (aimed_names labels count link names aim named).code (target address by) name e in
      let p = placed k.index k.place in
      let there : (aimed aim names).code (target address by) ≡ Some (place_name labels k.index) = e ∙ ap Some k.first in
      let back : displacement address (link k.index + 0) ≡ by = displaced address (link k.index) by low (near k.index) row.fits k.begins in record {
        statement = Branch a b c k.index;
        read = subst (λ t. ReadsAs labels t (Branch a b c k.index))
            (sym (branch_text names labels aim address a b k.index c by p.name.spelled there))
            (from_says _ _ (statement_says labels count placed (Branch a b c k.index) k.place row.registers));
        word_is = ap (λ z. word_of_row (inst.Branch a b c false z)) back ∙ sym row.word_is;
      }

  -- a jump by a register, and a jump to a label
  abbrev has_place : Bool → Bool → Option (List ℕ) → Bool
  has_place still free o = still || (free && is_some o)

  jump_again : (address word a d : ℕ) (z : ℤ) (still none free : Bool) (o : Option (List ℕ)) → is_zero z ≡ still → (d == 0) ≡ none → (a == 0) ≡ free
      → (aimed aim names).code (target 0 z) ≡ o → Codes (inst.Jspci a d z) word
      → has_place (is_zero z) (a == 0) ((aimed aim names).code (target 0 z)) ≡ true
      → AssemblesTo labels link address (instruction_text names aim address (inst.Jspci a d z)) word
  jump_again address word a d z true true free o e f g h row line =
      let nowhere : d ≡ 0 = grind (arith, nat_tests) in record {
        statement = JumpReg a;
        read = subst (λ t. ReadsAs labels t (JumpReg a)) (sym (to_register (aimed aim names) a d z e ∙ leaves_text a d f))
            (from_says _ _ (statement_says labels count placed (JumpReg a) tt row.registers.0));
        word_is = ap (λ d. word_of_row (inst.Jspci a d (pos 0))) (sym nowhere) ∙ ap (λ z. word_of_row (inst.Jspci a d z)) (sym (zero_is z e))
            ∙ sym row.word_is;
      }
  jump_again address word a d z true false free o e f g h row line = record {
    statement = CallReg a d;
    read = subst (λ t. ReadsAs labels t (CallReg a d)) (sym (to_register (aimed aim names) a d z e ∙ returns_text a d f))
        (from_says _ _ (statement_says labels count placed (CallReg a d) tt row.registers));
    word_is = ap (λ z. word_of_row (inst.Jspci a d z)) (sym (zero_is z e)) ∙ sym row.word_is;
  }
  jump_again address word a d z false none true (Some name) e f g h row line =
      let k = (aimed_names labels count link names aim named).code (target 0 z) name h in
      let p = placed k.index k.place in
      let bare : a ≡ 0 = grind (arith, nat_tests) in
      let there : pos (link k.index) ≡ z = made_is (link k.index) z (near k.index) row.fits k.begins in
      let own : place_text (aimed aim names) (target 0 z) ≡ place_name labels k.index =
      placed_text (aimed aim names) (target 0 z) (place_name labels k.index) p.name.spelled (h ∙ ap Some k.first) in
      let same : pos (link k.index + 0) ≡ pos (link k.index) = ap pos (omega arith) in record {
        statement = Call d k.index;
        read = subst (λ t. ReadsAs labels t (Call d k.index)) (sym (to_place (aimed aim names) a d z e g ∙ ap (λ t. by_place t d) own))
            (from_says _ _ (statement_says labels count placed (Call d k.index) k.place row.registers.1));
        word_is = ap (λ z. word_of_row (inst.Jspci 0 d z)) (same ∙ there) ∙ ap (λ a. word_of_row (inst.Jspci a d z)) (sym bare) ∙ sym row.word_is;
      }
  jump_again address word a d z false none true None e f g h row line =
      let not : has_place (is_zero z) (a == 0) ((aimed aim names).code (target 0 z)) ≡ false =
      ap (λ b. has_place b (a == 0) ((aimed aim names).code (target 0 z))) e ∙ ap (λ b. has_place false b ((aimed aim names).code (target 0 z))) g
      ∙ ap (has_place false true) h in
      cc
  jump_again address word a d z false none false o e f g h row line =
      let not : has_place (is_zero z) (a == 0) ((aimed aim names).code (target 0 z)) ≡ false =
      ap (λ b. has_place b (a == 0) ((aimed aim names).code (target 0 z))) e ∙ ap (λ b. has_place false b ((aimed aim names).code (target 0 z))) g in
      cc

  again : (address word : ℕ) (i : Inst) → Codes i word → address < 2 ^ 31 → HasLine (aimed aim names) address i
      → AssemblesTo labels link address (instruction_text names aim address i) word
  again address word (inst.Load base d z) row low h = record {
    statement = Plain (inst.Load base d z);
    read = load_reads address base d z (data_label names z) refl row.fits row.registers.0 row.registers.1;
    word_is = sym row.word_is;
  }
  again address word (inst.Store base v z) row low h = record {
    statement = Plain (inst.Store base v z);
    read = store_reads address base v z (data_label names z) refl row.fits row.registers.0 row.registers.1;
    word_is = sym row.word_is;
  }
  again address word (inst.Compute a d b op) row low h = record {
    statement = Plain (inst.Compute a d b op);
    read = plain_reads (inst.Compute a d b op) tt row.fits (row.registers.0, row.registers.2, row.registers.1);
    word_is = sym row.word_is;
  }
  again address word (inst.Addi a d z) row low h = sum_again address word a d z (made_label names aim a z) refl row
  again address word (inst.MoveFrom d s) row low h = record {
    statement = Plain (inst.MoveFrom d s);
    read = numbered_reads address (inst.MoveFrom d s) h tt row.registers refl;
    word_is = sym row.word_is;
  }
  again address word (inst.MoveTo a s) row low h = record {
    statement = Plain (inst.MoveTo a s);
    read = numbered_reads address (inst.MoveTo a s) h tt row.registers refl;
    word_is = sym row.word_is;
  }
  again address word (inst.Branch a b c true by) row low h = cc
  again address word (inst.Branch a b c false by) row low h = branch_again address word a b c by ((aimed aim names).code (target address by)) refl h.1 row low
  again address word (inst.Jspci a d z) row low h =
      jump_again address word a d z (is_zero z) (d == 0) (a == 0) ((aimed aim names).code (target 0 z)) refl refl refl refl row h
  again address word inst.Jpc row low h = absurd h
  again address word inst.Jpcrs row low h = absurd h
  again address word inst.Halt row low h = record {
    statement = Halt;
    read = from_says _ _ (statement_says labels count placed Halt tt tt);
    word_is = sym row.word_is;
  }

pub assembles_again : (labels : Labels) (count words data_words : ℕ) (link : ℕ → ℕ) (address word : ℕ) (i : Inst) (aim : Option ℕ)
    → AreLabels count labels → ((index : ℕ) → link index < 2 ^ 31) → address < 2 ^ 31 → inst_of word ≡ Some i
    → HasLine (aimed aim (names_of labels link words data_words)) address i
    → AssemblesTo labels link address (instruction_text (names_of labels link words data_words) aim address i) word
assembles_again labels count words data_words link address word i aim are near low spelled line =
    again (names_of labels link words data_words) aim labels count link are (are_names labels count link are words data_words) near
    address word i ((coded i word).1 spelled) low line
