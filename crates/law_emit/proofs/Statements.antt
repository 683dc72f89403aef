-- The text of a statement reads as the statement.
use Rattle.std.proofs.Common.{◌≡◌, ℕ, ◌≤◌, Bool, true, false, cond, leb, List, [], ◌∷◌, ◌++◌, Some, None, Result, Ok, Err, refl, sym, ap, ◌∙◌, arith, append_assoc, inr, Bor, pos, negsuc, suc, ℤ}
use Rattle.std.specs.Prelude.{codes}
use Rattle.std.specs.Int.{w32, cast_signed}
use Rattle.std.proofs.lemmas.Bool.{le-leb, leb-true}
use Rattle.mx_isa.specs.Fields.{IsSignedField}
use Rattle.mx_isa.specs.Registers.{IsRegister}
use Rattle.mx_isa.specs.declared.inst.Op.{Op}
use Rattle.mx_isa.specs.declared.inst.Op.TheVariants as op
use Rattle.mx_isa.specs.declared.inst.Cond.{Cond}
use Rattle.mx_isa.specs.declared.inst.Cond.TheVariants.{Eq, Ne, Lt, Ge, Lo, Hs}
use Rattle.mx_isa.specs.declared.inst.Inst.TheVariants as inst
use Rattle.mx_source.specs.declared.statement.Statement.{Statement}
use Rattle.mx_source.specs.declared.statement.Statement.TheVariants as statement
use Rattle.mx_lines.specs.declared.fault.Fault.{Fault}
use Rattle.mx_lines.specs.declared.fault.Fault.TheVariants.{NumberOutOfRange}
use Rattle.mx_lines.specs.declared.mnemonic.Mnemonic.{Mnemonic}
use Rattle.mx_lines.specs.declared.mnemonic.Mnemonic.TheVariants as m
use Rattle.mx_lines.specs.Words.{Word, Name, Colon}
use Rattle.mx_lex.specs.Lines.{lines_of}
use Rattle.mx_lex.specs.declared.token.Kind.TheVariants as kinds
use Rattle.mx_lines.specs.Reading.{◌>>=◌}
use Rattle.mx_lines.specs.Operands.{immediate, count, code_label, data_label, offset}
use Rattle.mx_lines.specs.Mnemonics.{mnemonics, mnemonic_named}
use Rattle.mx_lines.specs.Instructions.{Labels, instruction, with_mnemonic, spelled_by, compute, of_one, asr, sh, addi, load, store, branch, swapped_branch, goto, call, call_register, jump, halt}
use Rattle.mx_asm.specs.declared.position.Section.TheVariants as section
use Rattle.mx_asm.specs.Directives.{effect_of, directed, directive_named, is_dotted, in_code}
use Rattle.mx_asm.specs.Positions.{front_names, statement_words, line_words, words_or_none, behind}
use Rattle.mx_asm.specs.Printable.{is_name}
use Rattle.mx_asm.proofs.Spelled.{Splits, splits_end, splits_name, splits_mark, is_colon, words_are, is_negative, size, and_both}
use Rattle.mx_asm.proofs.Spellings.{register_read}
use Rattle.cc_lines.specs.declared.instruction.Condition.{Condition}
use Rattle.cc_lines.specs.declared.instruction.Condition.TheVariants.{Equal, NotEqual, Less, NotLess, Greater, NotGreater, Lower, NotLower, Higher, NotHigher}
use Rattle.cc_program.specs.declared.symbols.Symbol.{Symbol}
use Rattle.cc_program.specs.declared.program.Program.{Program}
use Rattle.cc_emit.specs.declared.line.Computed.TheVariants.{Add, Sub, And, Or, Xor, Bic, Rotlb}
use Rattle.cc_emit.specs.declared.line.Plain.{Plain}
use Rattle.cc_emit.specs.declared.line.Plain.TheVariants.{Compute, Move, Not, Addi, Asr, Sh, Load, Store}
use Rattle.cc_emit.specs.declared.line.Word.{Word as Held}
use Rattle.cc_emit.specs.declared.line.Word.TheVariants.{Number}
use Rattle.cc_emit.specs.declared.line.Target.{Target}
use Rattle.cc_emit.specs.declared.line.Transfer.{Transfer}
use Rattle.cc_emit.specs.declared.line.Transfer.TheVariants.{Branch, Jump, Call, CallReg, JumpReg, Halt}
use Rattle.cc_emit.specs.declared.line.Line.{Line}
use Rattle.cc_emit.specs.declared.line.Line.TheVariants.{Plain as PlainLine, Transfer as TransferLine, Constant, Take, Mark, Told, Written}
use Rattle.law_emit.proofs.Operands.{Operand}
use Rattle.law_emit.proofs.Operands.{Register, Immediate, Count, Memory, Held as HeldOperand, Place, spelled}
use Rattle.cc_emit.specs.Statements.{target_label, word_label, condition_text}
use Rattle.cc_emit.specs.Lines.{file_name, is_short, plain_text, transfer_text, constant_text}
use Rattle.law_emit.specs.Statements as own
use Rattle.law_emit.specs.Reading.{ReadsAs, LineReads, LineFits, PlainFits, TransferFits, WrittenFits, line_names, line_statement, statement_count, code_at}
use Rattle.law_emit.proofs.Alone.{alone, from_clean}
use Rattle.law_emit.proofs.Comments.{told_reads}
use Rattle.law_emit.proofs.Names.{word_named, target_named}
use Rattle.law_emit.proofs.Places.{behind_code, no_words, one_count, code_effect}
use Rattle.law_emit.proofs.Splitting.{OperandFits, OperandsFit, operand_words, more_words, statement_line, statement_of, line_splits, words_of_line, no_names, all_words, stays_code, halt_words}

-- what is read of a value goes on by the value
bind_is : {A B : Type 0} (r : Result A Fault) (f : A → Result B Fault) (x : A) (y : Result B Fault) → r ≡ Ok x → f x ≡ y → (r >>= f) ≡ y
bind_is r f x y h k = ap (λ r. r >>= f) h ∙ k

immediate_read : (z : ℤ) → IsSignedField 16 z → immediate (is_negative z) (size z) ≡ Ok z
unfolding immediate
immediate_read (pos v) h = ap (λ t. cond t (Ok (pos v)) (Err NumberOutOfRange)) (le-leb v 65535 (omega arith))
immediate_read (negsuc v) h = ap (λ t. cond t (Ok (negsuc v)) (Err NumberOutOfRange)) (le-leb (suc v) 65536 (omega arith))

count_read : (n : ℕ) → n ≤ 31 → count false n ≡ Ok n
unfolding count
count_read n h = ap (λ t. cond t (Ok n) (Err NumberOutOfRange)) (le-leb n 31 h)

-- the effect of an instruction
effect_is : (K : Labels) (name : List ℕ) (mnemonic : Mnemonic) (words : List Word) (r : Result Statement Fault) → is_dotted name ≡ false
    → mnemonic_named name ≡ Some mnemonic → spelled_by K mnemonic words ≡ r
    → effect_of K section.Code (Name name ∷ words) ≡ (r >>= λ s. in_code section.Code s)
unfolding effect_of instruction
effect_is K name mnemonic words r undotted named h =
    ap (λ t. cond t (directed K section.Code (directive_named name) words) (instruction K name words >>= λ s. in_code section.Code s)) undotted
    ∙ ap (λ o. with_mnemonic K o words >>= λ s. in_code section.Code s) named
    ∙ ap (λ r. r >>= λ s. in_code section.Code s) h

-- the label of a place, or of a word that the translation adds, is a name of the language
abbrev IsNamed : List Symbol → Target → Type 0
IsNamed symbols to = is_name (target_label symbols to) ≡ true

abbrev IsWordNamed : Held → Type 0
IsWordNamed word = is_name (word_label word) ≡ true

-- a text is read as a statement
abbrev pub Says : Labels → List ℕ → Result Statement Fault → Type 0
Says K text r = ReadsAs K text [] 1 (Some r)

module _ (K : Labels) (symbols : List Symbol) where
  reads : (name : List ℕ) (mnemonic : Mnemonic) (first : Operand) (rest : List Operand) (r : Result Statement Fault) → is_name name ≡ true
      → is_dotted name ≡ false → mnemonic_named name ≡ Some mnemonic → OperandFits symbols first → OperandsFit symbols rest
      → spelled_by K mnemonic (operand_words symbols first ++ more_words symbols rest) ≡ r → Says K (spelled symbols name first rest) r
  reads name mnemonic first rest r letters undotted named fits more h =
      let words = words_of_line symbols name first rest letters fits more in
      record {
        line = statement_line symbols name first rest;
        alone = alone (statement_line symbols name first rest)
            (from_clean (statement_line symbols name first rest) (line_splits symbols name first rest letters fits more).clean);
        labelled = ap front_names words ∙ no_names symbols name first (more_words symbols rest);
        effect =
            ap (λ ws. effect_of K section.Code (statement_words ws)) words
            ∙ ap (effect_of K section.Code) (all_words symbols name first (more_words symbols rest))
            ∙ effect_is K name mnemonic (operand_words symbols first ++ more_words symbols rest) r undotted named h;
        next = λ index address near.
            ap (λ ws. behind (code_at index address) (statement_words ws)) words
            ∙ ap (behind (code_at index address)) (all_words symbols name first (more_words symbols rest))
            ∙ behind_code index address 1 (statement_of symbols name first rest) (stays_code symbols name first (more_words symbols rest))
            (one_count name (operand_words symbols first ++ more_words symbols rest) undotted)
            (no_words (statement_of symbols name first rest) undotted) near;
      }

  three_reads : (name : List ℕ) (o : Op) (a b d : ℕ) → is_name name ≡ true → is_dotted name ≡ false → mnemonic_named name ≡ Some (m.Compute o)
      → IsRegister a → IsRegister b → IsRegister d
      → Says K (spelled symbols name (Register a) (Register b ∷ Register d ∷ [])) (Ok (statement.Plain (inst.Compute a d b o)))
  unfolding spelled_by compute
  three_reads name o a b d letters undotted named ha hb hd =
      reads name (m.Compute o) (Register a) (Register b ∷ Register d ∷ []) _ letters undotted named ha (hb, (hd, tt))
      (bind_is _ _ a _ (register_read a ha) (bind_is _ _ b _ (register_read b hb) (bind_is _ _ d _ (register_read d hd) refl)))

  plain_reads : (plain : Plain) → PlainFits plain → Says K (plain_text symbols plain) (Ok (statement.Plain (own.instruction plain)))
  unfolding spelled_by of_one asr sh addi load store offset mnemonic_named mnemonics
  plain_reads (Compute Add a b d) h = three_reads (codes "add") op.Add a b d refl refl refl h.0 h.1 h.2
  plain_reads (Compute Sub a b d) h = three_reads (codes "sub") op.Sub a b d refl refl refl h.0 h.1 h.2
  plain_reads (Compute And a b d) h = three_reads (codes "and") op.And a b d refl refl refl h.0 h.1 h.2
  plain_reads (Compute Or a b d) h = three_reads (codes "or") op.Or a b d refl refl refl h.0 h.1 h.2
  plain_reads (Compute Xor a b d) h = three_reads (codes "xor") op.Xor a b d refl refl refl h.0 h.1 h.2
  plain_reads (Compute Bic a b d) h = three_reads (codes "bic") op.Bic a b d refl refl refl h.0 h.1 h.2
  plain_reads (Compute Rotlb a b d) h = three_reads (codes "rotlb") op.Rotlb a b d refl refl refl h.0 h.1 h.2
  plain_reads (Move a d) h =
      reads (codes "mov") m.Mov (Register a) (Register d ∷ []) _ refl refl refl h.0 (h.1, tt)
      (bind_is _ _ a _ (register_read a h.0) (bind_is _ _ d _ (register_read d h.1) refl))
  plain_reads (Not a d) h =
      reads (codes "not") m.Not (Register a) (Register d ∷ []) _ refl refl refl h.0 (h.1, tt)
      (bind_is _ _ a _ (register_read a h.0) (bind_is _ _ d _ (register_read d h.1) refl))
  plain_reads (Addi a z d) h =
      reads (codes "addi") m.Addi (Register a) (Immediate z ∷ Register d ∷ []) _ refl refl refl h.0 (h.1, (h.2, tt))
      (bind_is _ _ a _ (register_read a h.0) (bind_is _ _ d _ (register_read d h.2) (bind_is _ _ z _ (immediate_read z h.1) refl)))
  plain_reads (Asr a n d) h =
      reads (codes "asr") m.Asr (Register a) (Count n ∷ Register d ∷ []) _ refl refl refl h.0 (h.1, (h.2, tt))
      (bind_is _ _ a _ (register_read a h.0) (bind_is _ _ d _ (register_read d h.2) (bind_is _ _ n _ (count_read n h.1) refl)))
  plain_reads (Sh a b n d) h =
      reads (codes "sh") m.Sh (Register a) (Register b ∷ Count n ∷ Register d ∷ []) _ refl refl refl h.0 (h.1, (h.2, (h.3, tt)))
      (bind_is _ _ a _ (register_read a h.0)
      (bind_is _ _ b _ (register_read b h.1) (bind_is _ _ d _ (register_read d h.3) (bind_is _ _ n _ (count_read n h.2) refl))))
  plain_reads (Load z base d) h =
      reads (codes "ld") m.Load (Memory z base) (Register d ∷ []) _ refl refl refl (h.0, h.1) (h.2, tt)
      (bind_is _ _ base _ (register_read base h.1) (bind_is _ _ d _ (register_read d h.2) (bind_is _ _ z _ (immediate_read z h.0) refl)))
  plain_reads (Store z base v) h =
      reads (codes "st") m.Store (Memory z base) (Register v ∷ []) _ refl refl refl (h.0, h.1) (h.2, tt)
      (bind_is _ _ base _ (register_read base h.1) (bind_is _ _ v _ (register_read v h.2) (bind_is _ _ z _ (immediate_read z h.0) refl)))

  -- a word that the translation adds
  then_load : (r : Result ℕ Fault) (base d : ℕ) → ((r >>= λ a. Ok (pos a)) >>= λ o. Ok (statement.Plain (inst.Load base d o)))
      ≡ (r >>= λ a. Ok (statement.Plain (inst.Load base d (pos a))))
  then_load (Ok a) base d = refl
  then_load (Err fault) base d = refl

  take_reads : (word : Held) (base d : ℕ) → IsWordNamed word → IsRegister base → IsRegister d
      → Says K (spelled symbols (codes "ld") (HeldOperand word base) (Register d ∷ [])) (own.take_statement K word base d)
  unfolding spelled_by load offset mnemonic_named mnemonics
  take_reads word base d named hb hd =
      reads (codes "ld") m.Load (HeldOperand word base) (Register d ∷ []) _ refl refl refl (named, hb) (hd, tt)
      (bind_is _ _ base _ (register_read base hb) (bind_is _ _ d _ (register_read d hd) (then_load (data_label K (word_label word)) base d)))

  short_fits : (z : ℤ) → is_short z ≡ true → IsSignedField 16 z
  short_fits (pos v) h = let l = leb-true v 65535 (and_both true (leb v 65535) h).1 in omega arith
  short_fits (negsuc v) h = let l = leb-true v 65535 (and_both (leb v 65535) true h).0 in omega arith

  constant_reads : (value d : ℕ) → IsWordNamed (Number value) → IsRegister d
      → Says K (constant_text symbols value d) (own.constant_statement K value d)
  constant_reads value d named hd = by_size (is_short (cast_signed w32 value)) refl
    where
      by_size : (t : Bool) → is_short (cast_signed w32 value) ≡ t
          → Says K (cond t (spelled symbols (codes "addi") (Register 0) (Immediate (cast_signed w32 value) ∷ Register d ∷ []))
          (spelled symbols (codes "ld") (HeldOperand (Number value) 0) (Register d ∷ [])))
          (cond t (Ok (statement.Plain (inst.Addi 0 d (cast_signed w32 value)))) (own.take_statement K (Number value) 0 d))
      by_size true h = plain_reads (Addi 0 (cast_signed w32 value) d) (omega arith, short_fits (cast_signed w32 value) h, hd)
      by_size false h = take_reads (Number value) 0 d named (omega arith) hd

  -- branches, jumps and calls
  branch_reads : (name : List ℕ) (c : Cond) (a b : ℕ) (to : Target) → is_name name ≡ true → is_dotted name ≡ false → mnemonic_named name ≡ Some (m.Branch c)
      → IsRegister a → IsRegister b → IsNamed symbols to
      → Says K (spelled symbols name (Register a) (Register b ∷ Place to ∷ []))
      (code_label K (target_label symbols to) >>= λ i. Ok (statement.Branch a b c i))
  unfolding spelled_by branch
  branch_reads name c a b to letters undotted named ha hb ht =
      reads name (m.Branch c) (Register a) (Register b ∷ Place to ∷ []) _ letters undotted named ha (hb, (ht, tt))
      (bind_is _ _ a _ (register_read a ha) (bind_is _ _ b _ (register_read b hb) refl))

  swapped_reads : (name : List ℕ) (c : Cond) (a b : ℕ) (to : Target) → is_name name ≡ true → is_dotted name ≡ false
      → mnemonic_named name ≡ Some (m.SwappedBranch c) → IsRegister a → IsRegister b → IsNamed symbols to
      → Says K (spelled symbols name (Register a) (Register b ∷ Place to ∷ []))
      (code_label K (target_label symbols to) >>= λ i. Ok (statement.Branch b a c i))
  unfolding spelled_by swapped_branch
  swapped_reads name c a b to letters undotted named ha hb ht =
      reads name (m.SwappedBranch c) (Register a) (Register b ∷ Place to ∷ []) _ letters undotted named ha (hb, (ht, tt))
      (bind_is _ _ a _ (register_read a ha) (bind_is _ _ b _ (register_read b hb) refl))

  condition_reads : (c : Condition) (a b : ℕ) (to : Target) → IsRegister a → IsRegister b → IsNamed symbols to
      → Says K (spelled symbols (condition_text c) (Register a) (Register b ∷ Place to ∷ []))
      (code_label K (target_label symbols to) >>= λ i. Ok (own.branch c a b i))
  unfolding mnemonic_named mnemonics
  condition_reads Equal a b to ha hb ht = branch_reads (codes "beq") Eq a b to refl refl refl ha hb ht
  condition_reads NotEqual a b to ha hb ht = branch_reads (codes "bne") Ne a b to refl refl refl ha hb ht
  condition_reads Less a b to ha hb ht = branch_reads (codes "blt") Lt a b to refl refl refl ha hb ht
  condition_reads NotLess a b to ha hb ht = branch_reads (codes "bge") Ge a b to refl refl refl ha hb ht
  condition_reads Greater a b to ha hb ht = swapped_reads (codes "bgt") Lt a b to refl refl refl ha hb ht
  condition_reads NotGreater a b to ha hb ht = swapped_reads (codes "ble") Ge a b to refl refl refl ha hb ht
  condition_reads Lower a b to ha hb ht = branch_reads (codes "blo") Lo a b to refl refl refl ha hb ht
  condition_reads NotLower a b to ha hb ht = branch_reads (codes "bhs") Hs a b to refl refl refl ha hb ht
  condition_reads Higher a b to ha hb ht = swapped_reads (codes "bhi") Lo a b to refl refl refl ha hb ht
  condition_reads NotHigher a b to ha hb ht = swapped_reads (codes "blos") Hs a b to refl refl refl ha hb ht

  halt_reads : Says K (codes "        halt\n") (Ok statement.Halt)
  unfolding spelled_by halt mnemonic_named mnemonics directive_named
  halt_reads = record {
    line = codes "        halt";
    alone = alone (codes "        halt") refl;
    labelled = ap front_names (halt_words symbols);
    effect = ap (λ ws. effect_of K section.Code (statement_words ws)) (halt_words symbols)
        ∙ effect_is K (codes "halt") m.Halt [] (Ok statement.Halt) refl refl refl;
    next = λ index address near. ap (λ ws. behind (code_at index address) (statement_words ws)) (halt_words symbols)
        ∙ behind_code index address 1 (Name (codes "halt") ∷ []) refl refl refl near;
  }

  transfer_reads : (transfer : Transfer) → TransferFits symbols transfer → Says K (transfer_text symbols transfer) (own.transfer_statement K symbols transfer)
  unfolding spelled_by goto call call_register jump mnemonic_named mnemonics
  transfer_reads (Branch condition a b to) h = condition_reads condition a b to h.0 h.1 (target_named symbols to h.2)
  transfer_reads (Jump to) h = reads (codes "b") m.Goto (Place to) [] _ refl refl refl (target_named symbols to h) tt refl
  transfer_reads (Call to link) h =
      reads (codes "call") m.Call (Place to) (Register link ∷ []) _ refl refl refl (target_named symbols to h.0) (h.1, tt)
      (bind_is _ _ link _ (register_read link h.1) refl)
  transfer_reads (CallReg rs link) h =
      reads (codes "callr") m.CallReg (Register rs) (Register link ∷ []) _ refl refl refl h.0 (h.1, tt)
      (bind_is _ _ rs _ (register_read rs h.0) (bind_is _ _ link _ (register_read link h.1) refl))
  transfer_reads (JumpReg rs) h =
      reads (codes "jr") m.JumpReg (Register rs) [] _ refl refl refl h tt (bind_is _ _ rs _ (register_read rs h) refl)
  transfer_reads Halt h = halt_reads

-- a label is in front of nothing
mark_reads : (K : Labels) (name : List ℕ) → is_name name ≡ true → ReadsAs K (name ++ codes ":\n") (name ∷ []) 0 None
unfolding effect_of
mark_reads K name letters = record {
  line = name ++ codes ":";
  alone = λ rest. ap (λ t. lines_of (t ++ rest)) (sym (append_assoc name (codes ":") (codes "\n")))
      ∙ alone (name ++ codes ":") (from_clean (name ++ codes ":") splits.clean) rest;
  labelled = ap front_names words;
  effect = ap (λ ws. effect_of K section.Code (statement_words ws)) words;
  next = λ index address near. ap (λ ws. behind (code_at index address) (statement_words ws)) words ∙ behind_code index address 0 [] refl refl refl near;
}
  where
    splits : Splits (name ++ codes ":") (Name name ∷ Colon ∷ [])
    splits = splits_name name (58 ∷ []) (Colon ∷ []) letters refl (splits_mark 58 kinds.Colon Colon is_colon [] [] splits_end)

    words : line_words (name ++ codes ":") ≡ Name name ∷ Colon ∷ []
    words = ap words_or_none (words_are (name ++ codes ":") (Name name ∷ Colon ∷ []) splits)

written_reads : (K : Labels) (p : Program) (text : Bor (List ℕ)) → WrittenFits text.now
    → ReadsAs K (text.now ++ codes "\n") (line_names p (Written text)) (statement_count (Written text)) (line_statement K p (Written text))
written_reads K p text h = record {
  line = text.now;
  alone = alone text.now h.one;
  labelled = refl;
  effect = code_effect K (statement_words (line_words text.now)) h.code;
  next = λ index address near. behind_code index address (statement_count (Written text)) (statement_words (line_words text.now)) h.stays h.counts
      (no_words (statement_words (line_words text.now)) h.code) near;
}

pub line_reads : (p : Program) (line : Line) → LineFits p line → (K : Labels) → LineReads K p line
line_reads p (PlainLine plain) h K = inr (plain_reads K p.symbols.list.items plain h)
line_reads p (Constant value rd) h K = inr (constant_reads K p.symbols.list.items value rd (word_named (Number value) h.0) h.1)
line_reads p (Take word base rd) h K = inr (take_reads K p.symbols.list.items word base rd (word_named word h.0) h.1 h.2)
line_reads p (TransferLine transfer) h K = inr (transfer_reads K p.symbols.list.items transfer h)
line_reads p (Mark target) h K = inr (mark_reads K (target_label p.symbols.list.items target) (target_named p.symbols.list.items target h))
line_reads p (Told unit file line) h K = told_reads K (file_name p unit file) line h.0 h.1
line_reads p (Written text) h K = inr (written_reads K p text h)
