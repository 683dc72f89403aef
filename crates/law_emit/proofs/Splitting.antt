-- The text of a statement splits into its mnemonic and its operands.
use Rattle.std.proofs.Common.{◌≡◌, ℕ, ◌≤◌, true, false, List, [], ◌∷◌, ◌++◌, refl, sym, ap, subst, arith, decimal, append_assoc}
use Rattle.std.specs.Prelude.{codes, slice_index}
use Rattle.std.specs.Fmt.{signed_decimal}
use Rattle.std.specs.List.{flat_map}
use Rattle.mx_isa.specs.Fields.{IsSignedField}
use Rattle.mx_isa.specs.Registers.{IsRegister}
use Rattle.mx_lex.specs.Bytes.{continues_name}
use Rattle.mx_lex.specs.declared.token.Kind.TheVariants as kinds
use Rattle.mx_lines.specs.Words.{Word, Name, Number, Comma, Open, Close, Hash}
use Rattle.mx_asm.specs.declared.position.Section.TheVariants as section
use Rattle.mx_asm.specs.Positions.{front_names, statement_words, line_words, words_or_none, section_after}
use Rattle.mx_asm.specs.Printable.{is_name}
use Rattle.mx_asm.proofs.Spelled.{Splits, splits_end, splits_name, splits_mark, splits_blank, splits_decimal, splits_signed, is_negative, size, is_comma, is_open, is_close, is_hash, register_name, words_are}
use Rattle.cc_program.specs.declared.symbols.Symbol.{Symbol}
use Rattle.law_emit.proofs.Operands.{Operand}
use Rattle.law_emit.proofs.Operands.{Register, Immediate, Count, Memory, Held, Place, operand_text}
use Rattle.cc_emit.specs.Statements.{register, word_label, target_label}

module _ (symbols : List Symbol) where
  -- the words of an operand
  abbrev pub operand_words : Operand → List Word
  operand_words (Register r) = Name (register r) ∷ []
  operand_words (Immediate z) = Hash ∷ Number (is_negative z) (size z) ∷ []
  operand_words (Count n) = Hash ∷ Number false n ∷ []
  operand_words (Memory words base) = Number (is_negative words) (size words) ∷ Open ∷ Name (register base) ∷ Close ∷ []
  operand_words (Held word base) = Name (word_label word) ∷ Open ∷ Name (register base) ∷ Close ∷ []
  operand_words (Place target) = Name (target_label symbols target) ∷ []

  abbrev pub OperandFits : Operand → Type 0
  OperandFits (Register r) = IsRegister r
  OperandFits (Immediate z) = IsSignedField 16 z
  OperandFits (Count n) = n ≤ 31
  OperandFits (Memory words base) = IsSignedField 16 words × IsRegister base
  OperandFits (Held word base) = (is_name (word_label word) ≡ true) × IsRegister base
  OperandFits (Place target) = is_name (target_label symbols target) ≡ true

  abbrev pub OperandsFit : List Operand → Type 0
  OperandsFit [] = Unit {0}
  OperandsFit (o ∷ os) = OperandFits o × OperandsFit os

  abbrev pub more_words : List Operand → List Word
  more_words os = flat_map (λ o. Comma ∷ operand_words o) os

  abbrev more_text : List Operand → List ℕ
  more_text os = flat_map (λ one. codes "," ++ operand_text symbols one) os

  -- an address in brackets
  bracketed : (base : ℕ) (rest : List ℕ) (words : List Word) → IsRegister base → Splits rest words
      → Splits (91 ∷ (register base ++ (93 ∷ rest))) (Open ∷ Name (register base) ∷ Close ∷ words)
  bracketed base rest words h s =
      splits_mark 91 kinds.Open Open is_open _ _
      (splits_name (register base) _ _ (register_name base h) refl (splits_mark 93 kinds.Close Close is_close rest words s))

  operand_splits : (o : Operand) (rest : List ℕ) (words : List Word) → OperandFits o → continues_name (slice_index rest 0) ≡ false → Splits rest words
      → Splits (operand_text symbols o ++ rest) (operand_words o ++ words)
  operand_splits (Register r) rest words h stops s = splits_name (register r) rest words (register_name r h) stops s
  operand_splits (Immediate z) rest words h stops s =
      splits_mark 35 kinds.Hash Hash is_hash (signed_decimal z ++ rest) (Number (is_negative z) (size z) ∷ words) (splits_signed z rest words h stops s)
  operand_splits (Count n) rest words h stops s =
      splits_mark 35 kinds.Hash Hash is_hash (decimal n ++ rest) (Number false n ∷ words) (splits_decimal n rest words (omega arith) stops s)
  operand_splits (Memory z base) rest words h stops s =
      subst (λ t. Splits t (operand_words (Memory z base) ++ words)) (sym flat) (splits_signed z _ _ h.0 refl (bracketed base rest words h.1 s))
    where
      flat : operand_text symbols (Memory z base) ++ rest ≡ signed_decimal z ++ (91 ∷ (register base ++ (93 ∷ rest)))
      flat = simp append_assoc
  operand_splits (Held word base) rest words h stops s =
      subst (λ t. Splits t (operand_words (Held word base) ++ words)) (sym flat) (splits_name (word_label word) _ _ h.0 refl (bracketed base rest words h.1 s))
    where
      flat : operand_text symbols (Held word base) ++ rest ≡ word_label word ++ (91 ∷ (register base ++ (93 ∷ rest)))
      flat = simp append_assoc
  operand_splits (Place target) rest words h stops s = splits_name (target_label symbols target) rest words h stops s

  more_stops : (os : List Operand) → continues_name (slice_index (more_text os) 0) ≡ false
  more_stops [] = refl
  more_stops (o ∷ os) = refl

  more_splits : (os : List Operand) → OperandsFit os → Splits (more_text os) (more_words os)
  more_splits [] h = splits_end
  more_splits (o ∷ os) h =
      splits_mark 44 kinds.Comma Comma is_comma (operand_text symbols o ++ more_text os) (operand_words o ++ more_words os)
      (operand_splits o (more_text os) (more_words os) h.0 (more_stops os) (more_splits os h.1))

  blanks : (rest : List ℕ) (words : List Word) → Splits rest words → Splits (32 ∷ 32 ∷ 32 ∷ 32 ∷ 32 ∷ 32 ∷ 32 ∷ 32 ∷ rest) words
  blanks rest words s =
      splits_blank _ _ (splits_blank _ _ (splits_blank _ _ (splits_blank _ _
      (splits_blank _ _ (splits_blank _ _ (splits_blank _ _ (splits_blank rest words s)))))))

  -- the line of a statement
  abbrev pub statement_line : List ℕ → Operand → List Operand → List ℕ
  statement_line name first rest = codes "        " ++ name ++ codes " " ++ operand_text symbols first ++ more_text rest

  abbrev pub statement_of : List ℕ → Operand → List Operand → List Word
  statement_of name first rest = Name name ∷ (operand_words first ++ more_words rest)

  pub line_splits : (name : List ℕ) (first : Operand) (rest : List Operand) → is_name name ≡ true → OperandFits first → OperandsFit rest
      → Splits (statement_line name first rest) (statement_of name first rest)
  line_splits name first rest n h k =
      subst (λ t. Splits t (statement_of name first rest)) (sym flat)
      (blanks _ _ (splits_name name (32 ∷ (operand_text symbols first ++ more_text rest)) _ n refl
      (splits_blank _ _ (operand_splits first (more_text rest) (more_words rest) h (more_stops rest) (more_splits rest k)))))
    where
      flat : statement_line name first rest
          ≡ 32 ∷ 32 ∷ 32 ∷ 32 ∷ 32 ∷ 32 ∷ 32 ∷ 32 ∷ (name ++ (32 ∷ (operand_text symbols first ++ more_text rest)))
      flat = simp append_assoc

  pub words_of_line : (name : List ℕ) (first : Operand) (rest : List Operand) → is_name name ≡ true → OperandFits first → OperandsFit rest
      → line_words (statement_line name first rest) ≡ statement_of name first rest
  words_of_line name first rest n h k =
      ap words_or_none (words_are (statement_line name first rest) (statement_of name first rest) (line_splits name first rest n h k))

  -- no label is in front
  pub no_names : (name : List ℕ) (first : Operand) (more : List Word) → front_names (Name name ∷ (operand_words first ++ more)) ≡ []
  no_names name (Register r) more = refl
  no_names name (Immediate z) more = refl
  no_names name (Count n) more = refl
  no_names name (Memory words base) more = refl
  no_names name (Held word base) more = refl
  no_names name (Place target) more = refl

  pub all_words : (name : List ℕ) (first : Operand) (more : List Word)
      → statement_words (Name name ∷ (operand_words first ++ more)) ≡ Name name ∷ (operand_words first ++ more)
  all_words name (Register r) more = refl
  all_words name (Immediate z) more = refl
  all_words name (Count n) more = refl
  all_words name (Memory words base) more = refl
  all_words name (Held word base) more = refl
  all_words name (Place target) more = refl

  -- it is a statement of the code
  pub stays_code : (name : List ℕ) (first : Operand) (more : List Word) → section_after section.Code (Name name ∷ (operand_words first ++ more)) ≡ section.Code
  stays_code name (Register r) more = refl
  stays_code name (Immediate z) more = refl
  stays_code name (Count n) more = refl
  stays_code name (Memory words base) more = refl
  stays_code name (Held word base) more = refl
  stays_code name (Place target) more = refl

  pub halt_words : line_words (codes "        halt") ≡ Name (codes "halt") ∷ []
  halt_words =
      ap words_or_none (words_are (codes "        halt") (Name (codes "halt") ∷ [])
      (blanks (codes "halt") (Name (codes "halt") ∷ []) (splits_name (codes "halt") [] [] refl refl splits_end)))
