-- The fault that the assembler's definition gives a line is the least of those that hold of it.
use Rattle.std.proofs.Common.{◌≡◌, ℕ, ◌+◌, ◌≤◌, ◌||◌, ◌&&◌, List, [], ◌∷◌, length, take, get_or, cond, Bool, true, false, Option, Some, None, Result, Ok, Err, refl, ap, sym, ◌∙◌, arith}
use Rattle.std.proofs.Math.Path.{fun_ext}
use Rattle.std.specs.Prelude.{◌==◌, not, is_err, min, nat_le, nat_lt, map}
use Rattle.std.specs.List.{list_any}
use Rattle.std.proofs.lemmas.Bool.Decides.{nat_tests}
use Rattle.std.proofs.lemmas.List.Sums.{sum_by_push}
use Rattle.mx_lex.specs.Tokens.{tokens_of}
use Rattle.mx_lex.specs.Bytes.{is_allowed}
use Rattle.mx_lex.specs.Lines.{lines_of}
use Rattle.mx_lex.specs.declared.token.Token.{Token}
use Rattle.mx_lex.specs.declared.token.LexFault.{LexFault}
use Rattle.mx_lines.specs.declared.fault.Fault.{Fault}
use Rattle.mx_lines.specs.declared.fault.Fault.TheVariants as f
use Rattle.mx_asm.specs.declared.position.Section.{Section}
use Rattle.mx_asm.specs.declared.position.Position.{Position}
use Rattle.mx_lines.specs.Words.{Word, has_bad_byte as has_bad, words_at, word_at, words_of}
use Rattle.mx_lines.specs.Instructions.{Labels}
use Rattle.mx_asm.specs.Directives.{Effect, effect_of}
use Rattle.mx_asm.specs.Positions.{has_label, has_dotted_label, instruction_count, word_count, after, behind, label_here, line_words, words_or_none, start, position_at_end, labels_from}
use Rattle.mx_asm.specs.Faults.{is_data, is_full, layout_fault, with_repeat, least_fault, words_fault, repeats, line_fault}
use Rattle.mx_asm.specs.Texts.{text_labels}
use Rattle.mx_faults.specs.Forms.{form, operands, is_no_register, is_outside, is_undefined, is_wrong_kind, moves_chain}
use Rattle.mx_faults.specs.Before.{statement, section_behind, front_labels, kind_in, has_twice, instructions, data_words}
use Rattle.mx_faults.specs.Holding.{LineInText, and_before, before_comment, is_unknown, is_misshapen, is_system, is_misplaced, least_of, has_duplicate_label, has_too_many_instructions, has_full_data, is_too_long}
use Rattle.mx_faults.specs.Found.{assembled_fault, text_line}
use Rattle.mx_faults.specs.Walking.{kind_by}
use Rattle.mx_faults.proofs.Statements.{fault_of, least_of_eight}
use Rattle.mx_faults.proofs.Directives.{statement_is}
use Rattle.mx_faults.proofs.Walks.{walk_section, walk_index, walk_address, walk_kind, walk_known, repeats_is}

-- the four faults that a statement does not decide
abbrev pub layout : (dotted many full long : Bool) → Option Fault
layout dotted many full long =
    cond dotted (Some f.BadDirective) (cond many (Some f.TooManyInstructions) (cond full (Some f.DataFull) (cond long (Some f.LineTooLong) None)))

-- the least of twelve
abbrev pub least_of_twelve : (b3 b4 b5 b6 b7 b8 b9 b10 b11 b12 b13 b14 : Bool) → Option Fault
least_of_twelve b3 b4 b5 b6 b7 b8 b9 b10 b11 b12 b13 b14 =
    cond b3 (Some f.UnknownMnemonic)
    (cond b4 (Some f.BadOperands) (cond b5 (Some f.BadRegister) (cond b6 (Some f.NumberOutOfRange) (cond b7 (Some f.DuplicateLabel)
    (cond b8 (Some f.UndefinedLabel) (cond b9 (Some f.WrongLabelKind) (cond b10 (Some f.SystemInstruction) (cond b11 (Some f.BadDirective)
    (cond b12 (Some f.TooManyInstructions) (cond b13 (Some f.DataFull) (cond b14 (Some f.LineTooLong) None)))))))))))

-- the least fault of a line by that of its statement
abbrev with_fault : Bool → Option Fault → Option Fault → Option Fault
with_fault repeated (Some fault) rest = Some (with_repeat repeated fault)
with_fault repeated None rest = cond repeated (Some f.DuplicateLabel) rest

by_fault : (repeated : Bool) (r : Result Effect Fault) (rest : Option Fault) → least_fault repeated r rest ≡ with_fault repeated (fault_of r) rest
by_fault repeated (Ok e) rest = refl
by_fault repeated (Err fault) rest = refl

merged : (b3 b4 b5 b6 b7 b8 b9 b10 b11 dotted b12 b13 b14 : Bool)
    → with_fault b7 (least_of_eight b3 b4 b5 b6 b8 b9 b10 b11) (layout dotted b12 b13 b14)
    ≡ least_of_twelve b3 b4 b5 b6 b7 b8 b9 b10 (b11 || dotted) b12 b13 b14
merged true b4 b5 b6 b7 b8 b9 b10 b11 dotted b12 b13 b14 = refl
merged false true b5 b6 b7 b8 b9 b10 b11 dotted b12 b13 b14 = refl
merged false false true b6 b7 b8 b9 b10 b11 dotted b12 b13 b14 = refl
merged false false false true b7 b8 b9 b10 b11 dotted b12 b13 b14 = refl
merged false false false false true true b9 b10 b11 dotted b12 b13 b14 = refl
merged false false false false true false true b10 b11 dotted b12 b13 b14 = refl
merged false false false false true false false true b11 dotted b12 b13 b14 = refl
merged false false false false true false false false true dotted b12 b13 b14 = refl
merged false false false false true false false false false dotted b12 b13 b14 = refl
merged false false false false false true b9 b10 b11 dotted b12 b13 b14 = refl
merged false false false false false false true b10 b11 dotted b12 b13 b14 = refl
merged false false false false false false false true b11 dotted b12 b13 b14 = refl
merged false false false false false false false false true dotted b12 b13 b14 = refl
merged false false false false false false false false false true b12 b13 b14 = refl
merged false false false false false false false false false false b12 b13 b14 = refl

bad_byte_front : (is : Bool) (b : ℕ) (line : List ℕ) → has_bad line ≡ list_any (λ b. not (is_allowed b)) (before_comment line)
    → cond is false (not (is_allowed b) || has_bad line) ≡ list_any (λ b. not (is_allowed b)) (cond is [] (b ∷ before_comment line))
bad_byte_front true b line h = refl
bad_byte_front false b line h = ap (λ x. not (is_allowed b) || x) h

-- F1 and F2
bad_byte : (line : List ℕ) → has_bad line ≡ list_any (λ b. not (is_allowed b)) (before_comment line)
bad_byte [] = refl
bad_byte (b ∷ line) = bad_byte_front (b == 59) b line (bad_byte line)

words_by : (line : List ℕ) → words_of line ≡ cond (has_bad line) (Err f.BadByte) (words_at line (tokens_of line))
unfolding words_of
words_by line = refl

module _ (labels : Labels) (end : ℕ) (p : Position) (repeated : Bool) (long : ℕ) where
  by_words : (bad : Bool) (line : List ℕ) (tokens : Result (List Token) LexFault) (r : Result (List Word) Fault) (rest : Option Fault)
      → r ≡ cond bad (Err f.BadByte) (words_at line tokens)
      → ((words : List Word) → r ≡ Ok words → words_fault labels end p repeated long (Ok words) ≡ rest)
      → words_fault labels end p repeated long r ≡ cond bad (Some f.BadByte) (cond (is_err tokens) (Some f.BadToken) rest)
  by_words true line tokens r rest e h = ap (words_fault labels end p repeated long) e
  by_words false line (Err fault) r rest e h = ap (words_fault labels end p repeated long) e
  by_words false line (Ok tokens) r rest e h = ap (words_fault labels end p repeated long) e ∙ h (map (word_at line) tokens) e

-- the least fault of a line by the labels of the text, the position where it stands and the labels before it
module _ (labels : Labels) (end : ℕ) (p : Position) (earlier : Labels) (line : List ℕ) where
  -- where it splits into tokens
  abbrev pub tokens_fault : Bool → Bool → Bool → Option Fault
  tokens_fault repeated many full =
      let of = form (statement line) in
      least_of_twelve (is_unknown of) (is_misshapen of) (list_any is_no_register (operands of)) (list_any is_outside (operands of)) repeated
      (list_any (is_undefined (kind_by labels)) (operands of)) (list_any (is_wrong_kind (kind_by labels)) (operands of))
      (is_system of || list_any moves_chain (operands of))
      (is_misplaced p.section of || has_dotted_label (line_words line)) many full (nat_lt 255 (length line))

  abbrev pub parts : Option Fault → Option Fault
  parts rest = cond (has_bad line) (Some f.BadByte) (cond (is_err (tokens_of line)) (Some f.BadToken) rest)

  abbrev again : Bool
  again = repeats p earlier (line_words line)

  abbrev pub many : Bool
  many = nat_lt 20000 (after p (line_words line)).index

  abbrev pub full : Bool
  full = is_full end p (line_words line)

  own_words : words_fault labels end p again (length line) (Ok (line_words line)) ≡ tokens_fault again many full
  own_words =
      let of = form (statement line) in
      let dotted = has_dotted_label (line_words line) in
      let long = nat_lt 255 (length line) in
      by_fault again (effect_of labels p.section (statement line)) (layout_fault end p (length line) (line_words line))
      ∙ ap (λ o. with_fault again o (layout dotted many full long)) (statement_is labels p.section (statement line))
      ∙ merged (is_unknown of) (is_misshapen of) (list_any is_no_register (operands of)) (list_any is_outside (operands of)) again
      (list_any (is_undefined (kind_by labels)) (operands of)) (list_any (is_wrong_kind (kind_by labels)) (operands of))
      (is_system of || list_any moves_chain (operands of))
      (is_misplaced p.section of) dotted many full long

  split_words : (words : List Word) → words_of line ≡ Ok words → words_fault labels end p again (length line) (Ok words) ≡ tokens_fault again many full
  split_words words e = ap (λ ws. words_fault labels end p again (length line) (Ok ws)) (sym (ap words_or_none e)) ∙ own_words

  pub parts_are : line_fault labels end p earlier line ≡ parts (tokens_fault again many full)
  parts_are = by_words labels end p again (length line) (has_bad line) line (tokens_of line) (words_of line) (tokens_fault again many full)
      (words_by line) split_words

same_bool : (b c : Bool) → (b ≡ true → c ≡ true) → (c ≡ true → b ≡ true) → b ≡ c
same_bool true true f g = refl
same_bool true false f g = sym (f refl)
same_bool false true f g = g refl
same_bool false false f g = refl

past_end : (end low a b : ℕ) → end ≤ 65536 → nat_lt end (min (min (low + a) 65537 + b) 65537) ≡ nat_lt end (low + (a + b))
past_end end low a b le = same_bool _ _ (λ h. grind (arith, nat_tests)) (λ h. grind (arith, nat_tests))

at_end : (end low a : ℕ) → end ≤ 65536 → nat_le end (min (low + a) 65537) ≡ nat_le end (low + a)
at_end end low a le = same_bool _ _ (λ h. grind (arith, nat_tests)) (λ h. grind (arith, nat_tests))

many_sum : (a b c : ℕ) → c ≡ a + b → 0 + a + b ≡ c
many_sum a b c h = omega (arith, h)

-- a line that stands behind others
module _ (low end : ℕ) (all before : List (List ℕ)) (line : List ℕ) (little : low ≤ 65537) (within : end ≤ 65536) where
  abbrev l : LineInText
  l = record { low = low; end = end; all = all; before = before; line = line }

  abbrev labels : Labels
  labels = labels_from (start low) [] all

  abbrev p : Position
  p = position_at_end (start low) before

  abbrev earlier : Labels
  earlier = labels_from (start low) [] before

  at_section : p.section ≡ section_behind before
  at_section = walk_section before (start low)

  kind_is : kind_by labels ≡ kind_in all
  kind_is = fun_ext (λ name. walk_kind all (start low) [] name)

  repeated_is : repeats p earlier (line_words line) ≡ has_duplicate_label l
  repeated_is =
      repeats_is earlier (label_here p) (line_words line)
      ∙ ap (λ (q : List ℕ → Bool). list_any q (front_labels line) || has_twice (front_labels line)) (fun_ext (λ name. walk_known before (start low) name))

  many_is : nat_lt 20000 (after p (line_words line)).index ≡ has_too_many_instructions l
  unfolding behind
  many_is =
      ap (λ n. nat_lt 20000 (n + instruction_count (statement line))) (walk_index before (start low))
      ∙ ap (nat_lt 20000) (many_sum (instructions before) (instruction_count (statement line)) (instructions (and_before l))
      (sum_by_push (λ line. instruction_count (statement line)) before line))

  stands_address : p.address ≡ min (low + data_words before) 65537
  stands_address = walk_address before (start low) little

  full_is : is_full end p (line_words line) ≡ has_full_data l
  unfolding behind
  full_is =
      let labelled = has_label (line_words line) in
      let more = word_count (statement line) in
      let sum = sum_by_push (λ line. word_count (statement line)) before line in
      let ends = nat_lt end (low + data_words (and_before l)) in
      ap (λ a. nat_lt end (min (a + more) 65537) || (is_data p.section && labelled && nat_le end p.address)) stands_address
      ∙ ap (λ b. b || (is_data p.section && labelled && nat_le end p.address))
      (past_end end low (data_words before) more within ∙ ap (λ n. nat_lt end (low + n)) (sym sum))
      ∙ ap (λ s. ends || (is_data s && labelled && nat_le end p.address)) at_section
      ∙ ap (λ b. ends || (is_data (section_behind before) && labelled && b)) (ap (nat_le end) stands_address ∙ at_end end low (data_words before) within)

  pub line_is : line_fault labels end p earlier line ≡ least_of l
  line_is =
      let of = form (statement line) in
      let dotted = has_dotted_label (line_words line) in
      let numbers = nat_lt 255 (length line) in
      let chosen = λ (k : List ℕ → Option Section) (s : Section) (b7 b12 b13 : Bool). parts labels end p earlier line
      (least_of_twelve (is_unknown of) (is_misshapen of) (list_any is_no_register (operands of)) (list_any is_outside (operands of)) b7
      (list_any (is_undefined k) (operands of)) (list_any (is_wrong_kind k) (operands of)) (is_system of || list_any moves_chain (operands of))
      (is_misplaced s of || dotted) b12 b13 numbers) in
      parts_are labels end p earlier line
      ∙ ap (λ b. chosen (kind_by labels) p.section b (many labels end p earlier line) (full labels end p earlier line)) repeated_is
      ∙ ap (λ b. chosen (kind_by labels) p.section (has_duplicate_label l) b (full labels end p earlier line)) many_is
      ∙ ap (λ b. chosen (kind_by labels) p.section (has_duplicate_label l) (has_too_many_instructions l) b) full_is
      ∙ ap (λ s. chosen (kind_by labels) s (has_duplicate_label l) (has_too_many_instructions l) (has_full_data l)) at_section
      ∙ ap (λ k. chosen k (section_behind before) (has_duplicate_label l) (has_too_many_instructions l) (has_full_data l)) kind_is
      ∙ ap (λ b. cond b (Some f.BadByte) (cond (is_err (tokens_of line)) (Some f.BadToken)
      (least_of_twelve (is_unknown of) (is_misshapen of) (list_any is_no_register (operands of)) (list_any is_outside (operands of)) (has_duplicate_label l)
      (list_any (is_undefined (kind_in all)) (operands of)) (list_any (is_wrong_kind (kind_in all)) (operands of))
      (is_system of || list_any moves_chain (operands of))
      (is_misplaced (section_behind before) of || dotted) (has_too_many_instructions l) (has_full_data l) (is_too_long l)))) (bad_byte line)

-- the fault of each line of a text
pub assembled_is : (low end : ℕ) (text : List ℕ) (place : ℕ) → low ≤ 65537 → end ≤ 65536
    → assembled_fault low end text place ≡ least_of (text_line low end text place)
unfolding text_labels
assembled_is low end text place little within = let lines = lines_of text in line_is low end lines (take place lines) (get_or lines place []) little within
