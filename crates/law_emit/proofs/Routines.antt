-- The texts of routines are lines with labels and statements.
use Rattle.std.proofs.Common.{◌≡◌, ℕ, zero, suc, ◌≤◌, ◌<◌, Bool, true, false, cond, eqb, not, ◌&&◌, List, [], ◌∷◌, ◌++◌, Option, Some, None, refl, ap, ◌∙◌, arith}
use Rattle.std.specs.Prelude.{All, codes, ◌==◌, replicate}
use Rattle.std.specs.List.{list_all, flat_map}
use Rattle.std.proofs.lemmas.Bool.{eqb-true}
use Rattle.std.proofs.lemmas.Bool.Decides.{nat_tests}
use Rattle.std.proofs.lemmas.Grind.{flat_map-append}
use Rattle.std.proofs.lemmas.List.Elements.{All-nil, All-cons, All-head, All-tail}
use Rattle.mx_lex.specs.Tokens.{tokens_of, next_token, token_from, number_at, magnitude_at, digits_at}
use Rattle.mx_lines.specs.Words.{Word, Name, Number, Comma, Open, Close, Hash, Colon, End, words_of}
use Rattle.mx_asm.specs.declared.position.Section.{Section}
use Rattle.mx_asm.specs.declared.position.Section.TheVariants as section
use Rattle.mx_asm.specs.Directives.{is_dotted, directive_named}
use Rattle.mx_asm.specs.Positions.{statement_words, line_words, section_after, instruction_count}
use Rattle.mx_asm.proofs.Spelled.{and_both}
use Rattle.cc_program.specs.declared.program.Program.{Program}
use Rattle.cc_emit.specs.declared.line.Line.{Line}
use Rattle.cc_emit.specs.declared.line.Line.TheVariants.{Plain as PlainLine, Transfer as TransferLine, Mark, Written}
use Rattle.cc_emit.specs.declared.line.Routine.{Routine}
use Rattle.cc_emit.specs.declared.line.Routine.TheVariants as routine
use Rattle.cc_emit.specs.declared.line.Target.TheVariants.{Shifted}
use Rattle.cc_emit.specs.declared.line.Transfer.TheVariants.{JumpReg}
use Rattle.cc_emit.specs.Assembly.{low, signed_product, product, signed_quotient, quotient, trap, zero_divisor, null_pointer, full_stack}
use Rattle.cc_emit.specs.Lines.{line_text, lines_text}
use Rattle.cc_emit.specs.Needs.{has_routine}
use Rattle.cc_emit.specs.Routines.{assembly_of, assembly_text, shift_by, shift_lines, shifts_lines, text_of, routine_text, called_text, called_texts, all_routines, routines_text}
use Rattle.law_emit.specs.Reading.{is_one_line, IsCode, PlainFits, LineFits, WrittenFits, written_count}
use Rattle.law_emit.specs.Routines.{lent, assembly_lines, lines_by, called_lines, routine_lines}

abbrev is_code : List Word → Bool
is_code [] = true
is_code (Name name ∷ words) = not (is_dotted name)
is_code _ = false

abbrev is_code_section : Section → Bool
is_code_section section.Code = true
is_code_section section.Data = false

abbrev words_fit : List ℕ → List Word → Bool
words_fit text words = is_code words && (is_code_section (section_after section.Code words) && eqb (instruction_count words) (written_count text))

abbrev fits : List ℕ → Bool
fits text = is_one_line text && words_fit text (statement_words (line_words text))

abbrev all_fit : List (ℕ × List ℕ) → Bool
all_fit rows = list_all (λ row. fits row.1) rows

low_fits : all_fit low ≡ true
unfolding words_of tokens_of next_token token_from number_at magnitude_at digits_at directive_named
low_fits = refl

signed_product_fits : all_fit signed_product ≡ true
unfolding words_of tokens_of next_token token_from number_at magnitude_at digits_at directive_named
signed_product_fits = refl

product_fits : all_fit product ≡ true
unfolding words_of tokens_of next_token token_from number_at magnitude_at digits_at directive_named
product_fits = refl

signed_quotient_fits : all_fit signed_quotient ≡ true
unfolding words_of tokens_of next_token token_from number_at magnitude_at digits_at directive_named
signed_quotient_fits = refl

quotient_fits : all_fit quotient ≡ true
unfolding words_of tokens_of next_token token_from number_at magnitude_at digits_at directive_named
quotient_fits = refl

trap_fits : all_fit trap ≡ true
unfolding words_of tokens_of next_token token_from number_at magnitude_at digits_at directive_named
trap_fits = refl

zero_divisor_fits : all_fit zero_divisor ≡ true
unfolding words_of tokens_of next_token token_from number_at magnitude_at digits_at directive_named
zero_divisor_fits = refl

null_pointer_fits : all_fit null_pointer ≡ true
unfolding words_of tokens_of next_token token_from number_at magnitude_at digits_at directive_named
null_pointer_fits = refl

full_stack_fits : all_fit full_stack ≡ true
unfolding words_of tokens_of next_token token_from number_at magnitude_at digits_at directive_named
full_stack_fits = refl

-- what the test says
code_words : (words : List Word) → is_code words ≡ true → IsCode words
code_words [] h = tt
code_words (Name name ∷ words) h = undotted (is_dotted name) h
  where
    undotted : (b : Bool) → not b ≡ true → b ≡ false
    undotted true h = cc
    undotted false h = refl
code_words (Number s v ∷ words) h = cc
code_words (Comma ∷ words) h = cc
code_words (Open ∷ words) h = cc
code_words (Close ∷ words) h = cc
code_words (Hash ∷ words) h = cc
code_words (Colon ∷ words) h = cc
code_words (End ∷ words) h = cc

code_section : (s : Section) → is_code_section s ≡ true → s ≡ section.Code
code_section section.Code h = refl
code_section section.Data h = cc

text_fits : (text : List ℕ) → fits text ≡ true → WrittenFits text
text_fits text h =
    let words = statement_words (line_words text) in
    let one = and_both (is_one_line text) (words_fit text words) h in
    let code = and_both (is_code words) (is_code_section (section_after section.Code words) && eqb (instruction_count words) (written_count text)) one.1 in
    let last = and_both (is_code_section (section_after section.Code words)) (eqb (instruction_count words) (written_count text)) code.1 in
    record {
      one = one.0;
      code = code_words words code.0;
      stays = code_section (section_after section.Code words) last.0;
      counts = eqb-true (instruction_count words) (written_count text) last.1;
    }

abbrev RowsFit : Option (List (ℕ × List ℕ)) → Type 0
RowsFit None = Unit {0}
RowsFit (Some rows) = all_fit rows ≡ true

rows_fit : (which : Routine) → RowsFit (assembly_of which)
unfolding assembly_of
rows_fit routine.Low = low_fits
rows_fit routine.SignedProduct = signed_product_fits
rows_fit routine.Product = product_fits
rows_fit routine.SignedQuotient = signed_quotient_fits
rows_fit routine.Quotient = quotient_fits
rows_fit routine.ShiftLeft = tt
rows_fit routine.ShiftRight = tt
rows_fit routine.ShiftArithmetic = tt
rows_fit routine.RotateLeft = tt
rows_fit routine.Trap = trap_fits
rows_fit routine.Zero = zero_divisor_fits
rows_fit routine.Null = null_pointer_fits
rows_fit routine.Stack = full_stack_fits

module _ (p : Program) where
  abbrev Fit : List Line → Type 0
  Fit lines = All (LineFits p) lines

  none_fit : Fit []
  none_fit = All-nil (LineFits p)

  both_fit : (lines more : List Line) → Fit lines → Fit more → Fit (lines ++ more)
  both_fit [] more h k = k
  both_fit (line ∷ lines) more h k =
      All-cons (LineFits p) line (lines ++ more) (All-head (LineFits p) line lines h) (both_fit lines more (All-tail (LineFits p) line lines h) k)

  times_fit : (n : ℕ) (line : Line) → LineFits p line → Fit (replicate n line)
  times_fit zero line h = none_fit
  times_fit (suc n) line h = All-cons (LineFits p) line (replicate n line) h (times_fit n line h)

  assembly_fits : (rows : List (ℕ × List ℕ)) → all_fit rows ≡ true → Fit (assembly_lines rows)
  assembly_fits [] h = none_fit
  assembly_fits (row ∷ rows) h =
      let both = and_both (fits row.1) (all_fit rows) h in
      both_fit (replicate row.0 (Written (lent row.1))) (assembly_lines rows) (times_fit row.0 (Written (lent row.1)) (text_fits row.1 both.0))
      (assembly_fits rows both.1)

  -- shifts
  shift_fits : (which : Routine) (count : ℕ) → count < 32 → (count == 0) ≡ false → PlainFits (shift_by which count)
  shift_fits which count small some = by_routine which (omega (arith, positive))
    where
      positive : 0 < count
      positive = grind (arith, nat_tests)

      by_routine : (r : Routine) → 0 < count → PlainFits (shift_by r count)
      by_routine routine.ShiftLeft h = (omega arith, omega arith, omega arith, omega arith)
      by_routine routine.ShiftRight h = (omega arith, omega arith, omega arith, omega arith)
      by_routine routine.RotateLeft h = (omega arith, omega arith, omega arith, omega arith)
      by_routine routine.ShiftArithmetic h = (omega arith, omega arith, omega arith)
      by_routine routine.Low h = (omega arith, omega arith, omega arith)
      by_routine routine.SignedProduct h = (omega arith, omega arith, omega arith)
      by_routine routine.Product h = (omega arith, omega arith, omega arith)
      by_routine routine.SignedQuotient h = (omega arith, omega arith, omega arith)
      by_routine routine.Quotient h = (omega arith, omega arith, omega arith)
      by_routine routine.Trap h = (omega arith, omega arith, omega arith)
      by_routine routine.Zero h = (omega arith, omega arith, omega arith)
      by_routine routine.Null h = (omega arith, omega arith, omega arith)
      by_routine routine.Stack h = (omega arith, omega arith, omega arith)

  place_fits : (which : Routine) (count : ℕ) → count < 32 → Fit (shift_lines which count)
  place_fits which count small =
      All-cons (LineFits p) (Mark (Shifted which count)) _ (omega arith)
      (both_fit (cond (count == 0) [] (PlainLine (shift_by which count) ∷ [])) (TransferLine (JumpReg 27) ∷ []) (shifted (count == 0) refl)
      (All-cons (LineFits p) (TransferLine (JumpReg 27)) [] (omega arith) none_fit))
    where
      shifted : (t : Bool) → (count == 0) ≡ t → Fit (cond t [] (PlainLine (shift_by which count) ∷ []))
      shifted true h = none_fit
      shifted false h = All-cons (LineFits p) (PlainLine (shift_by which count)) [] (shift_fits which count small h) none_fit

  places_fit : (which : Routine) (count : ℕ) → count ≤ 32 → Fit (shifts_lines which count)
  places_fit which zero small = none_fit
  places_fit which (suc count) small =
      both_fit (shifts_lines which count) (shift_lines which count) (places_fit which count (omega arith)) (place_fits which count (omega arith))

  lines_fit : (which : Routine) (rows : Option (List (ℕ × List ℕ))) → RowsFit rows → Fit (lines_by which rows)
  lines_fit which (Some rows) h = assembly_fits rows h
  lines_fit which None h = places_fit which 32 (omega arith)

  each_fits : (called : List Routine) (routines : List Routine) → Fit (flat_map (called_lines called) routines)
  each_fits called [] = none_fit
  each_fits called (which ∷ routines) =
      both_fit (called_lines called which) (flat_map (called_lines called) routines) (by_call (has_routine which called)) (each_fits called routines)
    where
      by_call : (t : Bool) → Fit (cond t (lines_by which (assembly_of which)) [])
      by_call true = lines_fit which (assembly_of which) (rows_fit which)
      by_call false = none_fit

  pub routines_fit : (called : List Routine) → All (LineFits p) (routine_lines called)
  routines_fit called = each_fits called all_routines

  -- their text
  times_text : (n : ℕ) (text : List ℕ) → lines_text p (replicate n (Written (lent text))) ≡ flat_map (λ text. text ++ codes "\n") (replicate n text)
  times_text zero text = refl
  times_text (suc n) text = ap (λ more. text ++ codes "\n" ++ more) (times_text n text)

  assembly_same : (rows : List (ℕ × List ℕ)) → lines_text p (assembly_lines rows) ≡ assembly_text rows
  assembly_same [] = refl
  assembly_same (row ∷ rows) =
      flat_map-append (line_text p) (replicate row.0 (Written (lent row.1))) (assembly_lines rows)
      ∙ ap (λ t. t ++ lines_text p (assembly_lines rows)) (times_text row.0 row.1)
      ∙ ap (λ t. flat_map (λ text. text ++ codes "\n") (replicate row.0 row.1) ++ t) (assembly_same rows)

  routine_same : (which : Routine) (rows : Option (List (ℕ × List ℕ))) → lines_text p (lines_by which rows) ≡ text_of p which rows
  routine_same which (Some rows) = assembly_same rows
  routine_same which None = refl

  each_same : (called : List Routine) (routines : List Routine)
      → lines_text p (flat_map (called_lines called) routines) ≡ called_texts called routines p
  each_same called [] = refl
  each_same called (which ∷ routines) =
      flat_map-append (line_text p) (called_lines called which) (flat_map (called_lines called) routines)
      ∙ ap (λ t. t ++ lines_text p (flat_map (called_lines called) routines)) (by_call (has_routine which called))
      ∙ ap (λ t. called_text called p which ++ t) (each_same called routines)
    where
      by_call : (t : Bool) → lines_text p (cond t (lines_by which (assembly_of which)) []) ≡ cond t (routine_text p which) []
      by_call true = routine_same which (assembly_of which)
      by_call false = refl

  pub routines_same : (called : List Routine) → lines_text p (routine_lines called) ≡ routines_text called p
  routines_same called = each_same called all_routines
