-- The data that the translation adds, and the comment with the size, leave the section as it is.
use Rattle.std.proofs.Common.{◌≡◌, ℕ, zero, suc, ◌+◌, ◌%◌, ◌^◌, ◌≤◌, ◌<◌, Bool, true, false, cond, List, [], ◌∷◌, ◌++◌, Option, Some, None, refl, arith, decimal}
use Rattle.std.specs.Prelude.{All, codes, ◌==◌}
use Rattle.std.specs.List.{flat_map}
use Rattle.std.proofs.lemmas.Fmt.{decimal_is_IsNumeral}
use Rattle.mx_lex.specs.Tokens.{tokens_of, next_token, token_from, number_at, magnitude_at, digits_at}
use Rattle.mx_lines.specs.Words.{words_of}
use Rattle.mx_asm.specs.Directives.{directive_named}
use Rattle.cc_lines.specs.declared.instruction.Shift.{Shift}
use Rattle.cc_emit.specs.declared.line.Word.TheVariants.{Number, End, Stack, Shifts, Mask as MaskWord}
use Rattle.cc_emit.specs.declared.line.Mask.{Mask}
use Rattle.cc_emit.specs.declared.line.Mask.TheVariants.{LoadLeft, LoadRight, StoreLeft, StoreRight}
use Rattle.cc_emit.specs.declared.line.Routine.{Routine}
use Rattle.cc_emit.specs.declared.line.Target.TheVariants.{Shifted}
use Rattle.cc_emit.specs.declared.output.Output.{Output}
use Rattle.cc_emit.specs.Data.{shift_of, word_line, shifted_line, shifted_lines, table_of, routine_table, mask_table, keeps_words, kept_text, number_text, end_text, held_text, all_shifts, all_masks, added_text}
use Rattle.cc_emit.specs.Labels.{routine_label, mask_words}
use Rattle.cc_emit.specs.Needs.{has_routine, has_mask}
use Rattle.cc_emit.specs.Sources.{plural, count_text, size_text}
use Rattle.cc_emit.specs.Statements.{word_label}
use Rattle.law_emit.specs.Lines.{LineStays, Stays}
use Rattle.law_emit.specs.Reading.{is_one_line}
use Rattle.law_emit.proofs.Alone.{both_lines}
use Rattle.law_emit.proofs.Comments.{digits_one}
use Rattle.law_emit.proofs.DataLines.{nothing_stays, both_stay, cond_stays, each_stays, all_stay, line_stays, comment_stays, number_value, name_value, word_stays, label_stays, held_stays}
use Rattle.law_emit.proofs.Names.{word_named, target_named}

-- tables of shifts
shifted_stay : (which : Routine) (count : ℕ) → count ≤ 32 → Stays (shifted_lines which count)
shifted_stay which zero h = nothing_stays
shifted_stay which (suc count) h =
    let small : count < 2 ^ 8 = omega arith in
    let name = routine_label which ++ codes ".n" ++ decimal count in
    both_stay (shifted_lines which count) (shifted_line which count) (shifted_stay which count (omega arith))
    (word_stays name (name_value name (target_named [] (Shifted which count) small)))

table_stays : (which : Routine) (o : Option Shift) → Stays (table_of which o)
table_stays which None = nothing_stays
table_stays which (Some op) =
    both_stay (word_label (Shifts op) ++ codes ":\n") (shifted_lines which 32) (label_stays (word_label (Shifts op)) (word_named (Shifts op) tt))
    (shifted_stay which 32 (omega arith))

shifts_stay : (called : List Routine) → Stays (flat_map (routine_table called) all_shifts)
shifts_stay called =
    each_stays (routine_table called) (λ which. cond_stays (has_routine which called) (table_of which (shift_of which)) (table_stays which (shift_of which)))
    all_shifts

-- tables of masks
number_line : (n : ℕ) → n < 2 ^ 32 → Stays (word_line n)
number_line n small = word_stays (decimal n) (number_value n small)

four_lines : (a b c d : ℕ) → a < 2 ^ 32 → b < 2 ^ 32 → c < 2 ^ 32 → d < 2 ^ 32 → Stays (flat_map word_line (a ∷ b ∷ c ∷ d ∷ []))
four_lines a b c d h i j k =
    both_stay (word_line a) (flat_map word_line (b ∷ c ∷ d ∷ [])) (number_line a h)
    (both_stay (word_line b) (flat_map word_line (c ∷ d ∷ [])) (number_line b i)
    (both_stay (word_line c) (flat_map word_line (d ∷ [])) (number_line c j) (both_stay (word_line d) [] (number_line d k) nothing_stays)))

mask_lines : (mask : Mask) → Stays (flat_map word_line (mask_words mask))
mask_lines LoadLeft = four_lines 0 255 65535 16777215 (omega arith) (omega arith) (omega arith) (omega arith)
mask_lines LoadRight = four_lines 4294967040 4294901760 4278190080 0 (omega arith) (omega arith) (omega arith) (omega arith)
mask_lines StoreLeft = four_lines 4294967295 16777215 65535 255 (omega arith) (omega arith) (omega arith) (omega arith)
mask_lines StoreRight = four_lines 4278190080 4294901760 4294967040 4294967295 (omega arith) (omega arith) (omega arith) (omega arith)

masks_stay : (read : List Mask) → Stays (flat_map (mask_table read) all_masks)
masks_stay read =
    each_stays (mask_table read)
    (λ mask. cond_stays (has_mask mask read) (word_label (MaskWord mask) ++ codes ":\n" ++ flat_map word_line (mask_words mask))
    (both_stay (word_label (MaskWord mask) ++ codes ":\n") (flat_map word_line (mask_words mask))
    (label_stays (word_label (MaskWord mask)) (word_named (MaskWord mask) tt)) (mask_lines mask))) all_masks

-- the words that routines keep
link_stays : LineStays (codes "m.link: .word 0")
unfolding words_of tokens_of next_token token_from number_at magnitude_at digits_at directive_named
link_stays = refl

first_stays : LineStays (codes "m.x: .word 0")
unfolding words_of tokens_of next_token token_from number_at magnitude_at digits_at directive_named
first_stays = refl

second_stays : LineStays (codes "m.y: .word 0")
unfolding words_of tokens_of next_token token_from number_at magnitude_at digits_at directive_named
second_stays = refl

kept_stays : (called : List Routine) → Stays (kept_text called)
kept_stays called =
    cond_stays (keeps_words called) (codes "m.link: .word 0\nm.x: .word 0\nm.y: .word 0\n")
    (both_stay (codes "m.link: .word 0\n") (codes "m.x: .word 0\nm.y: .word 0\n") (line_stays (codes "m.link: .word 0") refl link_stays)
    (both_stay (codes "m.x: .word 0\n") (codes "m.y: .word 0\n") (line_stays (codes "m.x: .word 0") refl first_stays)
    (line_stays (codes "m.y: .word 0") refl second_stays)))

-- numbers, and addresses after all data
number_stays : (n : ℕ) → n < 2 ^ 32 → Stays (number_text n)
number_stays n small = held_stays (word_label (Number n)) n (word_named (Number n) small) small

end_stays : (end addend : ℕ) → addend < 2 ^ 32 → Stays (end_text end addend)
end_stays end addend small =
    let less : (end + addend) % 2 ^ 32 < 2 ^ 32 = omega arith in
    held_stays (word_label (End addend)) ((end + addend) % 2 ^ 32) (word_named (End addend) small) less

pub added_stays : (out : Output) (end : ℕ) → All (λ n. n < 2 ^ 32) out.numbers.keys → All (λ n. n < 2 ^ 32) out.ends.keys → Stays (added_text out end)
added_stays out end numbers ends =
    let a = flat_map (routine_table out.routines.items) all_shifts in
    let b = flat_map (mask_table out.masks.items) all_masks in
    let c = kept_text out.routines.items in
    let d = flat_map number_text out.numbers.keys in
    let e = flat_map (end_text end) out.ends.keys in
    both_stay (a ++ b ++ c ++ d ++ e) (held_text Stack 262080)
    (both_stay (a ++ b ++ c ++ d) e
    (both_stay (a ++ b ++ c) d
    (both_stay (a ++ b) c (both_stay a b (shifts_stay out.routines.items) (masks_stay out.masks.items)) (kept_stays out.routines.items))
    (all_stay (λ n. n < 2 ^ 32) number_text number_stays out.numbers.keys numbers))
    (all_stay (λ n. n < 2 ^ 32) (end_text end) (end_stays end) out.ends.keys ends))
    (held_stays (word_label Stack) 262080 refl (omega arith))

-- the size
plural_one : (t : Bool) → is_one_line (cond t [] (codes "s")) ≡ true
plural_one true = refl
plural_one false = refl

count_one : (before what : List ℕ) (n : ℕ) → is_one_line before ≡ true → is_one_line what ≡ true → n < 2 ^ 32 → is_one_line (count_text before n what) ≡ true
count_one before what n h k small =
    let digits = digits_one (decimal n) (decimal_is_IsNumeral n (omega arith)).0.1 in
    both_lines (before ++ decimal n ++ what) (plural n) (both_lines (before ++ decimal n) what (both_lines before (decimal n) h digits) k)
    (plural_one (n == 1))

pub size_stays : (statements instructions words : ℕ) → statements < 2 ^ 32 → instructions < 2 ^ 32 → words < 2 ^ 32
    → Stays (size_text statements instructions words)
size_stays statements instructions words h i j =
    let second = count_text (codes ", ") instructions (codes " instruction") in
    let third = count_text (codes ", ") words (codes " data word") in
    let one = both_lines (count_text (codes "; ") statements (codes " statement") ++ second) third
    (both_lines (count_text (codes "; ") statements (codes " statement")) second (count_one (codes "; ") (codes " statement") statements refl refl h)
    (count_one (codes ", ") (codes " instruction") instructions refl refl i))
    (count_one (codes ", ") (codes " data word") words refl refl j) in
    comment_stays (count_text (codes " ") statements (codes " statement") ++ second ++ third) one
