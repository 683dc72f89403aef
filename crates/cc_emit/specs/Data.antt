-- The text of the data that the translation adds.
use Rattle.std.specs.Prelude.{ℕ, zero, suc, ◌+◌, ◌%◌, ◌^◌, Bool, cond, ◌||◌, List, [], ◌∷◌, ◌++◌, codes, decimal, Option, Some, None}
use Rattle.std.specs.List.{flat_map}
use Rattle.cc_lines.specs.declared.instruction.Shift.{Shift}
use Rattle.cc_lines.specs.declared.instruction.Shift.TheVariants.{Left, Right, Arithmetic, Rotate}
use Rattle.cc_emit.specs.declared.line.Word.{Word}
use Rattle.cc_emit.specs.declared.line.Word.TheVariants.{Number, End, Stack, Shifts, Mask as MaskWord}
use Rattle.cc_emit.specs.declared.line.Mask.{Mask}
use Rattle.cc_emit.specs.declared.line.Mask.TheVariants.{LoadLeft, LoadRight, StoreLeft, StoreRight}
use Rattle.cc_emit.specs.declared.output.Output.{Output}
use Rattle.cc_emit.specs.declared.line.Routine.{Routine}
use Rattle.cc_emit.specs.declared.line.Routine.TheVariants.{ShiftLeft, ShiftRight, ShiftArithmetic, RotateLeft, SignedProduct, SignedQuotient}
use Rattle.cc_emit.specs.Labels.{routine_label, mask_words}
use Rattle.cc_emit.specs.Needs.{has_routine, has_mask}
use Rattle.cc_emit.specs.Statements.{word_label}

-- the shift that a routine is for
abbrev pub shift_of : Routine → Option Shift
shift_of ShiftLeft = Some Left
shift_of ShiftRight = Some Right
shift_of ShiftArithmetic = Some Arithmetic
shift_of RotateLeft = Some Rotate
shift_of _ = None

-- a word on a line of its own
abbrev pub word_line : ℕ → List ℕ
word_line word = codes "        .word " ++ decimal word ++ codes "\n"

-- a word that the translation adds, behind its label
abbrev pub held_text : Word → ℕ → List ℕ
held_text label value = word_label label ++ codes ": .word " ++ decimal value ++ codes "\n"

-- the table of a shift: the place of its routine for each count from 0 to 31
abbrev pub shifted_line : Routine → ℕ → List ℕ
shifted_line which count = codes "        .word " ++ (routine_label which ++ codes ".n" ++ decimal count) ++ codes "\n"

abbrev pub shifted_lines : Routine → ℕ → List ℕ
shifted_lines which zero = []
shifted_lines which (suc count) = shifted_lines which count ++ shifted_line which count

abbrev pub shift_table : Routine → Shift → List ℕ
shift_table which op = word_label (Shifts op) ++ codes ":\n" ++ shifted_lines which 32

abbrev pub table_of : Routine → Option Shift → List ℕ
table_of which None = []
table_of which (Some op) = shift_table which op

-- the table of a routine, if it is among those that are called
abbrev pub routine_table : List Routine → Routine → List ℕ
routine_table called which = cond (has_routine which called) (table_of which (shift_of which)) []

-- a table of masks, if it is among those that are read
abbrev pub mask_table : List Mask → Mask → List ℕ
mask_table read mask = cond (has_mask mask read) (word_label (MaskWord mask) ++ codes ":\n" ++ flat_map word_line (mask_words mask)) []

-- the words that products and quotients of signed numbers keep
abbrev pub keeps_words : List Routine → Bool
keeps_words called = has_routine SignedProduct called || has_routine SignedQuotient called

abbrev pub kept_text : List Routine → List ℕ
kept_text called = cond (keeps_words called) (codes "m.link: .word 0\nm.x: .word 0\nm.y: .word 0\n") []

-- a number that statements load, and an address after all data, which end at a byte
abbrev pub number_text : ℕ → List ℕ
number_text n = held_text (Number n) n

abbrev pub end_text : ℕ → ℕ → List ℕ
end_text end addend = held_text (End addend) ((end + addend) % 2 ^ 32)

abbrev pub all_shifts : List Routine
all_shifts = ShiftLeft ∷ ShiftRight ∷ ShiftArithmetic ∷ RotateLeft ∷ []

abbrev pub all_masks : List Mask
all_masks = LoadLeft ∷ LoadRight ∷ StoreLeft ∷ StoreRight ∷ []

-- all that the translation adds. The stack begins 64 bytes below the end of the memory
abbrev pub added_text : Output → ℕ → List ℕ
added_text out end =
    flat_map (routine_table out.routines.items) all_shifts ++ flat_map (mask_table out.masks.items) all_masks ++ kept_text out.routines.items
    ++ flat_map number_text out.numbers.keys ++ flat_map (end_text end) out.ends.keys ++ held_text Stack 262080

abbrev pub front_text : Bool → List ℕ
front_text input = cond input (codes ".input\n") [] ++ codes ".data\n"
