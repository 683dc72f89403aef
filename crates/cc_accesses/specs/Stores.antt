-- The lines of stores of words, and of bytes and halves, which are inserted into the word that is there.
use Rattle.std.specs.Prelude.{ℕ, ◌+◌, ◌-◌, ◌*◌, ◌%◌, cond, ◌==◌, List, [], ◌∷◌, ◌++◌, Option}
use Rattle.cc_lines.specs.declared.instruction.Shift.TheVariants.{Rotate}
use Rattle.cc_emit.specs.declared.line.Computed.TheVariants.{Sub, Rotlb}
use Rattle.cc_emit.specs.declared.line.Line.{Line}
use Rattle.cc_emit.specs.declared.line.Plain.{Plain}
use Rattle.cc_emit.specs.declared.line.Plain.TheVariants.{Compute, Sh}
use Rattle.cc_plan.specs.declared.plan.Place.{Place}
use Rattle.cc_operations.specs.declared.between.TheConstants.{FIRST, SECOND, THIRD}
use Rattle.cc_operations.specs.Operations.{lines, shifted}
use Rattle.cc_operations.specs.Numbers.{Put, followed_by}
use Rattle.cc_accesses.specs.declared.places.Part.{Part}
use Rattle.cc_accesses.specs.declared.places.Part.TheVariants.{Byte, By}
use Rattle.cc_accesses.specs.Places.{part_of, word_base, reached, word_load, word_store}

abbrev pub word_stored : Option ℕ → Place → ℕ → Put
word_stored first place rs = followed_by (reached first place) (lines (word_store place rs ∷ []))

-- how many bits of a word are before a byte
abbrev pub bits_before : ℕ → ℕ
bits_before byte = byte % 4 * 8

-- a word is turned until the bits to replace are its lowest, which leave it as the new ones come in at its top, and is turned back
abbrev pub inserted_at : ℕ → ℕ → ℕ → ℕ → List Line
inserted_at word rs byte bits =
    lines (shifted Rotate word word (bits + bits_before byte))
    ++ (lines (Sh word rs bits word ∷ []) ++ lines (shifted Rotate word word (32 - bits_before byte)))

-- the same of a byte where a register tells it: it is turned to the top and leaves, and r1, which has -by, turns the word back
abbrev pub byte_inserted : ℕ → ℕ → ℕ → List Plain
byte_inserted word rs by =
    Compute Rotlb word by word ∷ Sh 0 word 24 word ∷ Sh word rs 8 word ∷ Compute Sub 0 by FIRST ∷ Compute Rotlb word FIRST word ∷ []

-- and of a half, which begins at byte 0 or 2: the same turn again turns the word back
abbrev pub half_inserted : ℕ → ℕ → ℕ → List Plain
half_inserted word rs by =
    Compute Rotlb word by word ∷ Sh 0 word 16 word ∷ Sh word rs 16 word ∷ Compute Rotlb word by word ∷ []

abbrev pub inserted : Part → ℕ → ℕ → ℕ → List Line
inserted (Byte byte) word rs bits = inserted_at word rs byte bits
inserted (By by) word rs bits = lines (cond (bits == 8) (byte_inserted word rs by) (half_inserted word rs by))

-- the register that takes the word: r26, unless the store needs that
abbrev pub word_register : ℕ → ℕ
word_register base = cond (base == SECOND) THIRD SECOND

abbrev pub part_stored : Option ℕ → Place → ℕ → ℕ → Put
part_stored first place rs bits =
    let word = word_register (word_base place) in
    followed_by (reached first place)
    (lines (word_load place word ∷ []) ++ (inserted (part_of place) word rs bits ++ lines (word_store place word ∷ [])))
