-- The lines of loads of words, and of bytes and halves, which are shifted from the top of a word.
use Rattle.std.specs.Prelude.{ℕ, ◌*◌, Bool, cond, ◌||◌, ◌==◌, List, [], ◌∷◌, ◌++◌, Option}
use Rattle.cc_lines.specs.declared.instruction.Shift.{Shift}
use Rattle.cc_lines.specs.declared.instruction.Shift.TheVariants.{Left, Right, Arithmetic}
use Rattle.cc_emit.specs.declared.line.Computed.TheVariants.{Rotlb}
use Rattle.cc_emit.specs.declared.line.Plain.{Plain}
use Rattle.cc_emit.specs.declared.line.Plain.TheVariants.{Compute}
use Rattle.cc_plan.specs.declared.plan.Place.{Place}
use Rattle.cc_operations.specs.declared.between.TheConstants.{SECOND}
use Rattle.cc_operations.specs.Operations.{lines, shifted}
use Rattle.cc_operations.specs.Numbers.{Put, followed_by}
use Rattle.cc_accesses.specs.declared.places.Part.{Part}
use Rattle.cc_accesses.specs.declared.places.Part.TheVariants.{Byte, By}
use Rattle.cc_accesses.specs.Places.{part_of, reached, word_load, word_store}

-- a word; the link that a function saved is cleared in memory after it
abbrev pub word_loaded : Option ℕ → Place → ℕ → Bool → Put
word_loaded first place rd is_link =
    followed_by (reached first place) (lines (word_load place rd ∷ cond is_link (word_store place 0 ∷ []) []))

-- the register that takes the word of a part: rd, unless that is r0 or tells where the part is
abbrev pub part_register : Part → ℕ → ℕ
part_register (Byte byte) rd = rd
part_register (By by) rd = cond (rd == by || rd == 0) SECOND rd

-- the part comes to the top of its word
abbrev pub at_top : Part → ℕ → List Plain
at_top (Byte byte) word = shifted Left word word (byte * 8)
at_top (By by) word = Compute Rotlb word by word ∷ []

-- a number keeps its sign
abbrev pub down : Bool → Shift
down signed = cond signed Arithmetic Right

-- the part goes down from the top, by so many bits as the word has more
abbrev pub part_loaded : Option ℕ → Place → ℕ → Bool → ℕ → Put
part_loaded first place rd signed count =
    let word = part_register (part_of place) rd in
    followed_by (reached first place)
    (lines (word_load place word ∷ []) ++ (lines (at_top (part_of place) word) ++ lines (shifted (down signed) rd word count)))
