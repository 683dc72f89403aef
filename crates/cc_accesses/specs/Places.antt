-- The word of memory that a datum is in, and where in it.
use Rattle.std.specs.Prelude.{ℕ, nat_lt, Bool, false, not, ◌&&◌, ◌==◌, ◌%◌, [], ◌∷◌, Option}
use Rattle.std.specs.Int.{w32, cast_signed}
use Rattle.cc_lines.specs.declared.instruction.Width.{Width}
use Rattle.cc_lines.specs.declared.instruction.Width.TheVariants.{Half, Word}
use Rattle.cc_emit.specs.declared.line.Plain.{Plain}
use Rattle.cc_emit.specs.declared.line.Plain.TheVariants.{Asr, Load, Store}
use Rattle.cc_plan.specs.declared.plan.Place.{Place}
use Rattle.cc_plan.specs.declared.plan.Place.TheVariants.{Byte, Turned, Far}
use Rattle.cc_operations.specs.declared.between.TheConstants.{FIRST, SECOND}
use Rattle.cc_operations.specs.Operations.{lines}
use Rattle.cc_operations.specs.Numbers.{Put, instructions, followed_by, added}
use Rattle.cc_accesses.specs.declared.places.Part.{Part}
use Rattle.cc_accesses.specs.declared.places.Part.TheVariants as part
use Rattle.cc_accesses.specs.declared.places.TheConstants.{FIRST_WORD}

-- the register that holds a quarter of the address from which words are counted: r26 for a far datum
abbrev pub word_base : Place → ℕ
word_base (Byte base words byte) = base
word_base (Turned base words by) = base
word_base (Far base bytes) = SECOND

-- how many words after that it is
abbrev pub word_offset : Place → ℕ
word_offset (Byte base words byte) = words
word_offset (Turned base words by) = words
word_offset (Far base bytes) = 0

-- where in its word a datum begins: r1 holds a far address
abbrev pub part_of : Place → Part
part_of (Byte base words byte) = part.Byte byte
part_of (Turned base words by) = part.By by
part_of (Far base bytes) = part.By FIRST

-- a far address in r1
abbrev pub addressed : Option ℕ → Place → Put
addressed first (Far base bytes) = added first base bytes FIRST
addressed first place = instructions first []

-- and a quarter of it in r26
abbrev pub reached : Option ℕ → Place → Put
reached first (Far base bytes) = followed_by (added first base bytes FIRST) (lines (Asr FIRST 2 SECOND ∷ []))
reached first place = instructions first []

abbrev pub word_load : Place → ℕ → Plain
word_load place rd = Load (cast_signed w32 (word_offset place)) (word_base place) rd

abbrev pub word_store : Place → ℕ → Plain
word_store place rs = Store (cast_signed w32 (word_offset place)) (word_base place) rs

-- a known word below the first one that data may have
abbrev pub is_null : Place → Bool
is_null (Byte base words byte) = base == 0 && nat_lt words FIRST_WORD
is_null place = false

-- a datum at a known byte that is not at a multiple of its size
abbrev pub is_misaligned : Width → Place → Bool
is_misaligned (Half signed) (Byte base words byte) = not (byte % 2 == 0)
is_misaligned Word (Byte base words byte) = not (byte == 0)
is_misaligned width place = false
