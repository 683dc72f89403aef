-- Where data are, by the words that registers hold: the word and the byte of a place. The address of a word is a quarter of that of a byte.
use Rattle.std.specs.Prelude.{◌≡◌, ℕ, ◌+◌, ◌*◌, ◌/◌, ◌%◌, ◌^◌, ◌-◌, ◌<◌, ◌==◌, Bool, true, not, nat_lt, nat_le, ◌&&◌, ◌||◌, if◌then◌else◌, Option, Some, None}
use Rattle.cc_rules.specs.declared.numbers.TheConstants.{LIMIT}
use Rattle.cc_plan.specs.declared.knowledge.TheConstants.{STACK_WORDS, FRAME_WORDS}
use Rattle.cc_plan.specs.declared.plan.Place.{Place}
use Rattle.cc_plan.specs.declared.plan.Place.TheVariants.{Byte, Turned, Far}

-- the words that registers hold, by their numbers
abbrev pub Words : Type 0
Words = ℕ → ℕ

-- a quarter of a signed word, rounded down
abbrev pub quarter : ℕ → ℕ
quarter w = if nat_lt w (2 ^ 31) then w / 4 else w / 4 + 3 * 2 ^ 30

-- the sum of two words
abbrev pub sum : ℕ → ℕ → ℕ
sum a b = (a + b) % 2 ^ 32

-- a register that compiled code may name, but r0: the others are the translation's
abbrev pub is_named : ℕ → Bool
is_named n = (nat_lt 1 n && nat_lt n 22) || (nat_lt 28 n && nat_lt n 32)

-- a register that compiled code may read
abbrev pub is_read : ℕ → Bool
is_read n = n == 0 || is_named n

-- r0 is 0, and all registers hold words
pub record AreWords (words : Words) : Type 0 where
  pub zero : words 0 ≡ 0
  pub small : (n : ℕ) → words n < 2 ^ 32

-- a quarter of some signed word
abbrev pub is_quarter : ℕ → Bool
is_quarter q = nat_lt q (2 ^ 29) || nat_le (2 ^ 32 - 2 ^ 29) q

-- a word is so many bytes from four times a quarter that a register holds
pub record IsFrom (words : Words) (base bytes w : ℕ) : Type 0 where
  pub quarter : is_quarter (words base) ≡ true
  pub is : w ≡ (4 * words base + bytes) % 2 ^ 32

-- the stack pointer, and in functions that have one the frame pointer, are always divided by 4
abbrev pub is_always_divided : Bool → ℕ → Bool
is_always_divided points n = n == 29 || (points && n == 30)

-- a register that takes quotients of pointers: one more in functions without a frame pointer
abbrev pub is_quotient : Bool → ℕ → Bool
is_quotient points n = n == 22 || n == 27 || (not points && n == FRAME_WORDS)

-- a register that holds quarters of others
abbrev pub is_base : ℕ → Bool
is_base n = n == 22 || n == 27 || n == STACK_WORDS || n == FRAME_WORDS

pub record IsDivided (points : Bool) (words : Words) : Type 0 where
  pub are : AreWords words
  pub stack : IsFrom words STACK_WORDS 0 (words 29)
  pub frame : points ≡ true → IsFrom words FRAME_WORDS 0 (words 30)

abbrev pub word_at : Words → Place → ℕ
word_at words (Byte base count byte) = sum (words base) count
word_at words (Turned base count by) = sum (words base) count
word_at words (Far base bytes) = quarter (sum (words base) bytes)

abbrev pub byte_at : Words → Place → ℕ
byte_at words (Byte base count byte) = byte
byte_at words (Turned base count by) = words by % 4
byte_at words (Far base bytes) = sum (words base) bytes % 4

-- a place is that of the byte with an address, if there is one in the memory
abbrev pub IsAt : Words → Place → ℕ → Type 0
IsAt words place address = address < LIMIT → (word_at words place ≡ address / 4) × (byte_at words place ≡ address % 4)

-- registers after one of them was divided by 4, and another took the quotient
abbrev pub quartered : Words → ℕ → ℕ → Words
quartered words from into n = if n == into then quarter (words from) else words n

abbrev pub divided : Words → Option (ℕ × ℕ) → Words
divided words None = words
divided words (Some (from, into)) = quartered words from into
