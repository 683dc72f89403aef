-- Loads and stores, big-endian: what they take from a word of memory, and what they leave in it.
use Rattle.std.specs.Prelude.{ℕ, ◌+◌, ◌-◌, ◌*◌, ◌%◌, ◌^◌, Bool, ◌&&◌, ◌==◌, nat_le, if◌then◌else◌, Option, Some, None, Result, Ok, Err}
use Rattle.cc_lines.specs.declared.instruction.Width.{Width}
use Rattle.cc_lines.specs.declared.instruction.Width.TheVariants.{Byte, Half, Word, Left, Right}
use Rattle.cc_meaning.specs.declared.value.Bytes.{Bytes}
use Rattle.cc_meaning.specs.declared.value.Value.{Value}
use Rattle.cc_meaning.specs.declared.value.Value.TheVariants.{Number}
use Rattle.cc_meaning.specs.declared.value.Why.{Why}
use Rattle.cc_meaning.specs.declared.value.Why.TheVariants.{Misaligned}
use Rattle.cc_meaning.specs.Values.{and_then, unspecified, value_of, bytes_of, known_bytes}

-- one of four, by a number from 0 to 3
abbrev pub select : {A : Type 0} → ℕ → A → A → A → A → A
select k a b c d = if k == 0 then a else if k == 1 then b else if k == 2 then c else d

abbrev pub four : Option ℕ → Option ℕ → Option ℕ → Option ℕ → Bytes
four a b c d = record { first = a; second = b; third = c; fourth = d }

-- byte k of a word, from the most significant one on
abbrev pub byte_at : Bytes → ℕ → Option ℕ
byte_at w k = select k w.first w.second w.third w.fourth

abbrev pub with_byte : Bytes → ℕ → Option ℕ → Bytes
with_byte w k b =
    select k (four b w.second w.third w.fourth) (four w.first b w.third w.fourth) (four w.first w.second b w.fourth) (four w.first w.second w.third b)

-- lwl: the bytes of a word from byte k on come first, and the last bytes of the register stay
abbrev pub left_loaded : Bytes → ℕ → Bytes → Bytes
left_loaded w k r =
    select k w (four w.second w.third w.fourth r.fourth) (four w.third w.fourth r.third r.fourth) (four w.fourth r.second r.third r.fourth)

-- lwr: the first bytes of the register stay, and the bytes of a word up to byte k come last
abbrev pub right_loaded : Bytes → ℕ → Bytes → Bytes
right_loaded w k r =
    select k (four r.first r.second r.third w.first) (four r.first r.second w.first w.second) (four r.first w.first w.second w.third) w

-- swl: the first bytes of the register go to the bytes of a word from byte k on
abbrev pub left_stored : Bytes → ℕ → Bytes → Bytes
left_stored w k r =
    select k r (four w.first r.first r.second r.third) (four w.first w.second r.first r.second) (four w.first w.second w.third r.first)

-- swr: the last bytes of the register go to the bytes of a word up to byte k
abbrev pub right_stored : Bytes → ℕ → Bytes → Bytes
right_stored w k r =
    select k (four r.fourth w.second w.third w.fourth) (four r.third r.fourth w.third w.fourth) (four r.second r.third r.fourth w.fourth) r

-- a number of so many bits as a word, where its highest bit is a sign or is none
abbrev pub extended : Bool → ℕ → ℕ → ℕ
extended signed bits n = if signed && nat_le (2 ^ (bits - 1)) n then n + (2 ^ 32 - 2 ^ bits) else n

abbrev pub byte_value : Bool → Option ℕ → Value
byte_value signed (Some b) = Number (extended signed 8 b)
byte_value signed None = unspecified

abbrev pub half_value : Bool → Option ℕ → Option ℕ → Value
half_value signed (Some a) (Some b) = Number (extended signed 16 (a * 256 + b))
half_value signed _ _ = unspecified

-- the half of a word from byte 0 or byte 2 on
abbrev pub half_at : Bool → Bytes → ℕ → Value
half_at signed w k = if k == 0 then half_value signed w.first w.second else half_value signed w.third w.fourth

-- the lower half of a register in that half of a word
abbrev pub with_half : Bytes → ℕ → Bytes → Bytes
with_half w k r = if k == 0 then four r.third r.fourth w.third w.fourth else four w.first w.second r.third r.fourth

abbrev pub if_aligned : Bool → Result Value Why → Result Value Why
if_aligned aligned result = if aligned then result else Err Misaligned

-- what a load from byte k of a word leaves in a register
abbrev pub loaded : Width → ℕ → Value → Value → Result Value Why
loaded Word k w r = if_aligned (k == 0) (Ok w)
loaded (Half signed) k w r = if_aligned (k % 2 == 0) (and_then (bytes_of w) (λ b. Ok (half_at signed b k)))
loaded (Byte signed) k w r = and_then (bytes_of w) (λ b. Ok (byte_value signed (byte_at b k)))
loaded Left k w r = and_then (bytes_of w) (λ b. Ok (value_of (left_loaded b k (known_bytes r))))
loaded Right k w r = and_then (bytes_of w) (λ b. Ok (value_of (right_loaded b k (known_bytes r))))

-- what a store of a register to byte k of a word leaves in that word
abbrev pub stored : Width → ℕ → Value → Value → Result Value Why
stored Word k w r = if_aligned (k == 0) (Ok r)
stored (Half signed) k w r = if_aligned (k % 2 == 0) (and_then (bytes_of r) (λ b. Ok (value_of (with_half (known_bytes w) k b))))
stored (Byte signed) k w r = and_then (bytes_of r) (λ b. Ok (value_of (with_byte (known_bytes w) k b.fourth)))
stored Left k w r = and_then (bytes_of r) (λ b. Ok (value_of (left_stored (known_bytes w) k b)))
stored Right k w r = and_then (bytes_of r) (λ b. Ok (value_of (right_stored (known_bytes w) k b)))
