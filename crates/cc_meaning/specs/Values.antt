-- What a register or a word of memory holds: a number, a code address (a return address, or a label in a jump table), or a word with
-- bytes that are not specified.
use Rattle.std.specs.Prelude.{ℕ, ◌+◌, ◌*◌, ◌/◌, ◌%◌, ◌^◌, Option, Some, None, Result, Ok, Err}
use Rattle.cc_meaning.specs.declared.value.Bytes.{Bytes}
use Rattle.cc_meaning.specs.declared.value.Value.{Value}
use Rattle.cc_meaning.specs.declared.value.Value.TheVariants.{Number, Code, Partial}
use Rattle.cc_meaning.specs.declared.value.Why.{Why}
use Rattle.cc_meaning.specs.declared.value.Why.TheVariants.{CodeOperand, CodeByte, Unspecified, NotCode}

-- what is computed of a result, unless that is a reason why there is none
abbrev pub and_then : {A B : Type 0} → Result A Why → (A → Result B Why) → Result B Why
and_then (Ok a) f = f a
and_then (Err why) f = Err why

-- a word of which nothing is specified
abbrev pub no_bytes : Bytes
no_bytes = record { first = None; second = None; third = None; fourth = None }

abbrev pub unspecified : Value
unspecified = Partial no_bytes

-- the bytes of a number, most significant first
abbrev pub word_bytes : ℕ → Bytes
word_bytes n = record {
  first = Some (n / 2 ^ 24 % 256);
  second = Some (n / 2 ^ 16 % 256);
  third = Some (n / 2 ^ 8 % 256);
  fourth = Some (n % 256);
}

-- the number that four bytes are, if all are specified
abbrev pub word_of : Option ℕ → Option ℕ → Option ℕ → Option ℕ → Option ℕ
word_of (Some a) (Some b) (Some c) (Some d) = Some ((a * 256 + b) * 65536 + (c * 256 + d))
word_of _ _ _ _ = None

abbrev pub value_with : Option ℕ → Bytes → Value
value_with (Some n) bytes = Number n
value_with None bytes = Partial bytes

-- the value that four bytes are
abbrev pub value_of : Bytes → Value
value_of bytes = value_with (word_of bytes.first bytes.second bytes.third bytes.fourth) bytes

-- the bytes of a value; a code address has none
abbrev pub bytes_of : Value → Result Bytes Why
bytes_of (Number n) = Ok (word_bytes n)
bytes_of (Code item) = Err CodeByte
bytes_of (Partial bytes) = Ok bytes

-- what is known of the bytes of a value where others replace some of them: of a code address nothing
abbrev pub known_bytes : Value → Bytes
known_bytes (Number n) = word_bytes n
known_bytes (Code item) = no_bytes
known_bytes (Partial bytes) = bytes

-- the number that an operation takes
abbrev pub number_of : Value → Result ℕ Why
number_of (Number n) = Ok n
number_of (Code item) = Err CodeOperand
number_of (Partial bytes) = Err Unspecified

-- the item that a jump goes to
abbrev pub code_of : Value → Result ℕ Why
code_of (Code item) = Ok item
code_of _ = Err NotCode
