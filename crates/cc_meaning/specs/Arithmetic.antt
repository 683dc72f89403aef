-- What instructions compute of words.
use Rattle.std.specs.Prelude.{ℕ, ◌+◌, ◌-◌, ◌*◌, ◌/◌, ◌%◌, ◌^◌, Bool, ◌==◌, nat_lt, if◌then◌else◌, bit_and, bit_or, bit_xor, int_div, int_rem, Result, Ok, Err}
use Rattle.std.specs.Int.{w32, w64, cast_signed, cast_unsigned, rotate_left}
use Rattle.cc_lines.specs.declared.instruction.Condition.{Condition}
use Rattle.cc_lines.specs.declared.instruction.Condition.TheVariants.{Less, Lower}
use Rattle.cc_lines.specs.declared.instruction.Operation.{Operation}
use Rattle.cc_lines.specs.declared.instruction.Operation.TheVariants as op
use Rattle.cc_lines.specs.declared.instruction.Shift.{Shift}
use Rattle.cc_lines.specs.declared.instruction.Shift.TheVariants as shift
use Rattle.cc_lines.specs.declared.instruction.Long.{Long}
use Rattle.cc_lines.specs.declared.instruction.Long.TheVariants.{Product, Quotient}
use Rattle.cc_lines.specs.Conditions.{holds}
use Rattle.cc_meaning.specs.declared.value.Value.{Value}
use Rattle.cc_meaning.specs.declared.value.Value.TheVariants.{Number}
use Rattle.cc_meaning.specs.declared.value.Why.{Why}
use Rattle.cc_meaning.specs.declared.value.Why.TheVariants.{ZeroDivision}
use Rattle.cc_meaning.specs.Values.{and_then, number_of}

-- a number modulo 2 ^ 32
abbrev pub word : ℕ → ℕ
word n = n % 2 ^ 32

abbrev pub truth : Bool → ℕ
truth b = if b then 1 else 0

-- ---- comparisons

-- numbers alone are compared
abbrev pub compared : Condition → Value → Value → Result Bool Why
compared c a b = and_then (number_of a) (λ x. and_then (number_of b) (λ y. Ok (holds c x y)))

-- ---- operations

abbrev pub operated : Operation → ℕ → ℕ → ℕ
operated op.Add a b = word (a + b)
operated op.Sub a b = word (a + (2 ^ 32 - b))
operated op.And a b = bit_and a b
operated op.Or a b = bit_or a b
operated op.Xor a b = bit_xor a b
operated op.Nor a b = 2 ^ 32 - 1 - bit_or a b
operated op.Less a b = truth (holds Less a b)
operated op.Lower a b = truth (holds Lower a b)

-- an operation on two values
abbrev pub computed : Operation → Value → Value → Result Value Why
computed o a b = and_then (number_of a) (λ x. and_then (number_of b) (λ y. Ok (Number (operated o x y))))

-- shifted right by n and filled with bit 31
abbrev pub arithmetic : ℕ → ℕ → ℕ
arithmetic a n = if nat_lt a (2 ^ 31) then a / 2 ^ n else a / 2 ^ n + (2 ^ 32 - 2 ^ (32 - n))

-- a word shifted by n, which is at most 31
abbrev pub shifted_by : Shift → ℕ → ℕ → ℕ
shifted_by shift.Left a n = word (a * 2 ^ n)
shifted_by shift.Right a n = a / 2 ^ n
shifted_by shift.Arithmetic a n = arithmetic a n
shifted_by shift.Rotate a n = rotate_left w32 a n

-- a shift takes the low five bits of its count
abbrev pub shifted : Shift → Value → Value → Result Value Why
shifted s a by = and_then (number_of a) (λ x. and_then (number_of by) (λ n. Ok (Number (shifted_by s x (n % 32)))))

-- ---- products and quotients

-- a word with its sign, or without, in 64 bits
abbrev pub widened : Bool → ℕ → ℕ
widened signed a = if signed then cast_unsigned w64 (cast_signed w32 a) else a

abbrev pub product : Bool → ℕ → ℕ → ℕ
product signed a b = (widened signed a * widened signed b) % 2 ^ 64

-- a quotient is rounded to 0, and a remainder has the sign of the dividend
abbrev pub quotient : Bool → ℕ → ℕ → ℕ
quotient signed a b = if signed then cast_unsigned w32 (int_div (cast_signed w32 a) (cast_signed w32 b)) else a / b

abbrev pub remainder : Bool → ℕ → ℕ → ℕ
remainder signed a b = if signed then cast_unsigned w32 (int_rem (cast_signed w32 a) (cast_signed w32 b)) else a % b

-- LO and HI after a product
abbrev pub halves : ℕ → ℕ × ℕ
halves p = (p % 2 ^ 32, p / 2 ^ 32)

-- LO and HI after a product or a quotient, which MIPS leaves undefined where the divisor is 0
abbrev pub multiplied : Long → ℕ → ℕ → Result (ℕ × ℕ) Why
multiplied (Product signed) a b = Ok (halves (product signed a b))
multiplied (Quotient signed) a b = if b == 0 then Err ZeroDivision else Ok (quotient signed a b, remainder signed a b)
