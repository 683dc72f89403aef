-- Registers and data that hold values: words, or places of code.
use Rattle.std.specs.Prelude.{ℕ, Bool, true, false, cond, eqb}
use Rattle.mx_isa.specs.Words.{Words}
use Rattle.mx_source.specs.declared.statement.Value.{Value}
use Rattle.mx_source.specs.declared.statement.Value.TheVariants.{Int, Code}

-- what each number holds
abbrev pub Values : Type 0
Values = ℕ → Value

abbrev pub put_value : Values → ℕ → Value → Values
put_value f k v n = cond (eqb n k) v (f n)

-- a register's value, where r0 is always 0
abbrev pub value_in : Values → ℕ → Value
value_in f n = cond (eqb n 0) (Int 0) (f n)

-- a register is written; r0 is not
abbrev pub write_value : Values → ℕ → Value → Values
write_value f d v n = cond (eqb d 0) (f n) (put_value f d v n)

abbrev pub is_code : Value → Bool
is_code (Int word) = false
is_code (Code i) = true

-- the word of a value; a place of code has none
abbrev pub word_in : Value → ℕ
word_in (Int word) = word
word_in (Code i) = 0

abbrev pub words_in : Values → Words
words_in f n = word_in (f n)

-- a value that is passed on: a place of code as it is, and for a word the word that was computed
abbrev pub passed_on : Value → ℕ → Value
passed_on (Int word) computed = Int computed
passed_on (Code i) computed = Code i
