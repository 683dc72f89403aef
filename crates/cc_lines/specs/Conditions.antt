-- When a branch is taken.
use Rattle.std.specs.Prelude.{ℕ, Bool, not, ◌==◌, nat_lt, int_lt}
use Rattle.std.specs.Int.{w32, cast_signed}
use Rattle.cc_lines.specs.declared.instruction.Condition.{Condition}
use Rattle.cc_lines.specs.declared.instruction.Condition.TheVariants.{Equal, NotEqual, Less, NotLess, Greater, NotGreater, Lower, NotLower, Higher, NotHigher}

-- word a is less than word b, as signed numbers
abbrev pub is_less : ℕ → ℕ → Bool
is_less a b = int_lt (cast_signed w32 a) (cast_signed w32 b)

-- the condition holds of the words a and b
abbrev pub holds : Condition → ℕ → ℕ → Bool
holds Equal a b = a == b
holds NotEqual a b = not (a == b)
holds Less a b = is_less a b
holds NotLess a b = not (is_less a b)
holds Greater a b = is_less b a
holds NotGreater a b = not (is_less b a)
holds Lower a b = nat_lt a b
holds NotLower a b = not (nat_lt a b)
holds Higher a b = nat_lt b a
holds NotHigher a b = not (nat_lt b a)
