use Rattle.std.proofs.Common.{◌≡◌, ◌^◌, take}
use Rattle.std.specs.Prelude.{min}
use Rattle.std.specs.Str.Parse.{digits_value}
use Rattle.mx_lex.proofs.numbers.value_of.Given as goal

-- the value of the digits so far, up to the greatest
abbrev pub invariant-loop-digit : goal.invariant-loop-digit
invariant-loop-digit l = l.value ≡ min (digits_value l.base (take l.digit-index l.digits)) (2 ^ 33)
