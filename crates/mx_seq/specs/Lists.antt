-- Values that stand in a list.
use Rattle.std.specs.Prelude.{◌≡◌, List, length, slice_index_or}
use Rattle.mx_source.specs.declared.statement.Value.{Value}
use Rattle.mx_source.specs.declared.statement.Value.TheVariants.{Int}
use Rattle.mx_source.specs.Values.{Values}

-- what each place of a list holds; past its end 0
abbrev pub values_of : List Value → Values
values_of xs n = slice_index_or xs n (Int 0)

-- 0 everywhere
abbrev pub nothing : Values
nothing n = Int 0

-- 32 registers of which r0 is 0
pub record IsFile (xs : List Value) : Type 0 where
  pub count : length xs ≡ 32
  pub zero_first : slice_index_or xs 0 (Int 0) ≡ Int 0
