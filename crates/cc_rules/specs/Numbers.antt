-- Numbers of the translation.
use Rattle.std.specs.Prelude.{ℕ, ◌+◌, ◌-◌, ◌%◌, ◌^◌, min, max, cond, eqb, leb, Option, Some, None}

-- a number, as far as 64 bits hold it
abbrev pub saturated : ℕ → ℕ
saturated n = min n (2 ^ 64 - 1)

-- an address itself where it is a multiple, else so much more that it is one
abbrev pub aligned : ℕ → ℕ → ℕ
aligned at align = cond (eqb (at % max align 1) 0) at (saturated (at + (max align 1 - at % max align 1)))

-- the number that is kept as one more, where 0 keeps none
abbrev pub kept_number : ℕ → Option ℕ
kept_number kept = cond (eqb kept 0) None (Some (kept - 1))

-- where an item stands in a function, if it does not stand before it
abbrev pub index_within : ℕ → ℕ → Option ℕ
index_within first item = cond (leb first item) (Some (item - first)) None

-- how many words a line holds with one more, if it has room for it
abbrev pub words_with : ℕ → Option ℕ
words_with count = cond (leb 8 count) None (Some (count + 1))
