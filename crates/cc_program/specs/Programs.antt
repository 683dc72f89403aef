-- What is asked of a program.
use Rattle.std.specs.Prelude.{ℕ, Bool, false, ◌≡◌, ◌&&◌, leb, cond, List, [], length, Option, Some, option_map, unwrap_or, slice_get}
use Rattle.std.specs.Fn.{iterate}
use Rattle.std.specs.List.{between}
use Rattle.std.specs.Option.{option_and_then}
use Rattle.cc_rules.specs.declared.numbers.TheConstants.{LIMIT}
use Rattle.cc_program.specs.declared.item.Item.{Item}
use Rattle.cc_program.specs.declared.item.Function.{Function}
use Rattle.cc_program.specs.declared.program.Program.{Program}
use Rattle.cc_program.specs.declared.symbols.Meaning.{Meaning}
use Rattle.cc_program.specs.declared.symbols.Meaning.TheVariants.{Unknown, Function as FunctionMeaning, Place, Object, Alias, Limit}
use Rattle.cc_program.specs.declared.symbols.Symbol.{Symbol}
use Rattle.cc_program.specs.declared.symbols.TheConstants.{MOST_ALIASES}

-- the items of a function, if a program has them all
abbrev pub items_of : List Item → Function → List Item
items_of items f = cond (leb f.first f.end && leb f.end (length items)) (between f.first f.end items) []

-- ---- symbols, by their numbers

-- the mark `used` of the symbol's entry, if it has one
abbrev pub is_used : List Symbol → ℕ → Bool
is_used symbols number = unwrap_or (option_map (λ s. s.used) (slice_get symbols number)) false

-- what the symbol was defined as, which may be an alias
abbrev pub own_meaning : List Symbol → ℕ → Meaning
own_meaning symbols number = unwrap_or (option_map (λ s. s.meaning) (slice_get symbols number)) Unknown

-- the symbol that a symbol with this meaning is directly an alias of, or itself
abbrev pub alias_in : ℕ → Meaning → ℕ
alias_in number (Alias other) = other
alias_in number _ = number

abbrev pub alias_of : List Symbol → ℕ → ℕ
alias_of symbols number = alias_in number (own_meaning symbols number)

-- the symbol that its aliases lead to, of which at most MOST_ALIASES are followed
abbrev pub resolved : List Symbol → ℕ → ℕ
resolved symbols number = iterate (alias_of symbols) MOST_ALIASES number

-- what the symbol means, aliases followed
abbrev pub meaning_of : List Symbol → ℕ → Meaning
meaning_of symbols number = own_meaning symbols (resolved symbols number)

-- the datum that holds the place of the symbol
abbrev pub descriptor_of : List Symbol → ℕ → Option ℕ
descriptor_of symbols number = option_and_then (λ s. s.descriptor) (slice_get symbols number)

-- ---- addresses

-- where the datum with this number is, or 0 if there is none
abbrev pub datum_address : Program → Option ℕ → ℕ
datum_address p datum = unwrap_or (option_map (λ o. o.standing.address) (option_and_then (slice_get p.objects.items) datum)) 0

-- the datum that holds the place of a function
abbrev pub place_of : Program → ℕ → Option ℕ
place_of p number = option_and_then (λ f. descriptor_of p.symbols.list.items f.symbol) (slice_get p.functions.items number)

-- of a datum its own address, of a function or a label in one that of the datum that holds its place, and the end of memory; else 0
abbrev pub address_in : Program → ℕ → Meaning → ℕ
address_in p symbol (Object datum) = datum_address p (Some datum)
address_in p symbol (FunctionMeaning number) = datum_address p (place_of p number)
address_in p symbol (Place item function) = datum_address p (descriptor_of p.symbols.list.items symbol)
address_in p symbol Limit = LIMIT
address_in p symbol _ = 0

abbrev pub address_of : Program → ℕ → ℕ
address_of p number = address_in p (resolved p.symbols.list.items number) (meaning_of p.symbols.list.items number)

-- no item, function or datum was read
abbrev pub IsEmpty : Program → Type 0
IsEmpty p = (p.items.items ≡ []) × (p.functions.items ≡ []) × (p.objects.items ≡ [])
