-- What becomes of symbols while texts are read.
use Rattle.std.specs.Prelude.{ℕ, Bool, true, false, ◌≡◌, ◌⊎◌, not, ◌&&◌, ◌||◌, if◌then◌else◌, List, [], ◌∷◌, ◌++◌, length, take, Some, None, option_map, unwrap_or, slice_get, slice_set}
use Rattle.std.specs.Borrow.{Bor}
use Rattle.indexmap.specs.IndexMap.{IsEmpty}
use Rattle.cc_program.specs.declared.symbols.Meaning.{Meaning}
use Rattle.cc_program.specs.declared.symbols.Meaning.TheVariants.{Unknown}
use Rattle.cc_program.specs.declared.symbols.Symbol.{Symbol}
use Rattle.cc_program.specs.declared.symbols.Symbols.{Symbols}

-- no text has defined it so far
abbrev pub is_unknown : Meaning → Bool
is_unknown Unknown = true
is_unknown _ = false

-- a definition is no second one: the symbol is defined nowhere so far, or one of the two is weak
abbrev pub may_be_defined : Bool → Symbol → Bool
may_be_defined weak symbol = is_unknown symbol.meaning || symbol.weak || weak

abbrev pub may_define : List Symbol → ℕ → Bool → Bool
may_define symbols number weak = unwrap_or (option_map (may_be_defined weak) (slice_get symbols number)) false

-- the symbols, where the one with this number, if there is one, is what f makes of it
abbrev pub changed : (Symbol → Symbol) → ℕ → List Symbol → List Symbol
changed f number symbols = unwrap_or (option_map (λ s. slice_set symbols number (f s)) (slice_get symbols number)) symbols

-- it means this, unless it was defined before and does not give way
abbrev pub defined : Meaning → Bool → Symbol → Symbol
defined meaning weak symbol =
    if is_unknown symbol.meaning || (symbol.weak && not weak) then record symbol { meaning = meaning; weak = weak } else symbol

abbrev pub weakened : Symbol → Symbol
weakened symbol = if is_unknown symbol.meaning then record symbol { weak = true } else symbol

abbrev pub marked : Symbol → Symbol
marked symbol = record symbol { used = true }

abbrev pub described : ℕ → Symbol → Symbol
described datum symbol = record symbol { descriptor = Some datum }

-- a name that nothing defines or uses so far. The owner is 0 where texts share it
abbrev pub fresh : Bor (List ℕ) → ℕ → Symbol
fresh name owner = record { name = name; owner = owner; meaning = Unknown; weak = false; used = false; descriptor = None }

-- the symbols are those before, or those and this one after them
abbrev pub MayGain : Symbol → List Symbol → List Symbol → Type 0
MayGain symbol before after = (after ≡ before) ⊎ (after ≡ before ++ symbol ∷ [])

-- the symbols that were there are there
abbrev pub Extends : List Symbol → List Symbol → Type 0
Extends before after = take (length before) after ≡ before

-- no name is one of the current text alone
abbrev pub HasNoOwnNames : Symbols → Type 0
HasNoOwnNames symbols = IsEmpty symbols.own
