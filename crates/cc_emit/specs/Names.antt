-- Names of symbols in a source.
use Rattle.std.specs.Prelude.{ℕ, Bool, cond, ◌==◌, nat_eq, List, [], ◌∷◌, ◌++◌, drop, codes, decimal, slice_get, option_map, unwrap_or}
use Rattle.std.specs.List.{flat_map, starts_with}
use Rattle.cc_lines.specs.Numbered.{is_numbered}
use Rattle.cc_program.specs.declared.symbols.Symbol.{Symbol}
use Rattle.cc_program.specs.Programs.{resolved}

-- a byte of a name: a source has no `$`
abbrev pub letter : ℕ → List ℕ
letter b = cond (b == 36) (codes ".S.") (b ∷ [])

abbrev pub letters : List ℕ → List ℕ
letters name = flat_map letter name

-- a name that the compiler made begins with a `$`
abbrev pub is_made : List ℕ → Bool
is_made name = starts_with nat_eq name (36 ∷ [])

-- the number of the text that a name belongs to, if it belongs to one
abbrev pub owner_text : ℕ → List ℕ
owner_text owner = cond (owner == 0) [] (codes ".." ++ decimal owner)

-- a name of C is preceded by a `_`, a label that is a number by `_.n`, and a name that the compiler made has no `$` in front
abbrev pub owned_name : List ℕ → ℕ → List ℕ
owned_name name owner =
    cond (is_numbered name) (codes "_.n" ++ letters name ++ codes "." ++ decimal owner)
    (cond (is_made name) (letters (drop 1 name) ++ codes "." ++ decimal owner)
    (codes "_" ++ letters name ++ owner_text owner))

-- the name of the symbol that a symbol is an alias of, or of itself
abbrev pub symbol_text : List Symbol → ℕ → List ℕ
symbol_text symbols number =
    unwrap_or (option_map (λ s. owned_name s.name.now s.owner) (slice_get symbols (resolved symbols number))) []
