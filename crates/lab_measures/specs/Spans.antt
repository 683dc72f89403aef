-- The cycles in which requests come.
use Rattle.std.specs.Prelude.{ℕ, zero, suc, ◌+◌, ◌-◌, ◌*◌, ◌/◌, ◌%◌, ◌==◌, cond, ltb, List, [], ◌∷◌, ◌++◌, map}
use Rattle.std.specs.List.{filter}
use Rattle.lab_measures.specs.declared.cycles.Span.{Span}

-- how many cycles there are from the first of a span to its last, both included
abbrev pub apart_in : Span → ℕ
apart_in span = span.to + 1 - span.from

-- those of a span among the first n cycles from its first on
abbrev pub cycles_among : Span → ℕ → List ℕ
cycles_among span zero = []
cycles_among span (suc n) = cycles_among span n ++ cond (n % span.step == 0) ((span.from + n) ∷ []) []

-- the cycles of a span, in order
abbrev pub cycles_in : Span → List ℕ
cycles_in span = cycles_among span (apart_in span)

-- how many pairs n cycles make
abbrev pub pairs_of : ℕ → ℕ
pairs_of n = n * (n - 1) / 2

-- a cycle with each of others that is later
abbrev pub pairs_with : ℕ → List ℕ → List (List ℕ)
pairs_with first others = map (λ second. first ∷ second ∷ []) (filter (λ second. ltb first second) others)

-- each two of some cycles of which the one behind is later, by the one before, and then by the one behind
abbrev pub rising_pairs : List ℕ → List (List ℕ)
rising_pairs [] = []
rising_pairs (first ∷ others) = pairs_with first others ++ rising_pairs others
