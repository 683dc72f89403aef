-- What the numbers of a cache come to.
use Rattle.std.specs.Prelude.{◌≡◌, ◌⊎◌, ℕ, ◌+◌, ◌-◌, ◌*◌, ◌/◌, ◌^◌, min, ◌==◌, ◌&&◌, nat_lt, if◌then◌else◌, List, [], ◌∷◌}
use Rattle.std.specs.List.{flat_map}
use Rattle.lab_terms.specs.declared.geometry.Geometry.{Geometry}
use Rattle.lab_terms.specs.declared.geometry.TheConstants.{SHIPPED_CACHE}

-- a number, as far as 64 bits hold it
abbrev pub saturated : ℕ → ℕ
saturated n = min n (2 ^ 64 - 1)

-- how many words a cache holds
abbrev pub words_in : Geometry → ℕ
words_in g = saturated (saturated (g.sets * g.ways) * g.line)

-- how many cycles so many fetches take of which so many miss
abbrev pub cycles_with : Geometry → ℕ → ℕ → ℕ
cycles_with g fetches misses = saturated (fetches + saturated (misses * g.penalty))

-- a number, as far as 32 bits hold it
abbrev pub saturated_32 : ℕ → ℕ
saturated_32 n = min n (2 ^ 32 - 1)

-- the cache of so many words whose sets have so many, where these make whole sets, and at least one
abbrev pub whole : ℕ → ℕ → ℕ → ℕ → ℕ → ℕ → List Geometry
whole size row ways line brings penalty =
    if nat_lt 0 row && nat_lt 0 (size / row) && size / row * row == size
    then record { sets = size / row; ways = ways; line = line; brings = brings; penalty = penalty } ∷ []
    else []

-- those of so many words, with sets of each of these numbers of lines
abbrev pub of_size : ℕ → List ℕ → ℕ → ℕ → ℕ → List Geometry
of_size size numbers line brings penalty = flat_map (λ ways. whole size (saturated_32 (ways * line)) ways line brings penalty) numbers

-- the caches that are looked at: those of each size
abbrev pub looked_at : List ℕ → List ℕ → ℕ → ℕ → ℕ → List Geometry
looked_at sizes numbers line brings penalty = flat_map (λ size. of_size size numbers line brings penalty) sizes

-- just these, or the cache of the machine before them
abbrev pub AreLookedAt : List Geometry → List Geometry → Type 0
AreLookedAt some all = (all ≡ some) ⊎ (all ≡ SHIPPED_CACHE ∷ some)
