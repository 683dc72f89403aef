-- Which fetches miss in a cache of a geometry, told from the fetched addresses alone, the newest first.
use Rattle.std.specs.Prelude.{◌≡◌, ℕ, ◌+◌, ◌%◌, ◌/◌, ◌<◌, ◌≤◌, Bool, false, ◌==◌, not, ◌&&◌, ◌||◌, if◌then◌else◌, List, [], ◌∷◌, take}
use Rattle.std.specs.List.{list_any}
use Rattle.lab_terms.specs.declared.geometry.Geometry.{Geometry}
use Rattle.lab_terms.specs.declared.geometry.TheConstants.{SHIPPED_CACHE}
use Rattle.mx_icache.specs.Residency.{resident}

-- a cache has sets, ways, and lines of at most 64 words, of which a miss brings at least one
pub record IsCache (g : Geometry) : Type 0 where
  pub sets : 0 < g.sets
  pub ways : 0 < g.ways
  pub line : 0 < g.line
  pub short : g.line ≤ 64
  pub brings : 0 < g.brings

-- the line of an address
abbrev pub line_of : Geometry → ℕ → ℕ
line_of g a = a / g.line

-- the group of an address: the words of its line that a miss of it brings
abbrev pub group_of : Geometry → ℕ → ℕ
group_of g a = a % g.line / g.brings

-- the set of a line
abbrev pub set_of : Geometry → ℕ → ℕ
set_of g l = l % g.sets

-- the line is among the last of these, which were allocated in its set: as many as there are ways
abbrev pub is_among_last : Geometry → List ℕ → ℕ → Bool
is_among_last g lines l = list_any (λ m. m == l) (take g.ways lines)

-- the lines allocated in a set, the newest first: a fetch allocates its line where it is not among the last of its set
unfoldable pub allocated : Geometry → List ℕ → ℕ → List ℕ
allocated g [] s = []
allocated g (a ∷ past) s =
    let before = allocated g past s in
    if set_of g (line_of g a) == s && not (is_among_last g before (line_of g a)) then line_of g a ∷ before else before

-- the line is among the last allocated in its set
abbrev pub is_held : Geometry → List ℕ → ℕ → Bool
is_held g past l = is_among_last g (allocated g past (set_of g l)) l

-- a word of the line's group j was fetched since the line was last allocated, that fetch included
unfoldable pub fetched_since : Geometry → List ℕ → ℕ → ℕ → Bool
fetched_since g [] l j = false
fetched_since g (a ∷ past) l j =
    if line_of g a == l then group_of g a == j || (is_held g past l && fetched_since g past l j) else fetched_since g past l j

-- the address is resident after these fetches
abbrev pub resident_in : Geometry → List ℕ → ℕ → Bool
resident_in g past a = is_held g past (line_of g a) && fetched_since g past (line_of g a) (group_of g a)

-- how many of these fetches were of an address that was not resident then
unfoldable pub misses_in : Geometry → List ℕ → ℕ
misses_in g [] = 0
misses_in g (a ∷ past) = misses_in g past + (if resident_in g past a then 0 else 1)

-- in the cache of the machine what is resident is what the machine's definition says
abbrev pub MachineAgrees : Type 0
MachineAgrees = (past : List ℕ) (a : ℕ) → resident_in SHIPPED_CACHE past a ≡ resident past a
