-- Which addresses are resident, told from the addresses fetched so far alone, the newest first.
use Rattle.std.specs.Prelude.{ℕ, ◌+◌, ◌-◌, ◌%◌, ◌/◌, Bool, false, ◌==◌, not, ◌&&◌, ◌||◌, if◌then◌else◌, List, [], ◌∷◌, take}
use Rattle.std.specs.List.{list_any}

-- the line of an address, 16 words
abbrev pub line_of : ℕ → ℕ
line_of a = a / 16

-- the set of a line, one of 4
abbrev pub set_of : ℕ → ℕ
set_of l = l % 4

-- the address with bit 0 flipped
abbrev pub pair_of : ℕ → ℕ
pair_of a = if a % 2 == 0 then a + 1 else a - 1

-- the line is among the last 8 of these, which were allocated in its set
abbrev pub is_among_last : List ℕ → ℕ → Bool
is_among_last lines l = list_any (λ m. m == l) (take 8 lines)

-- the lines allocated in a set, the newest first: a fetch allocates its line where it is not among the last 8 of its set
unfoldable pub allocated : List ℕ → ℕ → List ℕ
allocated [] s = []
allocated (a ∷ past) s =
    let before = allocated past s in
    if set_of (line_of a) == s && not (is_among_last before (line_of a)) then line_of a ∷ before else before

-- the line is among the last 8 allocated in its set
abbrev pub is_held : List ℕ → ℕ → Bool
is_held past l = is_among_last (allocated past (set_of l)) l

-- the address or its pair missed since its line was last allocated, that fetch included
unfoldable pub missed_since : List ℕ → ℕ → Bool
missed_since [] a = false
missed_since (b ∷ past) a =
    let allocates = not (is_held past (line_of b)) in
    let missed = (allocates || not (missed_since past b)) && (b == a || b == pair_of a) in
    if allocates && line_of b == line_of a then missed else missed || missed_since past a

-- the address is resident after these fetches
abbrev pub resident : List ℕ → ℕ → Bool
resident past a = is_held past (line_of a) && missed_since past a
