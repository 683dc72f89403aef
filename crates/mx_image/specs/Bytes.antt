-- Words as bytes, the most significant byte first.
use Rattle.std.specs.Prelude.{ℕ, zero, suc, ◌+◌, ◌*◌, ◌/◌, ◌%◌, ◌^◌, List, [], ◌∷◌, drop, slice_index}
use Rattle.std.specs.List.{flat_map}

-- the four bytes of a word
abbrev pub word_bytes : ℕ → List ℕ
word_bytes w = (w / 2 ^ 24 % 256) ∷ (w / 2 ^ 16 % 256) ∷ (w / 2 ^ 8 % 256) ∷ (w % 256) ∷ []

-- the bytes of words, one after the other
abbrev pub words_bytes : List ℕ → List ℕ
words_bytes ws = flat_map word_bytes ws

-- the number in the first four bytes
abbrev pub number_in : List ℕ → ℕ
number_in bs = slice_index bs 0 * 2 ^ 24 + slice_index bs 1 * 2 ^ 16 + slice_index bs 2 * 2 ^ 8 + slice_index bs 3

-- the number in the four bytes from an offset on
abbrev pub number_at : ℕ → List ℕ → ℕ
number_at at bs = number_in (drop at bs)

-- the numbers in the first bytes, four each
abbrev pub numbers : ℕ → List ℕ → List ℕ
numbers zero bs = []
numbers (suc k) bs = number_in bs ∷ numbers k (drop 4 bs)
