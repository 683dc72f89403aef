-- What is known of registers between two statements, by the words that they hold.
use Rattle.std.specs.Prelude.{◌≡◌, ◌⊎◌, ℕ, ◌+◌, ◌%◌, ◌^◌, ◌==◌, bit_and, ◌&&◌, Bool, true, false, not, List, Some, slice_get}
use Rattle.std.specs.List.{list_any}
use Rattle.cc_plan.specs.declared.knowledge.Known.{Known}
use Rattle.cc_plan.specs.declared.knowledge.Known.TheVariants.{Nothing, Number, Bytes}
use Rattle.cc_plan.specs.declared.knowledge.Knowledge.{Knowledge}
use Rattle.cc_plan.specs.declared.knowledge.TheConstants.{STACK_WORDS, FRAME_WORDS}
use Rattle.cc_plan.specs.Places.{Words, is_named, is_always_divided, is_base, IsFrom, IsDivided}

-- a set of registers has a bit for each
abbrev pub has : ℕ → ℕ → Bool
has set n = not (bit_and set (2 ^ n) == 0)

-- what is known of a word: it is this number, or so many bytes from four times a register, or it is without its last two bits
abbrev pub IsKnown : Words → Known → ℕ → Type 0
IsKnown words Nothing w = Unit {0}
IsKnown words (Number n) w = w ≡ n
IsKnown words (Bytes base bytes true) w = IsFrom words base bytes w
IsKnown words (Bytes base bytes false) w = IsFrom words base (bytes + w % 4) w

-- it is known by way of this register
abbrev pub is_by : ℕ → Known → Bool
is_by register (Bytes base bytes whole) = base == register
is_by register _ = false

-- it is so, by way of a register that holds quarters if by one at all
pub record IsSound (words : Words) (known : Known) (w : ℕ) : Type 0 where
  pub is : IsKnown words known w
  pub base : (b : ℕ) → is_by b known ≡ true → is_base b ≡ true

-- what is known of the registers that compiled code may name
pub record Holds (k : Knowledge) (words : Words) : Type 0 where
  pub always : IsDivided k.points words
  pub known : (n : ℕ) (known : Known) → is_named n ≡ true → is_always_divided k.points n ≡ false → slice_get k.known n ≡ Some known
      → IsSound words known (words n)

-- it is known by way of one of these registers; the quarter of the frame pointer comes back
abbrev pub is_by_one : Bool → List ℕ → Known → Bool
is_by_one points registers known = list_any (λ r. is_by r known && not (r == FRAME_WORDS && points)) registers

-- what is left where an instruction writes this set of registers
abbrev pub is_left : Bool → ℕ → ℕ → Known → Bool
is_left points written n known =
    not (has written n) && not (has written 29 && is_by STACK_WORDS known) && not (points && has written 30 && is_by FRAME_WORDS known)

-- each is as before, and this holds of it, or it is forgotten
abbrev pub Keeps : (ℕ → Known → Bool) → List Known → List Known → Type 0
Keeps keeps old new = (n : ℕ) (known : Known) → slice_get new n ≡ Some known
    → (known ≡ Nothing) ⊎ ((slice_get old n ≡ Some known) × (keeps n known ≡ true))
