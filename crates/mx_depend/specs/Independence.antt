-- When two instructions may change places.
use Rattle.std.specs.Prelude.{◌≡◌, ◌≢◌, ℕ, Bool, true, false, ◌||◌, ◌&&◌, Option, Some}
use Rattle.mx_isa.specs.declared.inst.Inst.{Inst}
use Rattle.mx_isa.specs.Views.{reads, writes, dest, is_load, Access, access}

-- no name is in both sets
abbrev pub Apart : (ℕ → Bool) → (ℕ → Bool) → Type 0
Apart p q = (n : ℕ) → p n ≡ true → q n ≡ false

-- where both reach memory, and one of them stores or the source has input, they reach two words: by the same register, at different offsets
abbrev pub OtherWord : Bool → Option Access → Option Access → Type 0
OtherWord input (Some a) (Some b) = (a.stores || b.stores) || input ≡ true → (a.base ≡ b.base) × (a.offset ≢ b.offset)
OtherWord input _ _ = Unit {0}

-- no name that one writes is read or written by the other, and they reach no word in common; in a source with input this is asked of two loads too,
-- since one word is the next byte of the input: so two loads change places where they have the same base register and different offsets, and else not
pub record Independent (x y : Inst) (input : Bool) : Type 0 where
  pub writes_reads : Apart (writes x) (reads y)
  pub reads_writes : Apart (writes y) (reads x)
  pub writes_writes : Apart (writes x) (writes y)
  pub memory : OtherWord input (access x) (access y)

-- the first is a load of a register that the second reads
abbrev pub feeds : Inst → Inst → Bool
feeds load reader = is_load load && reads reader (dest load)
