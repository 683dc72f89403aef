-- The lines of lwl, lwr, swl and swr. r1 has the address, and r27 takes a mask: of a load what stays of the register, of a store what
-- changes of the word.
use Rattle.std.specs.Prelude.{ℕ, pos, List, [], ◌∷◌, ◌++◌, Option}
use Rattle.cc_emit.specs.declared.line.Computed.TheVariants.{Sub, And, Or, Bic, Rotlb}
use Rattle.cc_emit.specs.declared.line.Line.{Line}
use Rattle.cc_emit.specs.declared.line.Line.TheVariants.{Plain as PlainLine, Take}
use Rattle.cc_emit.specs.declared.line.Mask.{Mask}
use Rattle.cc_emit.specs.declared.line.Mask.TheVariants.{LoadLeft, StoreLeft}
use Rattle.cc_emit.specs.declared.line.Plain.{Plain}
use Rattle.cc_emit.specs.declared.line.Plain.TheVariants.{Compute, Addi, Asr, Not, Sh, Load, Store}
use Rattle.cc_emit.specs.declared.line.Word.TheVariants.{Mask as MaskWord}
use Rattle.cc_plan.specs.declared.plan.Place.{Place}
use Rattle.cc_operations.specs.Operations.{lines}
use Rattle.cc_accesses.specs.Places.{addressed}

-- the mask of the table for the low two bits of the address
abbrev pub mask_taken : Mask → List Line
mask_taken mask = PlainLine (Sh 0 1 2 27) ∷ PlainLine (Sh 27 0 30 27) ∷ Take (MaskWord mask) 27 27 ∷ []

abbrev pub word_fetched : List Plain
word_fetched = Asr 1 2 26 ∷ Load (pos 0) 26 26 ∷ []

-- the word at the address, turned so that the bytes of the register are where this has them
abbrev pub word_turned : Mask → List Plain
word_turned LoadLeft = word_fetched ++ Compute Rotlb 26 1 26 ∷ []
word_turned _ = word_fetched ++ Addi 1 (pos 1) 27 ∷ Compute Rotlb 26 27 26 ∷ []

-- the register, turned so that its bytes are where the word has them
abbrev pub register_turned : ℕ → Mask → List Plain
register_turned rs StoreLeft = Compute Sub 0 1 26 ∷ Compute Rotlb rs 26 26 ∷ []
register_turned rs _ = Not 1 26 ∷ Compute Rotlb rs 26 26 ∷ []

-- the register keeps the bits of the mask
abbrev pub merged : ℕ → List Plain
merged rd = Compute And rd 27 rd ∷ Compute Bic 26 27 26 ∷ Compute Or rd 26 rd ∷ []

-- the word takes the bits of the mask
abbrev pub merged_in_memory : List Plain
merged_in_memory =
    Asr 1 2 1 ∷ Load (pos 0) 1 22 ∷ Compute And 26 27 26 ∷ Compute Bic 22 27 22 ∷ Compute Or 26 22 26 ∷ Store (pos 0) 1 26 ∷ []

abbrev pub loaded : Option ℕ → Place → ℕ → Mask → List Line
loaded first place rd mask = (addressed first place).lines ++ (lines (word_turned mask) ++ (mask_taken mask ++ lines (merged rd)))

abbrev pub stored : Option ℕ → Place → ℕ → Mask → List Line
stored first place rs mask = (addressed first place).lines ++ (lines (register_turned rs mask) ++ (mask_taken mask ++ lines merged_in_memory))
