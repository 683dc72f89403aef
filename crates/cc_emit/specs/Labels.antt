-- The labels of routines and of tables.
use Rattle.std.specs.Prelude.{ℕ, List, [], ◌∷◌, codes, Option}
use Rattle.std.specs.Map.{lookup}
use Rattle.std.specs.Str.{bytes_eq}
use Rattle.cc_emit.specs.declared.line.Routine.{Routine}
use Rattle.cc_emit.specs.declared.line.Routine.TheVariants.{Low, Product, SignedProduct, Quotient, SignedQuotient, ShiftLeft, ShiftRight, ShiftArithmetic, RotateLeft, Trap, Zero, Null, Stack}
use Rattle.cc_emit.specs.declared.line.Mask.{Mask}
use Rattle.cc_emit.specs.declared.line.Mask.TheVariants.{LoadLeft, LoadRight, StoreLeft, StoreRight}

-- the label of a routine
abbrev pub routine_label : Routine → List ℕ
routine_label Low = codes "m.mul"
routine_label Product = codes "m.multu"
routine_label SignedProduct = codes "m.mult"
routine_label Quotient = codes "m.divu"
routine_label SignedQuotient = codes "m.div"
routine_label ShiftLeft = codes "m.sll"
routine_label ShiftRight = codes "m.srl"
routine_label ShiftArithmetic = codes "m.sra"
routine_label RotateLeft = codes "m.rol"
routine_label Trap = codes "m.trap"
routine_label Zero = codes "m.zero"
routine_label Null = codes "m.null"
routine_label Stack = codes "m.stack"

-- the label of a table that masks are taken from
abbrev pub mask_label : Mask → List ℕ
mask_label LoadLeft = codes "t.lwl"
mask_label LoadRight = codes "t.lwr"
mask_label StoreLeft = codes "t.swl"
mask_label StoreRight = codes "t.swr"

abbrev pub labels : List (List ℕ × Routine)
labels =
    (routine_label Low, Low)
    ∷ (routine_label Product, Product)
    ∷ (routine_label SignedProduct, SignedProduct)
    ∷ (routine_label Quotient, Quotient)
    ∷ (routine_label SignedQuotient, SignedQuotient)
    ∷ (routine_label ShiftLeft, ShiftLeft)
    ∷ (routine_label ShiftRight, ShiftRight)
    ∷ (routine_label ShiftArithmetic, ShiftArithmetic)
    ∷ (routine_label RotateLeft, RotateLeft)
    ∷ (routine_label Trap, Trap)
    ∷ (routine_label Zero, Zero)
    ∷ (routine_label Null, Null)
    ∷ (routine_label Stack, Stack)
    ∷ []

-- the routine with a label. Where the label of each routine leads back to it, no two have the same
abbrev pub labelled : List ℕ → Option Routine
labelled label = lookup (bytes_eq label) labels

-- the words of the table: the bits that stay, for each place of an address in its word
abbrev pub mask_words : Mask → List ℕ
mask_words LoadLeft = 0 ∷ 255 ∷ 65535 ∷ 16777215 ∷ []
mask_words LoadRight = 4294967040 ∷ 4294901760 ∷ 4278190080 ∷ 0 ∷ []
mask_words StoreLeft = 4294967295 ∷ 16777215 ∷ 65535 ∷ 255 ∷ []
mask_words StoreRight = 4278190080 ∷ 4294901760 ∷ 4294967040 ∷ 4294967295 ∷ []
