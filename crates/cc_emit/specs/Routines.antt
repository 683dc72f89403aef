-- The lines of routines.
use Rattle.std.specs.Prelude.{◌≡◌, ℕ, zero, suc, ◌-◌, cond, ◌==◌, List, [], ◌∷◌, ◌++◌, map, replicate, codes, Option, Some, None}
use Rattle.std.specs.List.{flat_map}
use Rattle.std.specs.Borrow.{Bor}
use Rattle.cc_program.specs.declared.program.Program.{Program}
use Rattle.cc_emit.specs.declared.line.Line.{Line}
use Rattle.cc_emit.specs.declared.line.Line.TheVariants.{Plain as PlainLine, Transfer as TransferLine, Mark, Written}
use Rattle.cc_emit.specs.declared.line.Plain.{Plain}
use Rattle.cc_emit.specs.declared.line.Plain.TheVariants.{Sh, Asr}
use Rattle.cc_emit.specs.declared.line.Target.TheVariants.{Shifted}
use Rattle.cc_emit.specs.declared.line.Transfer.TheVariants.{JumpReg}
use Rattle.cc_emit.specs.declared.line.Routine.{Routine}
use Rattle.cc_emit.specs.declared.line.Routine.TheVariants.{Low, Product, SignedProduct, Quotient, SignedQuotient, ShiftLeft, ShiftRight, ShiftArithmetic, RotateLeft, Trap, Zero, Null, Stack}
use Rattle.cc_emit.specs.Assembly.{low, signed_product, product, signed_quotient, quotient, trap, zero_divisor, null_pointer, full_stack}
use Rattle.cc_emit.specs.Lines.{lines_text}
use Rattle.cc_emit.specs.Needs.{has_routine, with_routine}

-- what shifts r1 by a number from 1 to 31
abbrev pub shift_by : Routine → ℕ → Plain
shift_by ShiftLeft count = Sh 0 1 (32 - count) 1
shift_by ShiftRight count = Sh 1 0 count 1
shift_by RotateLeft count = Sh 1 1 (32 - count) 1
shift_by _ count = Asr 1 count 1

-- the place of a shift's routine for a count: the shift, unless the count is 0, and the return
abbrev pub shift_lines : Routine → ℕ → List Line
shift_lines which count =
    Mark (Shifted which count) ∷ (cond (count == 0) [] (PlainLine (shift_by which count) ∷ []) ++ TransferLine (JumpReg 27) ∷ [])

-- the places of a shift's routine for so many counts
abbrev pub shifts_lines : Routine → ℕ → List Line
shifts_lines which zero = []
shifts_lines which (suc count) = shifts_lines which count ++ shift_lines which count

-- a line, as often as its number says
abbrev pub row_lines : ℕ × Bor (List ℕ) → List Line
row_lines row = replicate row.0 (Written row.1)

-- the routines that are called, and another where one of them calls it
abbrev pub needed_with : Routine → Routine → List Routine → List Routine
needed_with routine other called = cond (has_routine routine called) (with_routine other called) called

abbrev pub all_needed : List Routine → List Routine
all_needed called = needed_with Quotient Zero (needed_with SignedQuotient Quotient (needed_with SignedProduct Product called))

-- the assembly of a routine that is no shift
unfoldable pub assembly_of : Routine → Option (List (ℕ × List ℕ))
assembly_of Low = Some low
assembly_of SignedProduct = Some signed_product
assembly_of Product = Some product
assembly_of SignedQuotient = Some signed_quotient
assembly_of Quotient = Some quotient
assembly_of Trap = Some trap
assembly_of Zero = Some zero_divisor
assembly_of Null = Some null_pointer
assembly_of Stack = Some full_stack
assembly_of _ = None

-- the text of assembly: each line so often as its number says
abbrev pub assembly_text : List (ℕ × List ℕ) → List ℕ
assembly_text rows = flat_map (λ row. flat_map (λ text. text ++ codes "\n") (replicate row.0 row.1)) rows

-- the rows of the program as assembly
abbrev pub rows_seen : List (ℕ × Bor (List ℕ)) → List (ℕ × List ℕ)
rows_seen rows = map (λ row. (row.0, row.1.now)) rows

-- the text of a routine: of its assembly, or of the places of a shift for 0 to 31
abbrev pub text_of : Program → Routine → Option (List (ℕ × List ℕ)) → List ℕ
text_of p which (Some rows) = assembly_text rows
text_of p which None = lines_text p (shifts_lines which 32)

abbrev pub routine_text : Program → Routine → List ℕ
routine_text p which = text_of p which (assembly_of which)

-- all routines, in their order in the text
abbrev pub all_routines : List Routine
all_routines =
    Low ∷ SignedProduct ∷ Product ∷ SignedQuotient ∷ Quotient ∷ ShiftLeft ∷ ShiftRight ∷ ShiftArithmetic ∷ RotateLeft
    ∷ Trap ∷ Zero ∷ Null ∷ Stack ∷ []

-- the text of a routine that is called
abbrev pub called_text : List Routine → Program → Routine → List ℕ
called_text called p which = cond (has_routine which called) (routine_text p which) []

-- the text of those of these routines that are called, and of all of them
abbrev pub called_texts : List Routine → List Routine → Program → List ℕ
called_texts called routines p = flat_map (called_text called p) routines

abbrev pub routines_text : List Routine → Program → List ℕ
routines_text called p = called_texts called all_routines p

-- lines with this text follow those before
abbrev pub Adds : List Line → List Line → (Program → List ℕ) → Type 0
Adds before after text = (added : List Line) × (after ≡ before ++ added) × ((p : Program) → lines_text p added ≡ text p)
