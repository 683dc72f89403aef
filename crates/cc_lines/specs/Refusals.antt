-- What is said of a refusal.
use Rattle.std.specs.Prelude.{ℕ, List, [], ◌∷◌, codes, Option}
use Rattle.std.specs.Map.{lookup}
use Rattle.std.specs.Str.{bytes_eq}
use Rattle.cc_lines.specs.declared.refusal.Refusal.{Refusal}
use Rattle.cc_lines.specs.declared.refusal.Refusal.TheVariants as refusal

-- what is said, and of which refusal
abbrev pub sentences : List (List ℕ × Refusal)
sentences =
    (codes "an instruction that is not known", refusal.UnknownMnemonic)
    ∷ (codes "a directive that is not known", refusal.UnknownDirective)
    ∷ (codes "operands of another shape than it takes", refusal.BadOperands)
    ∷ (codes "a number that is too large or is none", refusal.BadNumber)
    ∷ (codes "floating-point registers are not taken; compile with -msoft-float", refusal.FloatingPoint)
    ∷ (codes "an instruction of the system", refusal.System)
    ∷ (codes "arithmetic on labels", refusal.LabelArithmetic)
    ∷ (codes "registers 1 and 22 to 28 are kept; compile with the options of lib/flags", refusal.KeptRegister)
    ∷ (codes "delay slots are not taken; compile with -fno-delayed-branch", refusal.DelaySlots)
    ∷ (codes "unterminated string", refusal.BadText)
    ∷ (codes "a character that a name may not have", refusal.BadName)
    ∷ (codes "a name that is too long", refusal.LongName)
    ∷ (codes "an instruction outside a function", refusal.OutsideFunction)
    ∷ (codes "data without a label before it", refusal.OutsideObject)
    ∷ (codes "a symbol in less than a word, or in a word that is not on a word's place", refusal.UnalignedSymbol)
    ∷ (codes "a symbol that is defined twice", refusal.DefinedTwice)
    ∷ (codes "a symbol that is defined nowhere", refusal.Undefined)
    ∷ (codes "a label that is no place to go to", refusal.NoPlace)
    ∷ (codes "a halfword or a word at an address that is not a multiple of its size", refusal.Misaligned)
    ∷ (codes "a load or a store in code", refusal.CodeAsData)
    ∷ (codes "a function that runs before or after main, which the start of the library does", refusal.Constructor)
    ∷ []

-- the first refusal of which a sentence is said. Where each refusal's sentence leads back to it, no two say the same
abbrev pub told_by : List ℕ → Option Refusal
told_by sentence = lookup (bytes_eq sentence) sentences
