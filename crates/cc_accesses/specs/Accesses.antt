-- The lines of a load and of a store of each width, and of a call and a jump by a word of memory.
use Rattle.std.specs.Prelude.{ℕ, nat_eq, Bool, ◌&&◌, ◌==◌, List, [], ◌∷◌, Option, Some}
use Rattle.std.specs.Option.{option_eq}
use Rattle.cc_lines.specs.declared.instruction.Register.{Register}
use Rattle.cc_lines.specs.declared.instruction.Width.{Width}
use Rattle.cc_lines.specs.declared.instruction.Width.TheVariants.{Byte, Half, Word, Left, Right}
use Rattle.cc_program.specs.declared.item.Function.{Function}
use Rattle.cc_emit.specs.declared.line.Line.{Line}
use Rattle.cc_emit.specs.declared.line.Line.TheVariants.{Plain as PlainLine, Transfer as TransferLine}
use Rattle.cc_emit.specs.declared.line.Mask.TheVariants.{LoadLeft, LoadRight, StoreLeft, StoreRight}
use Rattle.cc_emit.specs.declared.line.Transfer.TheVariants.{CallReg, JumpReg}
use Rattle.cc_plan.specs.declared.plan.Place.{Place}
use Rattle.cc_operations.specs.declared.between.TheConstants.{SECOND}
use Rattle.cc_operations.specs.Numbers.{Put, followed_by}
use Rattle.cc_accesses.specs.Places.{reached, word_load}
use Rattle.cc_accesses.specs.Loads.{word_loaded, part_loaded}
use Rattle.cc_accesses.specs.Stores.{word_stored, part_stored}
use Rattle.cc_accesses.specs.Unaligned as unaligned

-- register 31 is loaded from where the function saved it, by the stack pointer
abbrev pub restores_link : Function → Register → Register → ℕ → Bool
restores_link function rd base offset = rd.0 == 31 && base.0 == 29 && option_eq nat_eq function.saved_link (Some offset)

abbrev pub loaded : Option ℕ → Width → ℕ → Place → Bool → List Line
loaded first (Byte signed) rd place is_link = (part_loaded first place rd signed 24).lines
loaded first (Half signed) rd place is_link = (part_loaded first place rd signed 16).lines
loaded first Word rd place is_link = (word_loaded first place rd is_link).lines
loaded first Left rd place is_link = unaligned.loaded first place rd LoadLeft
loaded first Right rd place is_link = unaligned.loaded first place rd LoadRight

abbrev pub stored : Option ℕ → Width → ℕ → Place → List Line
stored first (Byte signed) rs place = (part_stored first place rs 8).lines
stored first (Half signed) rs place = (part_stored first place rs 16).lines
stored first Word rs place = (word_stored first place rs).lines
stored first Left rs place = unaligned.stored first place rs StoreLeft
stored first Right rs place = unaligned.stored first place rs StoreRight

-- register 31 takes the link
abbrev pub called_at : Option ℕ → Place → Put
called_at first place = followed_by (reached first place) (PlainLine (word_load place SECOND) ∷ TransferLine (CallReg SECOND 31) ∷ [])

abbrev pub jumped_at : Option ℕ → Place → Put
jumped_at first place = followed_by (reached first place) (PlainLine (word_load place SECOND) ∷ TransferLine (JumpReg SECOND) ∷ [])
