-- One step of a program, with its layout and its input.
use Rattle.std.specs.Prelude.{ℕ, List, Option, Some, None, Result, Ok, Err, slice_get}
use Rattle.cc_program.specs.declared.item.Item.{Item}
use Rattle.cc_program.specs.declared.item.Item.TheVariants.{Label, Code, Location}
use Rattle.cc_program.specs.declared.program.Program.{Program}
use Rattle.cc_meaning.specs.declared.value.Why.{Why}
use Rattle.cc_meaning.specs.declared.value.Why.TheVariants.{NoItem}
use Rattle.cc_meaning.specs.declared.effect.Effect.{Effect}
use Rattle.cc_meaning.specs.declared.effect.Effect.TheVariants.{Follows}
use Rattle.cc_meaning.specs.declared.layout.Layout.{Layout}
use Rattle.cc_meaning.specs.States.{State, Outcome, Stuck, applied}
use Rattle.cc_meaning.specs.Instructions.{effect}

-- a label and a line's number do nothing
abbrev pub item_effect : Program → Layout → State → Option Item → Result Effect Why
item_effect p l s (Some (Code instruction symbol line)) = effect p l symbol s instruction
item_effect p l s (Some (Label symbol)) = Ok Follows
item_effect p l s (Some (Location file line)) = Ok Follows
item_effect p l s None = Err NoItem

abbrev pub outcome : List ℕ → State → Result Effect Why → Outcome
outcome input s (Ok e) = applied input e s
outcome input s (Err why) = Stuck why

-- the item that comes next is executed
abbrev pub step : Program → Layout → List ℕ → State → Outcome
step p l input s = outcome input s (item_effect p l s (slice_get p.items.items s.next))
