-- What the program keeps of all lines.
use Rattle.std.specs.Prelude.{◌≡◌, ℕ, ◌+◌, ◌≤◌, List, [], All, length, Option, Some, None}
use Rattle.mx_isa.specs.declared.board.TheConstants.{MAX_STATEMENTS}
use Rattle.mx_source.specs.Labels.{IsPlace}
use Rattle.mx_source.specs.Statements.{StatementFits, ValueFits}
use Rattle.mx_lines.specs.declared.fault.Fault.{Fault}
use Rattle.mx_lines.specs.declared.fault.AsmError.{AsmError}
use Rattle.mx_lines.specs.declared.fault.AsmError.TheVariants.{Refused, Memory}
use Rattle.mx_lines.specs.declared.fault.LineError.{LineError}
use Rattle.mx_lines.specs.declared.fault.LineError.TheVariants as errors
use Rattle.mx_asm.specs.declared.listing.Listing.{Listing}
use Rattle.mx_lines.specs.Instructions.{Labels}
use Rattle.mx_lines.specs.Fitting.{LabelsFit}
use Rattle.mx_asm.specs.declared.position.Position.{Position}
use Rattle.mx_asm.specs.Positions.{position_at_end}
use Rattle.mx_asm.specs.Faults.{first_fault}
use Rattle.mx_asm.specs.Texts.{effects_from, statements_in, lines_in, values_in, input_in}

-- the listing has what all lines do from a position on, and none of them has a fault
pub record IsListingOf (labels : Labels) (end : ℕ) (from : Position) (all : List (List ℕ)) (l : Listing) : Type 0 where
  pub faultless : first_fault labels end from [] 1 all ≡ None
  pub statements : l.statements.items ≡ statements_in (effects_from labels from 1 all)
  pub lines : l.lines.items ≡ lines_in (effects_from labels from 1 all)
  pub user_data : l.user_data.items ≡ values_in (effects_from labels from 1 all)
  pub input : l.input ≡ input_in (effects_from labels from 1 all)
  pub count : from.index + length l.statements.items ≡ (position_at_end from all).index
  pub each : length l.lines.items ≡ length l.statements.items
  pub words : from.address + length l.user_data.items ≡ (position_at_end from all).address
  pub few : (position_at_end from all).index ≤ MAX_STATEMENTS
  pub within : (position_at_end from all).address ≤ end
  pub statements_fit : (count : ℕ) → LabelsFit count labels → All (StatementFits (IsPlace labels count)) l.statements.items
  pub values_fit : (count : ℕ) → LabelsFit count labels → All (ValueFits (IsPlace labels count)) l.user_data.items

-- a text is refused by its first fault; memory may run out
abbrev pub IsRefusal : Option (ℕ × Fault) → AsmError → Type 0
IsRefusal found (Refused line fault) = found ≡ Some (line, fault)
IsRefusal found Memory = Unit {0}

-- the refusal of a text by the fault of a line
abbrev pub refusal : ℕ → LineError → AsmError
refusal line (errors.Fault fault) = Refused line fault
refusal line errors.Memory = Memory
