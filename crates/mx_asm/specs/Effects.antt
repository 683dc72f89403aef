-- What the program keeps of a statement's effect.
use Rattle.std.specs.Prelude.{◌≡◌, ℕ, [], ◌++◌, All, Option, Some, None}
use Rattle.mx_source.specs.Labels.{IsPlace}
use Rattle.mx_source.specs.Statements.{StatementFits, ValueFits}
use Rattle.mx_asm.specs.declared.effect.Effect.{Effect as Kept}
use Rattle.mx_asm.specs.declared.effect.Effect.TheVariants as kept
use Rattle.mx_lines.specs.Instructions.{Labels}
use Rattle.mx_lines.specs.declared.fault.Fault.{Fault}
use Rattle.mx_lines.specs.declared.fault.LineError.{LineError}
use Rattle.mx_lines.specs.declared.fault.LineError.TheVariants as errors
use Rattle.mx_asm.specs.declared.listing.Listing.{Listing}
use Rattle.mx_asm.specs.Directives.{Effect, Nothing, Instruction, Data, Input}
use Rattle.mx_asm.specs.Texts.{onto_statements, onto_lines, onto_values, onto_input}

-- what an effect of the program is
abbrev pub effect : Kept → Effect
effect kept.Nothing = Nothing
effect (kept.Instruction statement) = Instruction statement
effect (kept.Data values) = Data values.items
effect kept.Input = Input

-- what an effect adds fits in a source with these labels and so many statements
abbrev pub EffectFits : Labels → ℕ → Effect → Type 0
EffectFits labels count (Instruction statement) = StatementFits (IsPlace labels count) statement
EffectFits labels count (Data values) = All (ValueFits (IsPlace labels count)) values
EffectFits labels count _ = Unit {0}

-- the error is this fault, unless memory ran out
abbrev pub IsFaultOf : Option Fault → LineError → Type 0
IsFaultOf found errors.Memory = Unit {0}
IsFaultOf found (errors.Fault fault) = found ≡ Some fault

-- the line that was found, or a later one
abbrev pub first_input : Option ℕ → Option ℕ → Option ℕ
first_input (Some line) later = Some line
first_input None later = later

-- a listing with what a line does
pub record Adds (old new : Listing) (number : ℕ) (e : Effect) : Type 0 where
  pub statements : new.statements.items ≡ old.statements.items ++ onto_statements e []
  pub lines : new.lines.items ≡ old.lines.items ++ onto_lines number e []
  pub user_data : new.user_data.items ≡ old.user_data.items ++ onto_values e []
  pub input : new.input ≡ first_input old.input (onto_input number e None)
