-- What an output holds.
use Rattle.std.specs.Prelude.{ℕ, ◌-◌, ◌^◌, ◌≡◌, min, Bool, false, cond, List, [], ◌∷◌, ◌++◌, count_by, None}
use Rattle.std.specs.List.{list_any}
use Rattle.std.specs.Str.{bytes_eq}
use Rattle.cc_emit.specs.declared.line.Line.{Line}
use Rattle.cc_emit.specs.declared.line.Routine.{Routine}
use Rattle.cc_emit.specs.declared.line.Mask.{Mask}
use Rattle.cc_emit.specs.declared.output.Output.{Output}
use Rattle.cc_emit.specs.Labels.{routine_label, mask_label}
use Rattle.cc_emit.specs.Lines.{is_statement}

-- how many of these lines are statements, as far as 32 bits hold it
abbrev pub statements_in : List Line → ℕ
statements_in lines = min (count_by is_statement lines) (2 ^ 32 - 1)

-- a routine is among these, by its label
abbrev pub has_routine : Routine → List Routine → Bool
has_routine routine routines = list_any (λ one. bytes_eq (routine_label one) (routine_label routine)) routines

abbrev pub with_routine : Routine → List Routine → List Routine
with_routine routine routines = cond (has_routine routine routines) routines (routines ++ routine ∷ [])

-- a table is among these, by its label
abbrev pub has_mask : Mask → List Mask → Bool
has_mask mask masks = list_any (λ one. bytes_eq (mask_label one) (mask_label mask)) masks

abbrev pub with_mask : Mask → List Mask → List Mask
with_mask mask masks = cond (has_mask mask masks) masks (masks ++ mask ∷ [])

-- no number is kept for a word of data, no place of a branch is new, and as much is known of r1
abbrev pub Keeps : Output → Output → Type 0
Keeps before after = (after.numbers ≡ before.numbers) × (after.skips ≡ before.skips) × (after.first ≡ before.first)

-- nothing was added to it
pub record IsNew (out : Output) : Type 0 where
  pub lines : out.lines.items ≡ []
  pub statements : out.statements ≡ 0
  pub instructions : out.instructions ≡ 0
  pub numbers : out.numbers.keys ≡ []
  pub ends : out.ends.keys ≡ []
  pub routines : out.routines.items ≡ []
  pub masks : out.masks.items ≡ []
  pub skips : out.skips ≡ 0
  pub input : out.input ≡ false
  pub fault : out.fault ≡ None
