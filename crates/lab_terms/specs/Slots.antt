-- What stands in the slots behind transfers.
use Rattle.std.specs.Prelude.{ℕ, zero, suc, ◌+◌, ◌-◌, ◌^◌, min, Bool, true, false, if◌then◌else◌, Option, Some, None, List, [], ◌∷◌, ◌++◌, length, count_by, slice_get}
use Rattle.mx_isa.specs.declared.inst.Inst.{Inst}
use Rattle.mx_isa.specs.declared.inst.Inst.TheVariants as inst
use Rattle.mx_code.specs.Decoding.{inst_of}
use Rattle.mx_source.specs.declared.statement.Statement.{Statement}
use Rattle.lab_terms.specs.Places.{is_transfer, is_load, is_own}
use Rattle.lab_terms.specs.declared.slots.Slots.{Slots}
use Rattle.mx_link.specs.declared.linked.Origin.{Origin}
use Rattle.mx_link.specs.declared.linked.Origin.TheVariants.{Own, Copy, Pad}
use Rattle.lab_terms.specs.declared.slots.Filling.{Filling}
use Rattle.lab_terms.specs.declared.slots.Filling.TheVariants.{Before, TargetSquashed, Target, NoOp}
use Rattle.lab_terms.specs.declared.slots.TransferSlots.{TransferSlots}

-- a slot, by where its word comes from and whether the branch before it squashes it
abbrev pub filling_of : Origin → Bool → Filling
filling_of (Own k) squashing = Before
filling_of (Copy k) true = TargetSquashed
filling_of (Copy k) false = Target
filling_of Pad squashing = NoOp

-- a number, as far as 32 bits hold it
abbrev pub saturated_32 : ℕ → ℕ
saturated_32 n = min n (2 ^ 32 - 1)

-- how many slots hold an instruction, and how many there are
abbrev pub filled_of : TransferSlots → ℕ
filled_of s = saturated_32 (s.before + s.target_squashed + s.target)

abbrev pub slots_in : TransferSlots → ℕ
slots_in s = saturated_32 (s.before + s.target_squashed + s.target + s.noops)

-- the branch at a word squashes the two after it where it does not hold
abbrev pub squashes : Option Inst → Bool
squashes (Some (inst.Branch a b c squash d)) = squash
squashes _ = false

abbrev pub squashes_two : Option ℕ → Bool
squashes_two None = false
squashes_two (Some word) = squashes (inst_of word)

-- where the word of a slot comes from; after the last word of the code there are no-ops
abbrev pub origin_or_pad : Option Origin → Origin
origin_or_pad None = Pad
origin_or_pad (Some from) = from

abbrev pub filling_at : List Origin → ℕ → Bool → Filling
filling_at origin at squashing = filling_of (origin_or_pad (slice_get origin at)) squashing

-- what fills the two slots of the word at an index of the code, if it is a transfer's own
abbrev pub fillings_at : List Statement → List ℕ → List Origin → ℕ → List Filling
fillings_at statements code origin at =
    if is_own is_transfer statements (slice_get origin at)
    then filling_at origin (at + 1) (squashes_two (slice_get code at)) ∷ filling_at origin (at + 2) (squashes_two (slice_get code at)) ∷ []
    else []

-- what fills the slots of the first n words, in order
abbrev pub fillings_to : List Statement → List ℕ → List Origin → ℕ → List Filling
fillings_to statements code origin zero = []
fillings_to statements code origin (suc n) = fillings_to statements code origin n ++ fillings_at statements code origin n

abbrev pub is_before : Filling → Bool
is_before Before = true
is_before _ = false

abbrev pub is_squashed : Filling → Bool
is_squashed TargetSquashed = true
is_squashed _ = false

abbrev pub is_target : Filling → Bool
is_target Target = true
is_target _ = false

abbrev pub is_noop : Filling → Bool
is_noop NoOp = true
is_noop _ = false

-- how many slots are filled with what
abbrev pub counted : List Filling → TransferSlots
counted fillings = record {
  before = saturated_32 (count_by is_before fillings);
  target_squashed = saturated_32 (count_by is_squashed fillings);
  target = saturated_32 (count_by is_target fillings);
  noops = saturated_32 (count_by is_noop fillings);
}

-- one slot more
abbrev pub and_one : TransferSlots → Filling → TransferSlots
and_one s Before = record s { before = saturated_32 (s.before + 1) }
and_one s TargetSquashed = record s { target_squashed = saturated_32 (s.target_squashed + 1) }
and_one s Target = record s { target = saturated_32 (s.target + 1) }
and_one s NoOp = record s { noops = saturated_32 (s.noops + 1) }

-- whether a word is an instruction, and not a no-op that was put in
abbrev pub is_filled : Option Origin → Bool
is_filled (Some (Own k)) = true
is_filled (Some (Copy k)) = true
is_filled _ = false

-- whether the word after the one at an index is filled, if that one is a load's own
abbrev pub after_load_at : List Statement → List Origin → ℕ → List Bool
after_load_at statements origin at =
    if is_own is_load statements (slice_get origin at) then is_filled (slice_get origin (at + 1)) ∷ [] else []

-- the words after the loads among the first n words, in order
abbrev pub after_loads : List Statement → List Origin → ℕ → List Bool
after_loads statements origin zero = []
after_loads statements origin (suc n) = after_loads statements origin n ++ after_load_at statements origin n

-- how many of these places are filled, and how many there are
abbrev pub counted_places : List Bool → Slots
counted_places places = record { filled = saturated_32 (count_by (λ filled. filled) places); all = saturated_32 (length places) }

-- one place more
abbrev pub and_place : Slots → Bool → Slots
and_place s true = record { filled = saturated_32 (s.filled + 1); all = saturated_32 (s.all + 1) }
and_place s false = record s { all = saturated_32 (s.all + 1) }
