-- What the places of linked code are.
use Rattle.std.specs.Prelude.{ℕ, ◌-◌, Bool, true, false, leb, if◌then◌else◌, Option, Some, None, List, [], codes, slice_get}
use Rattle.std.specs.Option.{option_map}
use Rattle.mx_isa.specs.Views as Views
use Rattle.mx_source.specs.declared.statement.Statement.{Statement}
use Rattle.mx_source.specs.declared.statement.Statement.TheVariants.{Plain, Branch, Call, CallReg, JumpReg}
use Rattle.mx_link.specs.declared.linked.Origin.{Origin}
use Rattle.mx_link.specs.declared.linked.Origin.TheVariants as from
use Rattle.lab_terms.specs.declared.places.Slot.{Slot}
use Rattle.lab_terms.specs.declared.places.Slot.TheVariants.{First, Second}
use Rattle.lab_terms.specs.declared.places.Place.{Place}
use Rattle.lab_terms.specs.declared.places.Place.TheVariants.{Own, OwnInSlot, Copied, BehindLoad, EmptySlot, Padding}

-- a place, by where its word comes from, its slot, and whether a load stands before it
abbrev pub place_of : Origin → Option Slot → Bool → Place
place_of (from.Own k) None behind = Own k
place_of (from.Own k) (Some slot) behind = OwnInSlot k slot
place_of (from.Copy k) None behind = Own k
place_of (from.Copy k) (Some slot) behind = Copied k slot
place_of from.Pad (Some slot) behind = EmptySlot slot
place_of from.Pad None true = BehindLoad
place_of from.Pad None false = Padding

-- a statement with two slots after it
abbrev pub is_transfer : Statement → Bool
is_transfer (Branch a b c t) = true
is_transfer (Call d t) = true
is_transfer (CallReg a d) = true
is_transfer (JumpReg a) = true
is_transfer _ = false

abbrev pub is_load : Statement → Bool
is_load (Plain i) = Views.is_load i
is_load _ = false

abbrev pub is_one : (Statement → Bool) → Option Statement → Bool
is_one kind None = false
is_one kind (Some s) = kind s

-- the word is the own one of such a statement
abbrev pub is_own : (Statement → Bool) → List Statement → Option Origin → Bool
is_own kind statements (Some (from.Own k)) = is_one kind (slice_get statements k)
is_own kind statements _ = false

-- the word is the own one of such a statement, or a copy of it
abbrev pub is_word : (Statement → Bool) → List Statement → Option Origin → Bool
is_word kind statements (Some (from.Own k)) = is_one kind (slice_get statements k)
is_word kind statements (Some (from.Copy k)) = is_one kind (slice_get statements k)
is_word kind statements _ = false

-- where the word so many before another comes from, if there is one
abbrev pub earlier : List Origin → ℕ → ℕ → Option Origin
earlier origin at words = if leb words at then slice_get origin (at - words) else None

-- the slot that a place is: a transfer has its own word one before it, or two
abbrev pub slot_at : List Statement → List Origin → ℕ → Option Slot
slot_at statements origin at =
    if is_own is_transfer statements (earlier origin at 1) then Some First
    else if is_own is_transfer statements (earlier origin at 2) then Some Second else None

-- what is at an index of the code whose words come from there
abbrev pub place_at : List Statement → List Origin → ℕ → Option Place
place_at statements origin at =
    option_map (λ from. place_of from (slot_at statements origin at) (is_word is_load statements (earlier origin at 1))) (slice_get origin at)

-- the statement that its word comes from
abbrev pub statement_of : Place → Option ℕ
statement_of (Own k) = Some k
statement_of (OwnInSlot k slot) = Some k
statement_of (Copied k slot) = Some k
statement_of BehindLoad = None
statement_of (EmptySlot slot) = None
statement_of Padding = None

abbrev pub number_of : Slot → ℕ
number_of First = 1
number_of Second = 2

-- the number of its slot, 0 where it is none
abbrev pub slot_of : Place → ℕ
slot_of (Own k) = 0
slot_of (OwnInSlot k slot) = number_of slot
slot_of (Copied k slot) = number_of slot
slot_of BehindLoad = 0
slot_of (EmptySlot slot) = number_of slot
slot_of Padding = 0

-- its word was put in
abbrev pub is_noop : Place → Bool
is_noop (Own k) = false
is_noop (OwnInSlot k slot) = false
is_noop (Copied k slot) = false
is_noop BehindLoad = true
is_noop (EmptySlot slot) = true
is_noop Padding = true

-- what the word is
abbrev pub kind_text : Place → List ℕ
kind_text (Own k) = codes "own"
kind_text (OwnInSlot k slot) = codes "own"
kind_text (Copied k slot) = codes "copy"
kind_text BehindLoad = codes "noop"
kind_text (EmptySlot slot) = codes "noop"
kind_text Padding = codes "noop"

-- why a no-op stands there, nothing where the word is none
abbrev pub why_text : Place → List ℕ
why_text (Own k) = []
why_text (OwnInSlot k slot) = []
why_text (Copied k slot) = []
why_text BehindLoad = codes "load"
why_text (EmptySlot slot) = codes "slot"
why_text Padding = codes "padding"

-- what the place is, nothing where a statement has its own word there
abbrev pub words_text : Place → List ℕ
words_text (Own k) = []
words_text (OwnInSlot k First) = codes "moved into slot 1"
words_text (OwnInSlot k Second) = codes "moved into slot 2"
words_text (Copied k First) = codes "copied into slot 1"
words_text (Copied k Second) = codes "copied into slot 2"
words_text BehindLoad = codes "no-op behind a load"
words_text (EmptySlot First) = codes "no-op: nothing fitted into slot 1"
words_text (EmptySlot Second) = codes "no-op: nothing fitted into slot 2"
words_text Padding = codes "no-op"
