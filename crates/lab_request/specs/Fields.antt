-- The fields of a request's body, and what is wrong with one.
use Rattle.std.specs.Prelude.{ℕ, ◌+◌, ◌==◌, ◌&&◌, ◌||◌, List, [], ◌∷◌, length, slice_index, Bool, true, false, not, if◌then◌else◌, nat_le, find, codes, is_some}
use Rattle.std.specs.Prelude.{Option, Some, None, option_map, option_and_then, unwrap_or}
use Rattle.std.specs.Option.{option_or}
use Rattle.std.specs.List.{list_all, list_any}
use Rattle.std.specs.Str.{bytes_eq}
use Rattle.serde_json.specs.Data.{Data, string, array, Items, no_items, item, Members, no_members, member}
use Rattle.serde_json.specs.Find.{get, as_number, as_str, as_array, as_u64}
use Rattle.lab_request.specs.declared.command.WorkbenchCommand.{WorkbenchCommand}
use Rattle.lab_request.specs.declared.command.WorkbenchCommand.TheVariants.{Check, Run, Explain, Draw, Profile, Compare, Disassemble, Blocks, Planned, Caches, Sweep}
use Rattle.lab_request.specs.declared.field.Field.{Field}
use Rattle.lab_request.specs.declared.field.Field.TheVariants.{Source, Name, Interrupts, Input, Budget, From, Cycles, Trace, Dump, Count, Form, Scheduler, Plans, PlanFile, To, Step, Line, Brings, Penalty}
use Rattle.lab_request.specs.declared.fault.Fault.{Fault}
use Rattle.lab_request.specs.declared.fault.Fault.TheVariants.{LeftOut, NoString, NoName, NoCycles, NoBytes, TooLong, NoForm, NoScheduler, NoNumber}
use Rattle.lab_request.specs.declared.fault.Wrong.{Wrong}

-- the name of a command
abbrev pub command_name : WorkbenchCommand → List ℕ
command_name Check = codes "check"
command_name Run = codes "run"
command_name Explain = codes "explain"
command_name Draw = codes "draw"
command_name Profile = codes "profile"
command_name Compare = codes "compare"
command_name Disassemble = codes "disassemble"
command_name Blocks = codes "blocks"
command_name Planned = codes "plans"
command_name Caches = codes "caches"
command_name Sweep = codes "interrupts"

abbrev pub commands : List WorkbenchCommand
commands = Check ∷ Run ∷ Explain ∷ Draw ∷ Profile ∷ Compare ∷ Disassemble ∷ Blocks ∷ Planned ∷ Caches ∷ Sweep ∷ []

-- the command of a name
abbrev pub command_named : List ℕ → Option WorkbenchCommand
command_named word = find (λ c. bytes_eq (command_name c) word) commands

-- the name of a field in a body: a plan file has the same one where it is an option and where it is an argument by itself
abbrev pub field_name : Field → List ℕ
field_name Source = codes "source"
field_name Name = codes "name"
field_name Interrupts = codes "interrupts"
field_name Input = codes "input"
field_name Budget = codes "budget"
field_name From = codes "from"
field_name Cycles = codes "cycles"
field_name Trace = codes "trace"
field_name Dump = codes "dump"
field_name Count = codes "count"
field_name Form = codes "as"
field_name Scheduler = codes "scheduler"
field_name Plans = codes "plans"
field_name PlanFile = codes "plans"
field_name To = codes "to"
field_name Step = codes "step"
field_name Line = codes "line"
field_name Brings = codes "brings"
field_name Penalty = codes "penalty"

-- the fields that a command's body may have, in their order
abbrev pub fields_of : WorkbenchCommand → List Field
fields_of Check = Source ∷ Name ∷ []
fields_of Run = Source ∷ Name ∷ Interrupts ∷ Input ∷ Budget ∷ Trace ∷ Dump ∷ Count ∷ []
fields_of Explain = Source ∷ Name ∷ Interrupts ∷ Input ∷ Budget ∷ []
fields_of Draw = Source ∷ Name ∷ Interrupts ∷ Input ∷ Budget ∷ From ∷ Cycles ∷ Form ∷ Scheduler ∷ Plans ∷ []
fields_of Profile = Source ∷ Name ∷ Interrupts ∷ Input ∷ Budget ∷ Plans ∷ []
fields_of Compare = Source ∷ Name ∷ Interrupts ∷ Input ∷ Budget ∷ []
fields_of Disassemble = Source ∷ Name ∷ []
fields_of Blocks = Source ∷ Name ∷ []
fields_of Planned = Source ∷ Name ∷ PlanFile ∷ Interrupts ∷ Input ∷ Budget ∷ []
fields_of Caches = Source ∷ Name ∷ Input ∷ Budget ∷ Line ∷ Brings ∷ Penalty ∷ Plans ∷ []
fields_of Sweep = Source ∷ Name ∷ Input ∷ Budget ∷ From ∷ To ∷ Step ∷ Plans ∷ []

-- ---- values

-- the values of a list, in their order
abbrev pub listed : Items → List Data
listed no_items = []
listed (item d rest) = d ∷ listed rest

-- a whole number from 0 to 2^64 - 1, if the value is one
abbrev pub whole : Data → Option ℕ
whole d = option_and_then as_u64 (as_number d)

-- the same, and 0 where it is none
abbrev pub number_in : Data → ℕ
number_in d = unwrap_or (whole d) 0

abbrev pub is_from : ℕ → ℕ → ℕ → Bool
is_from least most n = nat_le least n && nat_le n most

-- it is a whole number of this range
abbrev pub is_within : ℕ → ℕ → Data → Bool
is_within least most d = unwrap_or (option_map (is_from least most) (whole d)) false

-- it is a string of this kind
abbrev pub is_text : (List ℕ → Bool) → Data → Bool
is_text test d = unwrap_or (option_map test (as_str d)) false

-- whole numbers from `least` to 4,294,967,295, each greater than the one before
abbrev pub are_cycles : ℕ → List Data → Bool
are_cycles least [] = true
are_cycles least (d ∷ rest) = is_within least 4294967295 d && are_cycles (number_in d + 1) rest

-- it is a list of at most 65,536 cycles
abbrev pub is_requests : Option (List Data) → Bool
is_requests None = false
is_requests (Some ds) = nat_le (length ds) 65536 && are_cycles 0 ds

-- a letter, a digit or `_`
abbrev pub is_letter : ℕ → Bool
is_letter b = is_from 97 122 b || is_from 65 90 b || is_from 48 57 b || (b == 95)

abbrev pub is_name_sign : ℕ → Bool
is_name_sign b = is_letter b || (b == 46) || (b == 45)

-- at most 64 letters, digits, `_`, `.` and `-`, of which the first is neither `.` nor `-`
abbrev pub is_name : List ℕ → Bool
is_name s = nat_le (length s) 64 && is_letter (slice_index s 0) && list_all is_name_sign s

abbrev pub forms : List (List ℕ)
forms = codes "json" ∷ codes "text" ∷ codes "svg" ∷ codes "html" ∷ codes "kanata" ∷ codes "vcd" ∷ []

abbrev pub is_form : List ℕ → Bool
is_form s = list_any (λ f. bytes_eq f s) forms

-- the schedulers whose plans may be drawn
abbrev pub schedulers : List (List ℕ)
schedulers = codes "padded" ∷ codes "list" ∷ codes "copies" ∷ codes "best" ∷ []

abbrev pub is_scheduler : List ℕ → Bool
is_scheduler s = list_any (λ f. bytes_eq f s) schedulers

-- ---- what is wrong

abbrev pub unless : Bool → Fault → Option Fault
unless true fault = None
unless false fault = Some fault

-- what is wrong with a list of bytes
abbrev pub list_fault : List Data → Option Fault
list_fault ds = if list_all (is_within 0 255) ds then unless (nat_le (length ds) 1048576) TooLong else Some NoBytes

-- what is wrong with an input, which is a string or a list of bytes
abbrev pub input_fault : Data → Option Fault
input_fault (string s) = unless (nat_le (length s) 1048576) TooLong
input_fault (array items) = list_fault (listed items)
input_fault _ = Some NoBytes

abbrev pub number_fault : ℕ → ℕ → Data → Option Fault
number_fault least most d = unless (is_within least most d) (NoNumber least most)

-- what is wrong with a plan file
abbrev pub plans_fault : Option (List ℕ) → Option Fault
plans_fault None = Some NoString
plans_fault (Some s) = unless (nat_le (length s) 1048576) TooLong

-- what is wrong with the value of a field
abbrev pub fault_in : Field → Data → Option Fault
fault_in Source d = unless (is_some (as_str d)) NoString
fault_in Name d = unless (is_text is_name d) NoName
fault_in Interrupts d = unless (is_requests (option_map listed (as_array d))) NoCycles
fault_in Input d = input_fault d
fault_in Budget d = number_fault 1 100000000 d
fault_in From d = number_fault 0 100000000 d
fault_in Cycles d = number_fault 1 100000 d
fault_in Trace d = number_fault 0 10000 d
fault_in Dump d = number_fault 0 65535 d
fault_in Count d = number_fault 1 65536 d
fault_in Form d = unless (is_text is_form d) NoForm
fault_in Scheduler d = unless (is_text is_scheduler d) NoScheduler
fault_in Plans d = plans_fault (as_str d)
fault_in PlanFile d = plans_fault (as_str d)
fault_in To d = number_fault 0 100000000 d
fault_in Step d = number_fault 1 100000000 d
fault_in Line d = number_fault 1 64 d
fault_in Brings d = number_fault 1 64 d
fault_in Penalty d = number_fault 0 1000 d

-- only the source has to be there
abbrev pub fault_without : Field → Option Fault
fault_without Source = Some LeftOut
fault_without _ = None

abbrev pub fault_of : Field → Option Data → Option Fault
fault_of field None = fault_without field
fault_of field (Some d) = fault_in field d

-- the first of the fields that is wrong, and why
abbrev pub first_wrong : List Field → Data → Option Wrong
first_wrong [] d = None
first_wrong (f ∷ rest) d = option_or (option_map (λ why. record { field = f; fault = why }) (fault_of f (get (field_name f) d))) (first_wrong rest d)

-- the keys of an object, which are in the order of their bytes
abbrev pub keys_of : Members → List (List ℕ)
keys_of no_members = []
keys_of (member k d rest) = k ∷ keys_of rest

abbrev pub is_field : List Field → List ℕ → Bool
is_field fields key = list_any (λ f. bytes_eq (field_name f) key) fields

-- the first key that is none of the fields
abbrev pub first_unknown : List Field → List (List ℕ) → Option (List ℕ)
first_unknown fields keys = find (λ key. not (is_field fields key)) keys
