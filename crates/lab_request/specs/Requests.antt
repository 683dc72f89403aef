-- What a body asks for, where nothing is wrong with it: the words of its command, and the files that these words name.
use Rattle.std.specs.Prelude.{ℕ, ◌%◌, List, [], ◌∷◌, ◌++◌, map, codes, decimal, Option, Some, None, option_map, option_and_then, unwrap_or, if◌then◌else◌}
use Rattle.std.specs.List.{flat_map}
use Rattle.std.specs.Str.{bytes_eq}
use Rattle.serde_json.specs.Data.{Data, string, array}
use Rattle.serde_json.specs.Find.{get, as_str, as_array}
use Rattle.lab_request.specs.declared.command.WorkbenchCommand.{WorkbenchCommand}
use Rattle.lab_request.specs.declared.command.WorkbenchCommand.TheVariants.{Check, Run, Explain, Draw, Profile, Compare, Disassemble, Blocks, Planned, Caches, Sweep}
use Rattle.lab_request.specs.declared.field.Field.{Field}
use Rattle.lab_request.specs.declared.field.Field.TheVariants.{Source, Name, Interrupts, Input, Budget, From, Cycles, Trace, Dump, Count, Form, Scheduler, Plans, PlanFile, To, Step, Line, Brings, Penalty}
use Rattle.lab_request.specs.Fields.{command_name, field_name, fields_of, listed, number_in}

-- the names of the files beside the source, which no source can have
abbrev pub interrupts_file : List ℕ
interrupts_file = codes ".interrupts"

abbrev pub input_file : List ℕ
input_file = codes ".input"

abbrev pub plans_file : List ℕ
plans_file = codes ".plans"

-- what the source is called
abbrev pub name_in : Data → List ℕ
name_in d = unwrap_or (option_and_then as_str (get (codes "name") d)) (codes "source")

-- ---- the words

-- the value of the option that a field is; none where it is no option, or is left out. Without a plan file `plans` prints one
abbrev pub option_value : Field → Option Data → Option (List ℕ)
option_value Source given = None
option_value Name given = None
option_value Interrupts given = option_map (λ d. interrupts_file) given
option_value Input given = option_map (λ d. input_file) given
option_value Budget given = option_map (λ d. decimal (number_in d)) given
option_value From given = option_map (λ d. decimal (number_in d)) given
option_value Cycles given = option_map (λ d. decimal (number_in d)) given
option_value Trace given = option_map (λ d. decimal (number_in d)) given
option_value Dump given = option_map (λ d. decimal (number_in d)) given
option_value Count given = option_map (λ d. decimal (number_in d)) given
option_value Form given = Some (unwrap_or (option_and_then as_str given) (codes "json"))
option_value Scheduler given = option_and_then as_str given
option_value Plans given = option_map (λ d. plans_file) given
option_value PlanFile given = Some (unwrap_or (option_map (λ d. plans_file) given) (codes "--print"))
option_value To given = option_map (λ d. decimal (number_in d)) given
option_value Step given = option_map (λ d. decimal (number_in d)) given
option_value Line given = option_map (λ d. decimal (number_in d)) given
option_value Brings given = option_map (λ d. decimal (number_in d)) given
option_value Penalty given = option_map (λ d. decimal (number_in d)) given

-- the option before a value; a plan file may be an argument by itself
abbrev pub option_name : Field → List (List ℕ)
option_name PlanFile = []
option_name field = (codes "--" ++ field_name field) ∷ []

-- an option and its value
abbrev pub option_words : Field → Option (List ℕ) → List (List ℕ)
option_words field None = []
option_words field (Some value) = option_name field ++ value ∷ []

-- what a command of the laboratory is asked for beside its options: JSON, and of `check` all of it
abbrev pub last_words : WorkbenchCommand → List (List ℕ)
last_words Check = codes "--as" ∷ codes "json" ∷ codes "--all" ∷ []
last_words Run = []
last_words Explain = codes "--as" ∷ codes "json" ∷ []
last_words Draw = []
last_words Profile = codes "--as" ∷ codes "json" ∷ []
last_words Compare = codes "--as" ∷ codes "json" ∷ []
last_words Disassemble = codes "--as" ∷ codes "json" ∷ []
last_words Blocks = codes "--as" ∷ codes "json" ∷ []
last_words Planned = []
last_words Caches = codes "--as" ∷ codes "json" ∷ []
last_words Sweep = codes "--as" ∷ codes "json" ∷ []

-- the options of the fields, in their order
abbrev pub options_in : List Field → Data → List (List ℕ)
options_in fields d = flat_map (λ f. option_words f (option_value f (get (field_name f) d))) fields

-- the words of the command
abbrev pub words_of : WorkbenchCommand → Data → List (List ℕ)
words_of command d = command_name command ∷ name_in d ∷ options_in (fields_of command) d ++ last_words command

-- ---- the files

-- the bytes of the source
abbrev pub source_in : Data → List ℕ
source_in d = unwrap_or (option_and_then as_str (get (codes "source") d)) []

-- a line for each cycle
abbrev pub cycle_line : Data → List ℕ
cycle_line d = decimal (number_in d) ++ 10 ∷ []

abbrev pub interrupts_in : Data → Option (List ℕ)
interrupts_in d = option_map (λ items. flat_map cycle_line (listed items)) (option_and_then as_array (get (codes "interrupts") d))

-- the byte that a value is, which is below 256 where nothing is wrong
abbrev pub byte_in : Data → ℕ
byte_in d = number_in d % 256

abbrev pub bytes_in : Data → List ℕ
bytes_in (string s) = s
bytes_in (array items) = map byte_in (listed items)
bytes_in _ = []

abbrev pub input_in : Data → Option (List ℕ)
input_in d = option_map bytes_in (get (codes "input") d)

abbrev pub plans_in : Data → Option (List ℕ)
plans_in d = option_and_then as_str (get (codes "plans") d)

-- what each name holds
abbrev pub Held : Type 0
Held = List ℕ → Option (List ℕ)

-- one more file, if it is given
abbrev pub with_file : List ℕ → Option (List ℕ) → Held → Held
with_file at None held name = held name
with_file at (Some bytes) held name = if bytes_eq at name then Some bytes else held name

-- the files of the words: the source, and those that are given
abbrev pub held_of : Data → Held
held_of d =
    with_file (name_in d) (Some (source_in d)) (with_file interrupts_file (interrupts_in d)
    (with_file input_file (input_in d) (with_file plans_file (plans_in d) (λ name. None))))
