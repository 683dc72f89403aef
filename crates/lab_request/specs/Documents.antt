-- The documents of answers and refusals.
use Rattle.std.specs.Prelude.{ℕ, ◌-◌, ◌/◌, ◌%◌, ◌==◌, ◌&&◌, ◌||◌, List, [], ◌∷◌, ◌++◌, length, take, map, slice_index, codes, decimal, Bool, true, false, if◌then◌else◌, nat_lt, Option, Some, None}
use Rattle.std.specs.List.{flat_map}
use Rattle.mx_text.specs.Text.{hex_digit}
use Rattle.lab_request.specs.declared.command.WorkbenchCommand.{WorkbenchCommand}
use Rattle.lab_request.specs.declared.command.WorkbenchCommand.TheVariants.{Check}
use Rattle.lab_request.specs.Fields.{command_name, is_from}

-- ---- strings of JSON: a sign stands for a byte

-- the byte n is the sign with the number n
abbrev pub sign : ℕ → List ℕ
sign b =
    if b == 34 then codes "\\\"" else if b == 92 then codes "\\\\" else if b == 10 then codes "\\n" else if is_from 32 126 b then b ∷ []
    else 92 ∷ 117 ∷ 48 ∷ 48 ∷ hex_digit (b / 16) ∷ hex_digit (b % 16) ∷ []

abbrev pub json_string : List ℕ → List ℕ
json_string bytes = (34 ∷ flat_map sign bytes) ++ 34 ∷ []

-- ---- the document of an answer

-- what was printed on standard error, where that is anything
abbrev pub errors_part : List ℕ → List ℕ
errors_part [] = []
errors_part (b ∷ rest) = codes "\"errors\":" ++ json_string (b ∷ rest) ++ codes ","

-- lines as the items of a list: the line feed at the end goes, and each other one is a comma
abbrev pub without_feed : List ℕ → List ℕ
without_feed bytes = if slice_index bytes (length bytes - 1) == 10 then take (length bytes - 1) bytes else bytes

abbrev pub comma_for_feed : ℕ → ℕ
comma_for_feed b = if b == 10 then 44 else b

abbrev pub as_list : List ℕ → List ℕ
as_list bytes = (91 ∷ map comma_for_feed (without_feed bytes)) ++ 93 ∷ []

abbrev pub is_check : WorkbenchCommand → Bool
is_check Check = true
is_check _ = false

-- the first byte, and 0 where there is none
abbrev pub front : List ℕ → ℕ
front bytes = slice_index bytes 0

-- of `check`, where it told what it found, a JSON text a line, if any
abbrev pub are_lines : WorkbenchCommand → ℕ → List ℕ → Bool
are_lines command status output = is_check command && nat_lt status 2 && (length output == 0 || front output == 123)

-- JSON as it stands
abbrev pub is_json : List ℕ → Bool
is_json output = front output == 123 || front output == 91

abbrev pub output_part : WorkbenchCommand → ℕ → List ℕ → List ℕ
output_part command status output =
    if are_lines command status output then codes "\"output\":" ++ as_list output
    else if is_json output then codes "\"output\":" ++ output
    else codes "\"text\":" ++ json_string output

abbrev pub document : WorkbenchCommand → ℕ → List ℕ → List ℕ → List ℕ
document command status output errors =
    codes "{\"command\":\"" ++ command_name command ++ codes "\",\"status\":" ++ decimal status ++ codes ","
    ++ errors_part errors ++ output_part command status output ++ codes "}\n"

-- ---- the document of a refusal: what is wrong, and the field where it is

abbrev pub field_part : Option (List ℕ) → List ℕ
field_part None = []
field_part (Some field) = codes ",\"field\":" ++ json_string field

abbrev pub refusal_document : List ℕ → Option (List ℕ) → List ℕ
refusal_document error field = codes "{\"error\":" ++ json_string error ++ field_part field ++ codes "}\n"
