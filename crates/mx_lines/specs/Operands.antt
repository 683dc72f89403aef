-- What an operand stands for.
use Rattle.std.specs.Prelude.{ℕ, ◌+◌, ◌-◌, ◌*◌, ◌^◌, ◌%◌, Bool, ◌&&◌, ◌||◌, ◌==◌, nat_le, List, [], ◌∷◌, Option, Some, None, Result, Ok, Err, ok_or, codes, if◌then◌else◌, ℤ, pos, neg_ℤ}
use Rattle.std.specs.Char.{is_digit}
use Rattle.std.specs.Str.{bytes_eq, str_eq_ignore_ascii_case}
use Rattle.std.specs.Map.{lookup}
use Rattle.mx_isa.specs.declared.inst.Special.{Special}
use Rattle.mx_isa.specs.declared.inst.Special.TheVariants.{Md, Pc1, Pc2, Pc3}
use Rattle.mx_source.specs.declared.statement.Label.{Label}
use Rattle.mx_source.specs.declared.statement.Label.TheVariants.{Code, Data}
use Rattle.mx_lines.specs.declared.fault.Fault.{Fault}
use Rattle.mx_lines.specs.declared.fault.Fault.TheVariants.{BadOperands, BadRegister, NumberOutOfRange, UndefinedLabel, WrongLabelKind}
use Rattle.mx_lines.specs.Reading.{◌>>=◌}
use Rattle.mx_lines.specs.Words.{Word, Name, Number}

-- `r` or `R`
abbrev pub is_r : ℕ → Bool
is_r b = b == 114 || b == 82

-- `r0` to `r31` without leading zeros, in either case
abbrev pub register_named : List ℕ → Option ℕ
register_named (r ∷ d ∷ []) = if is_r r && is_digit d 10 then Some (d - 48) else None
register_named (r ∷ t ∷ d ∷ []) = if is_r r && (nat_le 49 t && nat_le t 51) && is_digit d 10 && nat_le (10 * (t - 48) + (d - 48)) 31 then Some
    (10 * (t - 48) + (d - 48)) else None
register_named _ = None

-- the register of a name in its place
unfoldable pub register : List ℕ → Result ℕ Fault
register name = ok_or (register_named name) BadRegister

-- `md`, `pc1`, `pc2` or `pc3`, in either case
abbrev pub special_named : List ℕ → Option Special
special_named name =
    if str_eq_ignore_ascii_case name (codes "md") then Some Md
    else (if str_eq_ignore_ascii_case name (codes "pc1") then Some Pc1
    else (if str_eq_ignore_ascii_case name (codes "pc2") then Some Pc2
    else (if str_eq_ignore_ascii_case name (codes "pc3") then Some Pc3 else None)))

-- the special word of a name in its place
unfoldable pub special : List ℕ → Result Special Fault
special name = ok_or (special_named name) BadRegister

-- a number with its sign is at least - low and at most high
abbrev pub in_range : ℕ → ℕ → Bool → ℕ → Bool
in_range low high negative value = if negative then nat_le value low else nat_le value high

-- a number with its sign
abbrev pub integer : Bool → ℕ → ℤ
integer negative value = if negative then neg_ℤ (pos value) else pos value

-- an immediate or an offset, from - 65536 to 65535
unfoldable pub immediate : Bool → ℕ → Result ℤ Fault
immediate negative value = if in_range 65536 65535 negative value then Ok (integer negative value) else Err NumberOutOfRange

-- the count of a shift, from 0 to 31
unfoldable pub count : Bool → ℕ → Result ℕ Fault
count negative value = if in_range 0 31 negative value then Ok value else Err NumberOutOfRange

-- a data word, from - 2147483648 to 4294967295, modulo 2 ^ 32
unfoldable pub data_word : Bool → ℕ → Result ℕ Fault
data_word negative value = if in_range 2147483648 4294967295 negative value then Ok
    (if negative then (2 ^ 32 - value) % 2 ^ 32 else value) else Err NumberOutOfRange

-- what the label of this name names
abbrev pub label_named : List (List ℕ × Label) → List ℕ → Option Label
label_named labels name = lookup (bytes_eq name) labels

-- what a label in an operand names
unfoldable pub any_label : List (List ℕ × Label) → List ℕ → Result Label Fault
any_label labels name = ok_or (label_named labels name) UndefinedLabel

-- the index of a code label
abbrev pub code_index : Label → Result ℕ Fault
code_index (Code i) = Ok i
code_index (Data a) = Err WrongLabelKind

-- the index that a code label names
unfoldable pub code_label : List (List ℕ × Label) → List ℕ → Result ℕ Fault
code_label labels name = any_label labels name >>= code_index

-- the address of a data label
abbrev pub data_address : Label → Result ℕ Fault
data_address (Data a) = Ok a
data_address (Code i) = Err WrongLabelKind

-- the address that a data label names
unfoldable pub data_label : List (List ℕ × Label) → List ℕ → Result ℕ Fault
data_label labels name = any_label labels name >>= data_address

-- an offset is a number, or the address of a data label
unfoldable pub offset : List (List ℕ × Label) → Word → Result ℤ Fault
offset labels (Number negative value) = immediate negative value
offset labels (Name label) = data_label labels label >>= λ a. Ok (pos a)
offset labels _ = Err BadOperands
