-- The state in which a program starts: memory has its data and is 0 elsewhere, as Linux and the board give it. Of the registers only the
-- stack pointer and the link are specified.
use Rattle.std.specs.Prelude.{ℕ, ◌+◌, ◌/◌, ◌%◌, ◌==◌, if◌then◌else◌, List, [], ◌∷◌, length, fold, replicate, Option, Some, None, unwrap_or, slice_index_or, slice_set}
use Rattle.cc_lines.specs.declared.instruction.Operation.TheVariants.{Sub}
use Rattle.cc_program.specs.declared.item.Object.{Object}
use Rattle.cc_program.specs.declared.item.Reference.{Reference}
use Rattle.cc_program.specs.declared.program.Program.{Program}
use Rattle.cc_program.specs.Programs.{address_of}
use Rattle.cc_meaning.specs.declared.value.Value.{Value}
use Rattle.cc_meaning.specs.declared.value.Value.TheVariants.{Number, Code}
use Rattle.cc_meaning.specs.declared.layout.Layout.{Layout}
use Rattle.cc_meaning.specs.declared.data.TheConstants.{MEMORY_WORDS}
use Rattle.cc_meaning.specs.declared.machine.TheConstants.{STACK_TOP}
use Rattle.cc_meaning.specs.Values.{unspecified, value_of, known_bytes}
use Rattle.cc_meaning.specs.Memory.{with_byte}
use Rattle.cc_meaning.specs.Arithmetic.{word, operated}
use Rattle.cc_meaning.specs.Layouts.{item_named}
use Rattle.cc_meaning.specs.States.{State}
use Rattle.cc_meaning.specs.Instructions.{symbol_value, caller}

-- a byte of memory
abbrev pub with_datum : List Value → ℕ → ℕ → List Value
with_datum m a byte =
    slice_set m (a / 4) (value_of (with_byte (known_bytes (slice_index_or m (a / 4) unspecified)) (a % 4) (Some byte)))

-- bytes of memory from an address on
abbrev pub with_bytes : List Value → ℕ → List ℕ → List Value
with_bytes m a [] = m
with_bytes m a (byte ∷ bytes) = with_bytes (with_datum m a byte) (a + 1) bytes

-- a word that is a symbol's address and a number, less the address of another symbol
abbrev pub reference_value : Program → Value → ℕ → Option ℕ → Value
reference_value p (Number n) addend None = Number (word (n + addend))
reference_value p (Number n) addend (Some from) = Number (operated Sub (word (n + addend)) (address_of p from))
reference_value p (Code item) addend None = if addend == 0 then Code item else unspecified
reference_value p _ addend from = unspecified

abbrev pub with_reference : Program → Layout → ℕ → List Value → Reference → List Value
with_reference p l start m r = slice_set m ((start + r.at) / 4) (reference_value p (symbol_value p l (Some r.symbol)) r.addend r.from)

-- a datum: the bytes that it holds, where the others are 0, and its words that name symbols; or the code address that a descriptor holds
abbrev pub with_content : Program → Layout → List Value → Object → Option ℕ → List Value
with_content p l m o (Some item) = slice_set m (o.standing.address / 4) (Code item)
with_content p l m o None =
    let start = o.standing.address in
    fold (with_reference p l start) (with_bytes m start o.content.bytes.items) o.content.references.items

-- those data are in memory that the program reaches
abbrev pub with_object : Program → Layout → List Value → Object → List Value
with_object p l m o = if o.kept then with_content p l m o (item_named p o.symbol) else m

-- so many words of 0
unfoldable pub empty_memory : ℕ → List Value
empty_memory words = replicate words (Number 0)

abbrev pub start_memory : Program → Layout → List Value
start_memory p l = fold (with_object p l) (empty_memory MEMORY_WORDS) p.objects.items

-- all are unspecified but the stack pointer, and the link to where the first function returns
abbrev pub start_registers : ℕ → List Value
start_registers link = slice_set (slice_set (replicate 32 unspecified) 29 (Number STACK_TOP)) 31 (Code link)

-- a program that starts at a symbol
abbrev pub start : Program → Layout → ℕ → State
start p l symbol = record {
  next = unwrap_or (item_named p symbol) (length p.items.items);
  registers = start_registers (caller p);
  low = unspecified;
  high = unspecified;
  memory = start_memory p l;
  taken = 0;
}
