-- What each instruction does, after Kane and Heinrich's book on the R2000. Branches and jumps have no delay slots here, as the assembler
-- fills these. Register 31 takes the code address of a call's next item.
use Rattle.std.specs.Prelude.{ℕ, suc, ◌+◌, ◌%◌, ◌&&◌, ◌||◌, Bool, true, false, ◌==◌, if◌then◌else◌, length, Option, Some, None, Result, Ok, Err}
use Rattle.std.specs.Option.{option_and_then}
use Rattle.cc_lines.specs.declared.instruction.Instruction.{Instruction}
use Rattle.cc_lines.specs.declared.instruction.Instruction.TheVariants as i
use Rattle.cc_lines.specs.declared.instruction.Condition.{Condition}
use Rattle.cc_lines.specs.declared.instruction.Long.{Long}
use Rattle.cc_lines.specs.declared.instruction.LinkFrom.{LinkFrom}
use Rattle.cc_lines.specs.declared.instruction.LinkFrom.TheVariants as to
use Rattle.cc_lines.specs.declared.instruction.Register.{Register}
use Rattle.cc_lines.specs.declared.instruction.Source.{Source}
use Rattle.cc_lines.specs.declared.instruction.Source.TheVariants as source
use Rattle.cc_lines.specs.declared.instruction.Width.{Width}
use Rattle.cc_lines.specs.declared.instruction.Width.TheVariants.{Word}
use Rattle.cc_program.specs.declared.program.Program.{Program}
use Rattle.cc_program.specs.declared.symbols.Meaning.{Meaning}
use Rattle.cc_program.specs.declared.symbols.Meaning.TheVariants as means
use Rattle.cc_program.specs.Programs.{meaning_of, address_of}
use Rattle.cc_meaning.specs.declared.value.Value.{Value}
use Rattle.cc_meaning.specs.declared.value.Value.TheVariants.{Number, Code}
use Rattle.cc_meaning.specs.declared.value.Why.{Why}
use Rattle.cc_meaning.specs.declared.value.Why.TheVariants.{Outside, NotCode}
use Rattle.cc_meaning.specs.declared.effect.Effect.{Effect}
use Rattle.cc_meaning.specs.declared.effect.Effect.TheVariants.{Follows, Puts, PutsSpecial, PutsPair, Writes, Sends, Takes, Goes, GoesBy, Calls, Halts}
use Rattle.cc_meaning.specs.declared.effect.TheConstants.{INPUT, CONSOLE, STATUS_TRAP, STATUS_ZERO, BREAK_END, BREAK_OVERFLOW, BREAK_ZERO}
use Rattle.cc_meaning.specs.Values.{and_then, number_of, code_of}
use Rattle.cc_meaning.specs.declared.layout.Layout.{Layout}
use Rattle.cc_meaning.specs.Layouts.{item_named, is_memory}
use Rattle.cc_meaning.specs.Memory.{loaded, stored}
use Rattle.cc_meaning.specs.Arithmetic.{word, compared, computed, shifted, multiplied}
use Rattle.cc_meaning.specs.States.{State, register, memory_word, special}

-- ---- symbols

-- the address of a label without a descriptor, which a jump table holds, is its code address
abbrev pub label_value : ℕ → ℕ → Value
label_value item address = if address == 0 then Code item else Number address

-- the address of a symbol: of code that of its descriptor, of data their own, of `_end` the first byte after all data
abbrev pub value_meant : Program → Layout → ℕ → Meaning → Value
value_meant p l symbol (means.Place item function) = label_value item (address_of p symbol)
value_meant p l symbol means.End = Number l.end
value_meant p l symbol _ = Number (address_of p symbol)

abbrev pub symbol_value : Program → Layout → Option ℕ → Value
symbol_value p l (Some symbol) = value_meant p l symbol (meaning_of p.symbols.list.items symbol)
symbol_value p l None = Number 0

-- ---- loads and stores

-- a symbol's address, a number and what a register holds, added
abbrev pub address : Value → State → Register → ℕ → Result ℕ Why
address symbol s base offset = and_then (number_of (register s base)) (λ b. and_then (number_of symbol) (λ a. Ok (word (a + word (b + offset)))))

abbrev pub is_word : Width → Bool
is_word Word = true
is_word _ = false

abbrev pub puts : Register → Result Value Why → Result Effect Why
puts rd result = and_then result (λ v. Ok (Puts rd v))

-- a load of a word from INPUT takes a byte of the input
abbrev pub load_at : Layout → Width → State → Register → ℕ → Result Effect Why
load_at l width s rd a =
    if is_memory l a then puts rd (loaded width (a % 4) (memory_word s a) (register s rd))
    else if is_word width && a == INPUT then Ok (Takes rd) else Err Outside

-- a store of a word to CONSOLE sends its last byte
abbrev pub store_at : Layout → Width → State → Register → ℕ → Result Effect Why
store_at l width s rs a =
    if is_memory l a then and_then (stored width (a % 4) (memory_word s a) (register s rs)) (λ v. Ok (Writes a v))
    else if is_word width && a == CONSOLE then and_then (number_of (register s rs)) (λ n. Ok (Sends (n % 256))) else Err Outside

abbrev pub loads : Layout → Value → State → Width → Register → Register → ℕ → Result Effect Why
loads l symbol s width rd base offset = and_then (address symbol s base offset) (load_at l width s rd)

abbrev pub stores : Layout → Value → State → Width → Register → Register → ℕ → Result Effect Why
stores l symbol s width rs base offset = and_then (address symbol s base offset) (store_at l width s rs)

-- ---- branches, jumps and calls

abbrev pub source_value : State → Source → Value
source_value s (source.Register r) = register s r
source_value s (source.Number n) = Number n

-- the item that a symbol names
abbrev pub target_of : Option ℕ → Result ℕ Why
target_of (Some item) = Ok item
target_of None = Err NotCode

abbrev pub target : Program → Option ℕ → Result ℕ Why
target p symbol = target_of (option_and_then (item_named p) symbol)

-- a pointer to a function or a label leads to the code address in the word at that number
abbrev pub pointed : State → ℕ → Result ℕ Why
pointed s a = if a % 4 == 0 then code_of (memory_word s a) else Err NotCode

abbrev pub pointed_by : State → Value → Result ℕ Why
pointed_by s v = and_then (number_of v) (pointed s)

-- where the first function returns to: past all items
abbrev pub caller : Program → ℕ
caller p = suc (length p.items.items)

-- the program ends with the last byte of register 2 as its status
abbrev pub ends : State → Result Effect Why
ends s = and_then (number_of (register s (record { 0 = 2 }))) (λ n. Ok (Halts (n % 256)))

abbrev pub goes : Program → State → ℕ → Result Effect Why
goes p s item = if item == caller p then ends s else Ok (Goes item)

-- a jump by a register that holds a code address, which a return leaves as it is; or by one that holds a pointer, but for a return
abbrev pub goes_by : Program → State → Register → ℕ → Result Effect Why
goes_by p s r item = if item == caller p then ends s else Ok (if r.0 == 31 then Goes item else GoesBy r item)

abbrev pub jumps_by : Program → State → Register → Value → Result Effect Why
jumps_by p s r (Code item) = goes_by p s r item
jumps_by p s r v = if r.0 == 31 then Err NotCode else and_then (pointed_by s v) (goes p s)

abbrev pub jumps : Program → Option ℕ → State → LinkFrom → Result Effect Why
jumps p symbol s to.Symbol = and_then (target p symbol) (goes p s)
jumps p symbol s (to.Register r) = jumps_by p s r (register s r)

abbrev pub called : Program → Option ℕ → State → LinkFrom → Result ℕ Why
called p symbol s to.Symbol = target p symbol
called p symbol s (to.Register r) = pointed_by s (register s r)

abbrev pub calls : Program → Option ℕ → State → LinkFrom → Result Effect Why
calls p symbol s to = and_then (called p symbol s to) (λ item. Ok (Calls item))

abbrev pub branches : Program → Option ℕ → Bool → Result Effect Why
branches p symbol taken = if taken then and_then (target p symbol) (λ item. Ok (Goes item)) else Ok Follows

abbrev pub compares : Program → Option ℕ → State → Condition → Register → Source → Result Effect Why
compares p symbol s condition rs second = and_then (compared condition (register s rs) (source_value s second)) (branches p symbol)

-- break: the library ends a program by its own code, and a trap ends it with the status that Linux gives
abbrev pub breaks : State → ℕ → Result Effect Why
breaks s code =
    if code == BREAK_END then ends s
    else if code == BREAK_OVERFLOW || code == BREAK_ZERO then Ok (Halts STATUS_ZERO) else Ok (Halts STATUS_TRAP)

-- ---- all instructions

abbrev pub multiplies : State → Long → Register → Register → Result Effect Why
multiplies s op rs rt =
    and_then (number_of (register s rs)) (λ a. and_then (number_of (register s rt)) (λ b. and_then (multiplied op a b) (λ r. Ok (PutsPair r.0 r.1))))

-- a value of a number
abbrev pub number : Result ℕ Why → Result Value Why
number result = and_then result (λ n. Ok (Number n))

-- what an instruction does that names a symbol, if it does
abbrev pub effect : Program → Layout → Option ℕ → State → Instruction → Result Effect Why
effect p l symbol s (i.Compute op rd rs second) = puts rd (computed op (register s rs) (source_value s second))
effect p l symbol s (i.Shift op rd rs by) = puts rd (shifted op (register s rs) (source_value s by))
effect p l symbol s (i.Move rd rs) = Ok (Puts rd (register s rs))
effect p l symbol s (i.Number rd n) = Ok (Puts rd (Number n))
effect p l symbol s (i.Address rd base offset) = puts rd (number (address (symbol_value p l symbol) s base offset))
effect p l symbol s (i.Load width rd base offset) = loads l (symbol_value p l symbol) s width rd base offset
effect p l symbol s (i.Store width rs base offset) = stores l (symbol_value p l symbol) s width rs base offset
effect p l symbol s (i.Long op rs rt) = multiplies s op rs rt
effect p l symbol s (i.FromSpecial from rd) = Ok (Puts rd (special s from))
effect p l symbol s (i.ToSpecial into rs) = Ok (PutsSpecial into (register s rs))
effect p l symbol s (i.Branch condition rs second) = compares p symbol s condition rs second
effect p l symbol s (i.Jump to) = jumps p symbol s to
effect p l symbol s (i.Call to) = calls p symbol s to
effect p l symbol s (i.Break code) = breaks s code
effect p l symbol s i.Nop = Ok Follows
