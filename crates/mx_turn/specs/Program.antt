-- What a machine runs, and its state after a list of request bits.
use Rattle.std.specs.Prelude.{ℕ, zero, suc, Bool, false, cond, leb, List, [], ◌∷◌, ◌++◌, Option, option_to_list}
use Rattle.std.specs.Borrow.{Bor}
use Rattle.std.specs.Option.{option_copied}
use Rattle.mx_isa.specs.declared.board.TheConstants.{CODE_BASE, DATA_BASE}
use Rattle.mx_isa.specs.Words.{Words}
use Rattle.mx_delay.specs.Delay.{Code, code_from, data_from}
use Rattle.mx_code.specs.declared.image.Image.{Image}
use Rattle.mx_code.specs.Decoding.{inst_of}
use Rattle.mx_icache.specs.Residency.{resident}
use Rattle.mx_turn.specs.declared.machine.Cycled.{Cycled}
use Rattle.mx_turn.specs.Handler.{shipped}
use Rattle.mx_turn.specs.Cycle.{MachineState, answer, start, after_bits}

-- an image's code words, which stand from 4096 on, the words of a handler, from 0 on, the image's data words, from 256 on, and the input, if there is one
pub record Program : Type 0 where
  pub user_words : List ℕ
  pub handler_words : List ℕ
  pub data_words : List ℕ
  pub input : Option (List ℕ)

-- the handler's words first
abbrev pub program_of : List ℕ → List ℕ → List ℕ → Option (List ℕ) → Program
program_of handler user data_words input = record { user_words = user; handler_words = handler; data_words = data_words; input = input }

-- what an image is with a handler, and with an input or none
abbrev pub image_under : List ℕ → Image → Option (Bor (List ℕ)) → Program
image_under handler image input = program_of handler image.code.items image.user_data.items (option_copied input)

-- the same with the shipped handler
abbrev pub image_program : Image → Option (Bor (List ℕ)) → Program
image_program image input = image_under shipped image input

-- the handler's code below 4096, and the user's from there on
abbrev pub code_with : Code → Code → Code
code_with handler user a = cond (leb CODE_BASE a) (user a) (handler a)

-- what every code address does
abbrev pub code_of : Program → Code
code_of p = code_with (code_from inst_of 0 p.handler_words) (code_from inst_of CODE_BASE p.user_words)

-- the data words at the start
abbrev pub memory_of : Program → Words
memory_of p = data_from DATA_BASE p.data_words

-- the machine after these request bits
abbrev pub state_after : Program → List Bool → MachineState
state_after p h = after_bits resident (code_of p) p.input (start (memory_of p)) h

-- what the next cycle answers
abbrev pub answer_after : Program → List Bool → Bool → Cycled
answer_after p h request = answer (code_of p) p.input (state_after p h) request

-- these request bits, and then those of n cycles without a request
abbrev pub quiet : List Bool → ℕ → List Bool
quiet h zero = h
quiet h (suc n) = quiet h n ++ false ∷ []

-- the bytes that go to the console in n cycles without a request, after these request bits
abbrev pub quiet_bytes : Program → List Bool → ℕ → List ℕ
quiet_bytes p h zero = []
quiet_bytes p h (suc n) = quiet_bytes p h n ++ option_to_list (answer_after p (quiet h n) false).byte
