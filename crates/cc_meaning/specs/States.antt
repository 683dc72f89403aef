-- States of a program, and what instructions change in them.
use Rattle.std.specs.Prelude.{ℕ, suc, ◌/◌, ◌-◌, ◌^◌, ◌==◌, if◌then◌else◌, List, Option, Some, None, slice_get, slice_index_or, slice_set}
use Rattle.cc_lines.specs.declared.instruction.Register.{Register}
use Rattle.cc_lines.specs.declared.instruction.Special.{Special}
use Rattle.cc_lines.specs.declared.instruction.Special.TheVariants.{Lo, Hi}
use Rattle.cc_meaning.specs.declared.value.Value.{Value}
use Rattle.cc_meaning.specs.declared.value.Value.TheVariants.{Number, Code}
use Rattle.cc_meaning.specs.declared.value.Why.{Why}
use Rattle.cc_meaning.specs.declared.effect.Effect.{Effect}
use Rattle.cc_meaning.specs.declared.effect.Effect.TheVariants.{Follows, Puts, PutsSpecial, PutsPair, Writes, Sends, Takes, Goes, GoesBy, Calls, Halts}
use Rattle.cc_meaning.specs.Values.{unspecified}

pub record State : Type 0 where
  pub next : ℕ  -- the number of the item that comes next
  pub registers : List Value  -- 32, of which register 0 is not read
  pub low : Value  -- LO
  pub high : Value  -- HI
  pub memory : List Value  -- a word each, from byte 0 on
  pub taken : ℕ  -- how many bytes of the input were taken

-- what a step does: it leaves a state, and may send a byte; or the program ends with a status, or cannot go on
pub data Outcome : Type 0 where
  Next : (after : State) (sent : Option ℕ) → Outcome
  Halted : (status : ℕ) → Outcome
  Stuck : (why : Why) → Outcome

-- what a register holds; register 0 is 0
abbrev pub register : State → Register → Value
register s r = if r.0 == 0 then Number 0 else slice_index_or s.registers r.0 unspecified

abbrev pub with_register : State → Register → Value → State
with_register s r v = if r.0 == 0 then s else record s { registers = slice_set s.registers r.0 v }

-- the word of memory that a byte is in
abbrev pub memory_word : State → ℕ → Value
memory_word s address = slice_index_or s.memory (address / 4) unspecified

abbrev pub special : State → Special → Value
special s Lo = s.low
special s Hi = s.high

abbrev pub with_special : State → Special → Value → State
with_special s Lo v = record s { low = v }
with_special s Hi v = record s { high = v }

-- memory with a value in the word that a byte is in
abbrev pub with_word : State → ℕ → Value → State
with_word s address v = record s { memory = slice_set s.memory (address / 4) v }

-- the next byte of the input in a register, or all bits set where there is none left
abbrev pub with_input : Option ℕ → Register → State → State
with_input (Some byte) r s = with_register (record s { taken = suc s.taken }) r (Number byte)
with_input None r s = with_register s r (Number (2 ^ 32 - 1))

-- what an effect changes but for the item that comes next, with this input
abbrev pub changed : List ℕ → Effect → State → State
changed input (Puts r v) s = with_register s r v
changed input (PutsSpecial r v) s = with_special s r v
changed input (PutsPair low high) s = record s { low = Number low; high = Number high }
changed input (Writes address v) s = with_word s address v
changed input (Takes r) s = with_input (slice_get input s.taken) r s
changed input (GoesBy r item) s = with_register s r unspecified
changed input (Calls item) s = with_register s (record { 0 = 31 }) (Code (suc s.next))
changed input _ s = s

-- the item that comes next, where another one follows this one
abbrev pub next_item : Effect → ℕ → ℕ
next_item (Goes item) following = item
next_item (GoesBy r item) following = item
next_item (Calls item) following = item
next_item _ following = following

abbrev pub sent : Effect → Option ℕ
sent (Sends byte) = Some byte
sent _ = None

abbrev pub goes_to : ℕ → State → State
goes_to item s = record s { next = item }

-- what an effect makes of a state
abbrev pub applied : List ℕ → Effect → State → Outcome
applied input (Halts status) s = Halted status
applied input e s = Next (goes_to (next_item e (suc s.next)) (changed input e s)) (sent e)
