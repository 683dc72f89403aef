-- The machine with delay slots, one word at a time. It has no stages, turns, cache or interrupts.
use Rattle.std.specs.Prelude.{ℕ, zero, suc, ◌+◌, ◌-◌, ◌%◌, ◌^◌, Bool, false, cond, leb, ◌||◌, List, [], ◌++◌, Option, Some, None, unwrap_or, option_and_then, option_to_list, slice_get, slice_index}
use Rattle.mx_isa.specs.declared.inst.Op.TheVariants.{Add}
use Rattle.mx_isa.specs.declared.inst.Inst.{Inst}
use Rattle.mx_isa.specs.declared.inst.Inst.TheVariants.{Compute}
use Rattle.mx_isa.specs.declared.place.Place.{Place}
use Rattle.mx_isa.specs.Words.{Words}
use Rattle.mx_isa.specs.Effect.{Decision, Core, change, decides, act, sent}
use Rattle.mx_isa.specs.Views.{is_halt}
use Rattle.mx_isa.specs.UserBus.{user_bus}

-- what each address of code holds
abbrev pub Code : Type 0
Code = ℕ → Inst

-- the no-op
abbrev pub idle : Inst
idle = Compute 0 0 0 Add

-- code words from an address on, by what each word spells; the no-op elsewhere and where a word spells nothing
abbrev pub code_from : (ℕ → Option Inst) → ℕ → List ℕ → Code
code_from spells base words a = cond (leb base a) (unwrap_or (option_and_then spells (slice_get words (a - base))) idle) idle

-- data words from an address on, and 0 elsewhere
abbrev pub data_from : ℕ → List ℕ → Words
data_from base words a = cond (leb base a) (slice_index words (a - base)) 0

-- a fetch that waits in the queue: an address, and whether a branch squashed it
pub record Queued : Type 0 where
  pub address : ℕ
  pub squashed : Bool

abbrev pub queued : ℕ → Queued
queued a = record { address = a; squashed = false }

abbrev pub squash : Bool → Queued → Queued
squash b q = record { address = q.address; squashed = b || q.squashed }

-- what a fetch of the queue does; a squashed one does nothing
abbrev pub does : Code → Queued → Inst
does code q = cond q.squashed idle (code q.address)

-- the target of a transfer that goes, else the address after the last one; code addresses are modulo 2 ^ 31
abbrev pub next_of : Option ℕ → ℕ → ℕ
next_of None last = (last + 1) % 2 ^ 31
next_of (Some target) last = target

-- the queue of three fetches, registers with MD and data, the bytes of the console so far, and whether it has halted
pub record Delay : Type 0 where
  pub first : Queued
  pub second : Queued
  pub third : Queued
  pub core : Core
  pub console : List ℕ
  pub halted : Bool

-- the byte that an instruction of user code sends
abbrev pub user_byte : Place → Option (List ℕ) → Inst → ℕ → Core → Option ℕ
user_byte p input i at s = sent (user_bus p input) (change i at s.regs s.md ((user_bus p input).load s.mem s.taken)).stores

-- the first fetch takes effect at once, and decides
abbrev pub stepped : Place → Option (List ℕ) → Inst → Decision → Delay → Delay
stepped p input i d s = record {
  first = squash d.cancels s.second;
  second = squash d.cancels s.third;
  third = queued (next_of d.target s.third.address);
  core = act (user_bus p input) i s.first.address s.core.regs s.core;
  console = s.console ++ option_to_list (user_byte p input i s.first.address s.core);
  halted = is_halt i;
}

-- one step, at a place and with an input or none
abbrev pub delay_step : Code → Place → Option (List ℕ) → Delay → Delay
delay_step code p input s =
    let i = does code s.first in
    cond s.halted s (stepped p input i (decides i s.first.address s.core.regs) s)

-- the byte that a step sends
abbrev pub delay_byte : Code → Place → Option (List ℕ) → Delay → Option ℕ
delay_byte code p input s = cond s.halted None (user_byte p input (does code s.first) s.first.address s.core)

-- before the first step, with these data words
abbrev pub delay_start : Place → Words → Delay
delay_start p data_words = record {
  first = queued p.code;
  second = queued (p.code + 1);
  third = queued (p.code + 2);
  core = record { regs = λ n. 0; md = 0; mem = data_words; taken = 0 };
  console = [];
  halted = false;
}

-- n steps from a state
abbrev pub delay_for : Code → Place → Option (List ℕ) → ℕ → Delay → Delay
delay_for code p input zero s = s
delay_for code p input (suc n) s = delay_for code p input n (delay_step code p input s)

-- the state after n steps
abbrev pub delay : Code → Place → Option (List ℕ) → Words → ℕ → Delay
delay code p input data_words n = delay_for code p input n (delay_start p data_words)
