-- How often the machine with delay slots executes the word at an address.
use Rattle.std.specs.Prelude.{ℕ, zero, suc, ◌+◌, Bool, cond, eqb, not, ◌&&◌, List, Option}
use Rattle.mx_isa.specs.declared.place.Place.{Place}
use Rattle.mx_isa.specs.Words.{Words}
use Rattle.mx_delay.specs.Delay.{Code, Delay, delay}

-- the coming step executes the word at an address: the machine has not halted, and a fetch of it, not squashed, is first
abbrev pub executes : ℕ → Delay → Bool
executes address s = not s.halted && (not s.first.squashed && eqb s.first.address address)

-- how many of the first n steps do, from the start with these data words
abbrev pub executions : Code → Place → Option (List ℕ) → Words → ℕ → ℕ → ℕ
executions code p input data_words address zero = 0
executions code p input data_words address (suc n) =
    executions code p input data_words address n + cond (executes address (delay code p input data_words n)) 1 0
