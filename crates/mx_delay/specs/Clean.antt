-- Clean runs of the machine with delay slots: what compiled code does, and what a pipeline with interrupts then keeps.
use Rattle.std.specs.Prelude.{◌≡◌, ℕ, zero, suc, ◌+◌, Bool, true, cond, eqb, leb, ltb, not, ◌&&◌, ◌||◌, List, Option, Some, None, is_some}
use Rattle.mx_isa.specs.declared.inst.Inst.{Inst}
use Rattle.mx_isa.specs.declared.place.Place.{Place}
use Rattle.mx_isa.specs.Words.{Words}
use Rattle.mx_isa.specs.Views.{Access, access, address, dest, is_load, reads}
use Rattle.mx_isa.specs.UserBus.{is_user}
use Rattle.mx_delay.specs.Delay.{Code, does, Delay, delay_step, delay_start}

-- the address of one of n code words
abbrev pub is_inside : Place → ℕ → ℕ → Bool
is_inside p n a = leb p.code a && ltb a (p.code + n)

-- a load reaches user data or the input, if there is one; a store reaches user data or the console
abbrev pub is_lawful : Place → Option (List ℕ) → Option Access → Words → Bool
is_lawful p input None r = true
is_lawful p input (Some a) r =
    is_user p (address a r)
    || cond a.stores (eqb (address a r) p.console) (is_some input && eqb (address a r) p.input)

-- the step takes a word of the image, its access is lawful, and no address below the code enters the queue
abbrev pub is_clean_step : Code → (ℕ → Bool) → Place → Option (List ℕ) → Delay → Bool
is_clean_step code inside p input s =
    inside s.first.address
    && (is_lawful p input (access (does code s.first)) s.core.regs && leb p.code (delay_step code p input s).third.address)

-- the register that an instruction loads, or 0; r0 counts as none
abbrev pub loads_to : Inst → ℕ
loads_to i = cond (is_load i) (dest i) 0

-- a state, whether each step so far was clean, and the register that the last step loaded
pub record Watched : Type 0 where
  pub at : Delay
  pub clean : Bool
  pub loaded : ℕ

-- one step; a load may not be followed at once by a word that reads its register
abbrev pub watch : Code → (ℕ → Bool) → Place → Option (List ℕ) → Watched → Watched
watch code inside p input s =
    let i = does code s.at.first in
    cond s.at.halted s (record {
      at = delay_step code p input s.at;
      clean = s.clean && (is_clean_step code inside p input s.at && not (reads i s.loaded));
      loaded = loads_to i;
    })

abbrev pub watch_start : Place → Words → Watched
watch_start p data_words = record { at = delay_start p data_words; clean = true; loaded = 0 }

-- n steps from a state
abbrev pub watch_for : Code → (ℕ → Bool) → Place → Option (List ℕ) → ℕ → Watched → Watched
watch_for code inside p input zero s = s
watch_for code inside p input (suc n) s = watch_for code inside p input n (watch code inside p input s)

-- the first n steps, up to a halt, are clean
abbrev pub IsClean : Code → (ℕ → Bool) → Place → Option (List ℕ) → Words → ℕ → Type 0
IsClean code inside p input data_words n = (watch_for code inside p input n (watch_start p data_words)).clean ≡ true
