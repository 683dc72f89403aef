-- What one user turn of the machine has to do with one step of the machine with delay slots.
use Rattle.std.specs.Prelude.{◌≡◌, ℕ, Bool, true, false, List, Option, Some}
use Rattle.mx_isa.specs.declared.board.TheConstants.{CONSOLE, INPUT}
use Rattle.mx_isa.specs.declared.place.Place.{Place}
use Rattle.mx_isa.specs.Words.{Words}
use Rattle.mx_isa.specs.Views.{reads}
use Rattle.mx_isa.specs.UserBus.{is_user}
use Rattle.mx_delay.specs.Delay.{Code, Queued, does, Delay, delay_step, delay_byte}
use Rattle.mx_delay.specs.Clean.{is_clean_step}
use Rattle.mx_pcchain.specs.Fetch.{Fetch}
use Rattle.mx_turn.specs.Counted.{Counted}
use Rattle.mx_turn.specs.Cycle.{MachineState, shifted, commit_byte, is_taken, reached, ended}

abbrev pub as_fetch : Queued → Fetch
as_fetch q = record { address = q.address; squashed = q.squashed }

-- the two hold the same user data of the place
abbrev pub UserSame : Place → Words → Words → Type 0
UserSame p m m' = (a : ℕ) → is_user p a ≡ true → m a ≡ m' a

-- once the word in MEM has committed in a turn: the mode is user, the fetches in ALU, RF and IF are the queue, and the other parts are equal
pub record Follows (p : Place) (m : MachineState) (d : Delay) : Type 0 where
  pub user : m.psw.current.user ≡ true
  pub alu : m.alu ≡ Some (as_fetch d.first)
  pub rf : m.rf ≡ Some (as_fetch d.second)
  pub fetch : m.fetch ≡ Some (as_fetch d.third)
  pub next : m.next ≡ as_fetch d.third
  pub regs : m.core.regs ≡ d.core.regs
  pub md : m.core.md ≡ d.core.md
  pub mem : UserSame p m.core.mem d.core.mem
  pub taken : m.core.taken ≡ d.core.taken
  pub halted : m.halted ≡ d.halted

-- the console and the input are where the board has them
pub record IsOnBoard (p : Place) : Type 0 where
  pub console : p.console ≡ CONSOLE
  pub input : p.input ≡ INPUT

-- the machine before the next turn acts: only the wait, requests and counts come between
abbrev pub before_turn : ℕ → Bool → Counted → MachineState → MachineState
before_turn stall latch counts m = record m { stall = stall; latch = latch; counts = counts }

-- One user turn, which takes no interrupt and does not end the run, makes the next one follow one step later, and the two give the same byte,
-- where the word that the step takes is the same for both and does not read the register of a load in MEM, and the step is clean.
abbrev pub OneUserTurn : Type 0
OneUserTurn =
    (code code' : Code) (inside : ℕ → Bool) (p : Place) (input : Option (List ℕ)) (m : MachineState) (d : Delay) (stall : ℕ) (latch : Bool) (counts : Counted)
    → IsOnBoard p
    → Follows p m d
    → m.halted ≡ false
    → is_taken m ≡ false
    → reads (does code' d.first) m.slot.register ≡ false
    → is_clean_step code' inside p input d ≡ true
    → code d.first.address ≡ code' d.first.address
    → let n = before_turn stall latch counts (ended code m) in
    Follows p (reached code input n) (delay_step code' p input d) × (commit_byte code input (shifted n) ≡ delay_byte code' p input d)
