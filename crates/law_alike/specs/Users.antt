-- States from which user code goes on alike, whatever the system's words hold.
use Rattle.std.specs.Prelude.{◌≡◌, ℕ, true, false}
use Rattle.mx_isa.specs.Words.{Words}
use Rattle.mx_board.specs.Data.{is_user_data}
use Rattle.mx_turn.specs.Cycle.{MachineState}
use Rattle.law_alike.specs.Alike.{GoOnLike}

-- the same words of user data
abbrev pub SameUserData : Words → Words → Type 0
SameUserData mem mem' = (a : ℕ) → is_user_data a ≡ true → mem a ≡ mem' a

-- a state with other data words
abbrev pub with_words : MachineState → Words → MachineState
with_words m words = record m { core = record m.core { mem = words } }

-- user code runs, no request is latched, and two states go on alike but for the words of the system, which user code never reads
pub record UsersGoOnLike (m m' : MachineState) : Type 0 where
  pub user : m.psw.current.user ≡ true
  pub quiet : m.latch ≡ false
  pub kept : SameUserData m.core.mem m'.core.mem
  pub rest : GoOnLike (with_words m m'.core.mem) m'
