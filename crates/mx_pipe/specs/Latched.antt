-- What passes from one stage to the next.
use Rattle.std.specs.Prelude.{ℕ, Bool, true, cond, Option, None, unwrap_or}
use Rattle.mx_isa.specs.declared.inst.Inst.{Inst}
use Rattle.mx_delay.specs.Delay.{idle}
use Rattle.mx_pcchain.specs.Fetch.{Fetch}
use Rattle.mx_turn.specs.Stages.{squash}

-- a fetch, what its word does, its operands, the number that it makes, and the MD that it makes
pub record Latched : Type 0 where
  pub word : Option Fetch
  pub inst : Option Inst
  pub a : ℕ
  pub b : ℕ
  pub result : ℕ
  pub md : ℕ

-- what the word of a latch does; where there is none, it does nothing
abbrev pub does : Latched → Inst
does l = unwrap_or l.inst idle

-- the latch of a word that does nothing
abbrev pub cleared : Option Fetch → Latched
cleared word = record { word = word; inst = None; a = 0; b = 0; result = 0; md = 0 }

-- a branch may squash the word
abbrev pub squashed_if : Bool → Latched → Latched
squashed_if b l = cond b (cleared (squash true l.word)) l
