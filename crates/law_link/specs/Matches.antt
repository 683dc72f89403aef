-- What a state of the machine shows of the meaning.
use Rattle.std.specs.Prelude.{◌≡◌, ℕ, ◌≤◌, true, List}
use Rattle.mx_isa.specs.declared.Place.{Place}
use Rattle.mx_isa.specs.Effect.{Core}
use Rattle.mx_isa.specs.UserBus.{is_user}
use Rattle.mx_source.specs.Meaning.{State}
use Rattle.mx_squash.specs.Copies.{Site}
use Rattle.mx_link.specs.Words.{value_word}
use Rattle.mx_link.specs.Linked.{link_map}

-- a block has at most this many statements, and runs in an order of its own: what is said of the meaning looks so far ahead
abbrev pub block_ahead : ℕ
block_ahead = 64

-- The machine holds what the meaning holds: registers 1 to 31 and user data, places of code being their addresses in a layout, MD, and
-- the number of input bytes taken.
pub record Matches (place : Place) (sites : List Site) (core : Core) (s : State) : Type 0 where
  pub registers : (n : ℕ) → 1 ≤ n → n ≤ 31 → core.regs n ≡ value_word (link_map place sites) (s.regs n)
  pub user_data : (a : ℕ) → is_user place a ≡ true → core.mem a ≡ value_word (link_map place sites) (s.mem a)
  pub md : core.md ≡ s.md
  pub taken : core.taken ≡ s.taken
