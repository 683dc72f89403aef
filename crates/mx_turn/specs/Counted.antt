-- What a machine counts.
use Rattle.std.specs.Prelude.{ℕ, ◌+◌, Bool, cond}

pub record Counted : Type 0 where
  pub cycles : ℕ
  pub fetches : ℕ
  pub misses : ℕ
  pub squashes : ℕ
  pub interrupts : ℕ

abbrev pub no_counts : Counted
no_counts = record { cycles = 0; fetches = 0; misses = 0; squashes = 0; interrupts = 0 }

-- a stalled cycle is counted
abbrev pub after_stall : Counted → Counted
after_stall c = record c { cycles = c.cycles + 1 }

abbrev pub one : Bool → ℕ
one b = cond b 1 0

-- the last cycle of a turn is counted: whether its fetch missed, whether a squashing branch did not hold, whether an interrupt was taken
abbrev pub after_turn : Bool → Bool → Bool → Counted → Counted
after_turn missed squashed taken c = record {
  cycles = c.cycles + 1;
  fetches = c.fetches + 1;
  misses = c.misses + one missed;
  squashes = c.squashes + one squashed;
  interrupts = c.interrupts + one taken;
}
