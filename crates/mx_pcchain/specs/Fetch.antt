-- A fetch.
use Rattle.std.specs.Prelude.{ℕ, Bool}

-- a fetch: the address, and whether a branch squashed it
pub record Fetch : Type 0 where
  pub address : ℕ
  pub squashed : Bool
