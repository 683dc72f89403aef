-- The word of a saved fetch tells the fetch.
use Rattle.std.proofs.Common.{◌≡◌, ℕ, ◌^◌, ◌<◌, arith}
use Rattle.std.proofs.lemmas.Grind.{common_steps}
use Rattle.mx_pcchain.specs.Fetch.{Fetch}
use Rattle.mx_pcchain.specs.Chain.{entry_of, fetch_from}

-- the fetch of the word of a fetch is that fetch
pub fetch_from-entry_of : (f : Fetch) → f.address < 2 ^ 31 → fetch_from (entry_of f) ≡ f
fetch_from-entry_of f below = grind (arith, common_steps)

-- the word of a fetch has 32 bits
pub entry_of-below : (f : Fetch) → f.address < 2 ^ 31 → entry_of f < 2 ^ 32
entry_of-below f below = grind (arith, common_steps)

-- the address that a word gives has 31 bits
pub fetch_from-below : (e : ℕ) → (fetch_from e).address < 2 ^ 31
fetch_from-below e = omega arith
