-- What a row tells.
use Rattle.std.specs.Prelude.{ℕ, ◌^◌, ℤ, pos, ◌-ℤ◌, Bool, true, false, ◌&&◌, nat_lt, if◌then◌else◌, Option, Some, None, unwrap_or}
use Rattle.std.specs.Option.{option_and_then}
use Rattle.mx_turn.specs.declared.latches.Stage.{Stage}
use Rattle.mx_turn.specs.declared.latches.Stage.TheVariants.{Empty, Live, Squashed}
use Rattle.lab_measures.specs.declared.observed.Entry.{Entry}
use Rattle.lab_measures.specs.declared.row.Row.{Row}

-- how many cycles the one is behind the other, if both fit 63 bits
abbrev pub behind : ℕ → ℕ → Option ℤ
behind cycle before = if nat_lt cycle (2 ^ 63) && nat_lt before (2 ^ 63) then Some (pos cycle -ℤ pos before) else None

-- the cycle of the last request of a row
abbrev pub last_request : Row → ℕ
last_request row = unwrap_or row.second row.first

-- how long the handler is waited for: from the last request to the fetch of the handler's first word
abbrev pub wait_of : Row → Option ℤ
wait_of row = option_and_then (λ e. behind e.fetched (last_request row)) row.entry

-- how many cycles more the run takes than so many, if it halted
abbrev pub cost_over : Row → ℕ → Option ℤ
cost_over row undisturbed = if row.halted then behind row.cycles undisturbed else None

-- the address of a fetch in a stage, if it holds one, and whether it is squashed
abbrev pub fetch_in : Stage → Option (ℕ × Bool)
fetch_in Empty = None
fetch_in (Live address) = Some (address, false)
fetch_in (Squashed address) = Some (address, true)

-- the first fetch that the interrupt killed and the handler brings back
abbrev pub killed_of : Row → Option (ℕ × Bool)
killed_of row = option_and_then (λ e. fetch_in e.killed) row.entry
