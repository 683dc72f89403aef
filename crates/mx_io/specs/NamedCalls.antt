-- What contracts see of calls that are told to fail.
use Rattle.std.specs.Prelude.{◌≡◌, ◌==◌, ◌&&◌, ◌+◌, ℕ, Bool, nat_lt}
use Rattle.std.specs.List.{list_any}
use Rattle.mx_io.specs.Counts.{last_count}
use Rattle.mx_io.specs.declared.named_calls.NamedCalls.{NamedCalls}

-- whether the call with the number is to fail
abbrev pub names : NamedCalls → ℕ → Bool
names calls call = list_any (λ n. n == call) calls.numbers.items

-- whether the next call is to fail; after the last number there is none
abbrev pub names_next : NamedCalls → Bool
names_next calls = nat_lt calls.count last_count && names calls (calls.count + 1)

-- the same calls are to fail
abbrev pub SameNames : NamedCalls → NamedCalls → Type 0
SameNames old new = (call : ℕ) → names new call ≡ names old call
