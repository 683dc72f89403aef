-- Requests that are met in turn.
use Rattle.std.specs.Prelude.{ℕ, zero, suc, ◌+◌, ◌≡◌, cond, nat_lt, List, length, slice_index}
use Rattle.mx_board.specs.RequestFile.{is_wanted}
use Rattle.mx_report.specs.declared.cursor.TheConstants.{NEVER}
use Rattle.mx_report.specs.declared.cursor.Cursor.{Cursor}

-- how many requests come before cycle n
abbrev pub met_before : List ℕ → ℕ → ℕ
met_before list zero = 0
met_before list (suc n) = met_before list n + cond (is_wanted list n) 1 0

-- the cycle of the request at a place
abbrev pub next_at : List ℕ → ℕ → ℕ
next_at list place = cond (nat_lt place (length list)) (slice_index list place) NEVER

-- the requests before cycle n are behind the cursor, and no others
abbrev pub IsAt : List ℕ → Cursor → ℕ → Type 0
IsAt list cursor n = (cursor.place ≡ met_before list n) × (cursor.next ≡ next_at list cursor.place)
