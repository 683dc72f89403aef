-- How far the last request of a run has come.
use Rattle.std.specs.Prelude.{◌≡◌, ℕ, ◌<◌, ◌≤◌, Bool, true, false, cond}
use Rattle.mx_turn.specs.declared.latches.Stage.{Stage}
use Rattle.lab_measures.specs.declared.observed.Progress.{Progress}
use Rattle.lab_measures.specs.declared.observed.Progress.TheVariants.{Idle, Waiting, Taken, Entered}
use Rattle.lab_measures.specs.Entries.{Signals, IsLast, IsTaken, IsEntry}

-- it came so far in the first n cycles; the requests before cycle m are known
abbrev pub Reached : Signals → ℕ → ℕ → Progress → Type 0
Reached s m n Idle = (k : ℕ) → k < m → s.asked k ≡ false
Reached s m n Waiting = (last : ℕ) × IsLast s m last × ((k : ℕ) → last ≤ k → k < n → s.taken k ≡ false)
Reached s m n (Taken cycle killed) =
    (last : ℕ) × IsLast s m last × IsTaken s last cycle × (cycle < n) × (killed ≡ s.alu cycle) × ((k : ℕ) → cycle < k → k < n → s.stalled k ≡ true)
Reached s m n (Entered e) = (e.fetched < n) × IsEntry s m e

-- a request comes, or not
abbrev pub after_request : Bool → Progress → Progress
after_request request progress = cond request Waiting progress

-- a cycle has passed
abbrev pub after_turn : ℕ → Bool → Bool → Stage → Progress → Progress
after_turn cycle taken stalled alu Idle = Idle
after_turn cycle taken stalled alu Waiting = cond taken (Taken cycle alu) Waiting
after_turn cycle taken stalled alu (Taken before killed) = cond stalled (Taken before killed)
    (Entered (record { taken = before; fetched = cycle; killed = killed }))
after_turn cycle taken stalled alu (Entered e) = Entered e

-- the last request waits for its interrupt, or that for the handler
abbrev pub is_open : Progress → Bool
is_open Waiting = true
is_open (Taken cycle killed) = true
is_open _ = false
