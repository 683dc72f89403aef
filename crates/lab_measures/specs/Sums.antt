-- What rows come to together.
use Rattle.std.specs.Prelude.{◌≡◌, ◌≤ℤ◌, ◌<ℤ◌, ℕ, ℤ, ◌&&◌, not, List, ◌∷◌, ◌++◌, length, Option, Some, None, IfSome, if◌then◌else◌}
use Rattle.std.specs.List.{All, filter, filter_map}
use Rattle.lab_measures.specs.Rows.{wait_of, cost_over}
use Rattle.lab_measures.specs.declared.row.Row.{Row}
use Rattle.lab_measures.specs.declared.sweep.Sweep.{Sweep}

-- how many runs halted
abbrev pub halted_in : List Row → ℕ
halted_in rows = length (filter (λ row. row.halted) rows)

-- how many halted with another console than the undisturbed run
abbrev pub others_in : List Row → ℕ
others_in rows = length (filter (λ row. row.halted && not row.same_console) rows)

-- how many cycles more than the undisturbed run a run takes, where both halt
abbrev pub cost_in : Sweep → Row → Option ℤ
cost_in sweep row = if sweep.halted then cost_over row sweep.cycles else None

-- the waits of the runs that came to the handler, and the costs of those that halted
abbrev pub waits_in : List Row → List ℤ
waits_in rows = filter_map wait_of rows

abbrev pub costs_in : Sweep → List ℤ
costs_in sweep = filter_map (cost_in sweep) sweep.rows.items

-- a row's wait, where it has one, is less than this; is at most this
abbrev pub WaitsLess : ℤ → Row → Type 0
WaitsLess wait row = IfSome (wait_of row) (λ w. w <ℤ wait)

abbrev pub WaitsNoMore : ℤ → Row → Type 0
WaitsNoMore wait row = IfSome (wait_of row) (λ w. w ≤ℤ wait)

-- the first row that waits longest: each row before it waits less, if at all, and none behind it longer
pub record WaitsLongest (rows : List Row) (row : Row) : Type 0 where
  pub before : List Row
  pub behind : List Row
  pub wait : ℤ
  pub split : rows ≡ before ++ row ∷ behind
  pub waits : wait_of row ≡ Some wait
  pub less : All (WaitsLess wait) before
  pub no_more : All (WaitsNoMore wait) behind
