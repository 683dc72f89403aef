-- Runs of a program, each with a request in one cycle or in two.
use Rattle.std.specs.Prelude.{◌≡◌, ℕ, true, List, ◌∷◌, map}
use Rattle.std.specs.Option.{option_to_list}
use Rattle.mx_turn.specs.Program.{Program, image_program}
use Rattle.mx_turn.specs.Run.{run_of}
use Rattle.lab_measures.specs.Entries.{EntersBy}
use Rattle.lab_measures.specs.declared.row.Row.{Row}
use Rattle.lab_measures.specs.declared.sweep.Swept.{Swept}

-- the cycles in which the requests of a row come
abbrev pub requests_of : Row → List ℕ
requests_of row = row.first ∷ option_to_list row.second

-- what a row tells is what the program does with just the requests of the row
pub record IsRow (p : Program) (budget : ℕ) (undisturbed : List ℕ) (row : Row) : Type 0 where
  pub cycles : row.cycles ≡ (run_of p (requests_of row) budget).counts.cycles
  pub halted : row.halted ≡ (run_of p (requests_of row) budget).halted
  pub same : row.same_console ≡ true → (run_of p (requests_of row) budget).console ≡ undisturbed
  pub entry : EntersBy p (requests_of row) budget row.entry
  pub other : (run_of p (requests_of row) budget).console ≡ undisturbed → row.same_console ≡ true

-- a row of a sweep of this
abbrev pub IsRowOf : Swept → Row → Type 0
IsRowOf c row = IsRow (image_program c.image.now c.input) c.budget c.undisturbed.now row

-- the first cycles of rows
abbrev pub firsts : List Row → List ℕ
firsts rows = map (λ row. row.first) rows
