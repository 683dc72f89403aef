-- What a drawing shows, over the list of all fetches: F[row] in a cycle.
use Rattle.std.specs.Prelude.{ℕ, zero, suc, ◌-◌, Bool, cond, eqb, leb, nat_lt, not, ◌&&◌, ◌||◌, List, [], ◌∷◌, length}
use Rattle.mx_turn.specs.declared.latches.Stage.{Stage}
use Rattle.mx_turn.specs.declared.latches.Stage.TheVariants as shown
use Rattle.mx_turn.specs.declared.machine.Cycled.{Cycled}
use Rattle.mx_turn.specs.Stages.{stage_of}
use Rattle.mx_turn.specs.Program.{Program, code_of}
use Rattle.mx_turn.specs.Run.{is_requested, bits}
use Rattle.mx_turn.specs.Fetches.{FetchState, stage, cycle_answer, fetches_after}
use Rattle.lab_draw.specs.declared.cell.Cell.{Cell}
use Rattle.lab_draw.specs.declared.cell.Cell.TheVariants.{Nothing, Waits, Live, Squashed, Killed}

-- the number of the coming turn, which is that of the newest fetch
abbrev pub turn_of : FetchState → ℕ
turn_of s = length s.fetches - 1

-- the state before cycle n, the first of which is 0, and what that cycle answers
abbrev pub before : Program → List ℕ → ℕ → FetchState
before p requests n = fetches_after p (bits requests n)

abbrev pub answer_at : Program → List ℕ → ℕ → Cycled
answer_at p requests n = cycle_answer (code_of p) p.input (before p requests n) (is_requested requests n)

-- The stage in which cycle n has F[row], with the marks as the turn begins: that of F[t-n] where turn t acts, up to WB. None before the
-- turn of the row, in a stalled cycle, and after the end.
abbrev pub stage_at : Program → List ℕ → ℕ → ℕ → Stage
stage_at p requests row n =
    let s = before p requests n in
    let age = turn_of s - row in
    cond (s.halted || ((answer_at p requests n).stalled || (nat_lt (turn_of s) row || nat_lt 4 age))) shown.Empty (stage_of (stage age s))

-- a stage by its number, in a turn that takes an interrupt or not: one kills what is in IF, RF and ALU
abbrev pub cell_of : Bool → ℕ → Stage → Cell
cell_of taken age shown.Empty = Nothing
cell_of taken age (shown.Live a) = cond (taken && leb age 2) (Killed age) (Live age)
cell_of taken age (shown.Squashed a) = cond (taken && leb age 2) (Killed age) (Squashed age)

-- what cycle n shows of F[row]: in a stalled cycle, that it waits where it is the newest fetch
abbrev pub cell_at : Program → List ℕ → ℕ → ℕ → Cell
cell_at p requests row n =
    let s = before p requests n in
    let answer = answer_at p requests n in
    cond (not s.halted && (answer.stalled && eqb row (turn_of s))) Waits (cell_of answer.taken (turn_of s - row) (stage_at p requests row n))

-- what so many cycles show of it, from cycle n on
abbrev pub cells_from : Program → List ℕ → ℕ → ℕ → ℕ → List Cell
cells_from p requests row n zero = []
cells_from p requests row n (suc count) = cell_at p requests row n ∷ cells_from p requests row (suc n) count
