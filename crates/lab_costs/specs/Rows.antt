-- The rows of a table of costs. A source has parts, numbered from 0 on; each statement has a key, which is the number of its part.
use Rattle.std.specs.Prelude.{◌≡◌, ◌<◌, ◌≤◌, ◌+◌, ◌-◌, ◌^◌, ℕ, All, zero, suc, Bool, false, ◌||◌, cond, eqb}
use Rattle.std.specs.Prelude.{List, [], ◌∷◌, ◌++◌, length, map, slice_index_or}
use Rattle.std.specs.List.Sorted.{IsNonDecreasingBy, IsStableByKey}
use Rattle.std.specs.Ordering.{nat_cmp}
use Rattle.lab_costs.specs.declared.grouping.By.{By}
use Rattle.lab_costs.specs.declared.grouping.By.TheVariants.{Line}
use Rattle.lab_costs.specs.declared.grouping.Group.{Group}
use Rattle.lab_costs.specs.declared.grouping.PartName.TheVariants.{Start}
use Rattle.lab_costs.specs.declared.rows.Row.{Row}
use Rattle.lab_profile.specs.declared.lines.LineCost.{LineCost}
use Rattle.lab_profile.specs.Lines.{saturated, on_line}
use Rattle.lab_profile.specs.Columns.{number_in}
use Rattle.lab_profile.specs.declared.columns.Column.{Column}
use Rattle.lab_positions.specs.Positions.{lines_in}

-- whether a statement is in part k
abbrev pub has_statements : List ℕ → ℕ → Bool
has_statements [] k = false
has_statements (key ∷ keys) k = eqb key k || has_statements keys k

-- a column of the statements of part k together
abbrev pub column_of_part : List ℕ → List LineCost → ℕ → (LineCost → ℕ) → ℕ
column_of_part keys costs k column = on_line column k keys costs (length costs)

-- what the statements of part k cost together
abbrev pub cost_of_part : List ℕ → List LineCost → ℕ → LineCost
cost_of_part keys costs k = record {
  executed = saturated (column_of_part keys costs k (λ c. c.executed));
  cycles = saturated (column_of_part keys costs k (λ c. c.cycles));
  stalls = saturated (column_of_part keys costs k (λ c. c.stalls));
  noops = saturated (column_of_part keys costs k (λ c. c.noops));
  cancelled = saturated (column_of_part keys costs k (λ c. c.cancelled));
  killed = saturated (column_of_part keys costs k (λ c. c.killed));
  squashes = saturated (column_of_part keys costs k (λ c. c.squashes));
  penalty = saturated (column_of_part keys costs k (λ c. c.penalty));
}

abbrev pub no_group : Group
no_group = record { name = Start; line = 0 }

abbrev pub group_of : List Group → ℕ → Group
group_of groups k = slice_index_or groups k no_group

-- the row of part k: its name, its line, and what its statements cost together
abbrev pub row_of : List Group → List ℕ → List LineCost → ℕ → Row
row_of groups keys costs k =
    record { name = (group_of groups k).name; line = (group_of groups k).line; cost = cost_of_part keys costs k }

-- the parts below part n that have statements, in order
abbrev pub parts_below : List ℕ → ℕ → List ℕ
parts_below keys zero = []
parts_below keys (suc n) = parts_below keys n ++ cond (has_statements keys n) (n ∷ []) []

-- a row for each part that has statements, in the order of the parts
abbrev pub rows_of : List Group → List ℕ → List LineCost → List Row
rows_of groups keys costs = map (row_of groups keys costs) (parts_below keys (length groups))

-- each of these keys is the number of one of so many parts
abbrev pub AreBelow : List ℕ → ℕ → Type 0
AreBelow keys parts = All (λ key. key < parts) keys

-- each of these numbers is that of a line of the text, or 0, which is none
abbrev pub AreLinesOf : List ℕ → List ℕ → Type 0
AreLinesOf text lines = All (λ line. line ≤ length (lines_in text)) lines

-- a part for no line and one for each line of the text, which has the number of its line as far as 32 bits hold it. Of the names this says nothing
pub record AreLineGroups (text : List ℕ) (groups : List Group) : Type 0 where
  pub count : length groups ≡ length (lines_in text) + 1
  pub numbers : (k : ℕ) → k < length groups → k < 2 ^ 32 → (group_of groups k).line ≡ k

-- there is one key for each statement, and it is the number of a part; by lines it is the number of the statement's line.
-- Of other parts, and of their names and lines, this says no more
pub record IsGrouping (by : By) (text lines : List ℕ) (groups : List Group) (keys : List ℕ) : Type 0 where
  pub a_key_each : length keys ≡ length lines
  pub by_line : by ≡ Line → keys ≡ lines
  pub line_groups : by ≡ Line → AreLineGroups text groups
  pub below : (by ≡ Line → AreLinesOf text lines) → AreBelow keys (length groups)

-- less for a row that has more in a column
abbrev pub from_greatest : Column → Row → ℕ
from_greatest column row = (2 ^ 64 - 1) - number_in column row.cost

-- the rows in the order of a column: those with more come first, and those with the same keep their order
pub record InOrderOf (column : Column) (rows ordered : List Row) : Type 0 where
  pub sorted : IsNonDecreasingBy (from_greatest column) ordered
  pub stable : IsStableByKey (from_greatest column) nat_cmp rows ordered

-- the rows of the statements, in the order of a column, by some groups and by keys that are a grouping
abbrev pub AreRowsBy : By → Column → List ℕ → List ℕ → List LineCost → List Row → Type 0
AreRowsBy by column text lines costs rows =
    (groups : List Group) × (keys : List ℕ) × IsGrouping by text lines groups keys × InOrderOf column (rows_of groups keys costs) rows

-- the rows, in the order of a column: one for each line of the text that has statements, with its number and with what they cost together, and one for
-- line 0 where a statement has that. A statement whose line the text does not have is in no row. Of the names of rows this says nothing
abbrev pub AreLineRows : Column → List ℕ → List ℕ → List LineCost → List Row → Type 0
AreLineRows column text lines costs rows = (groups : List Group) × AreLineGroups text groups × InOrderOf column (rows_of groups lines costs) rows
