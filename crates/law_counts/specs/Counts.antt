-- How often linked code executes the words of a statement, and how often the meaning of its source is at that statement.
use Rattle.std.specs.Prelude.{ℕ, zero, suc, ◌+◌, Bool, false, cond, eqb}
use Rattle.mx_source.specs.Meaning.{Mark, Going, given}
use Rattle.mx_link.specs.Origins.{origins_of}
use Rattle.law_link.specs.Runs.{Linking, code_in, data_in}
use Rattle.law_link.specs.Laws.{meant}
use Rattle.mx_delay.specs.Executions.{executions}
use Rattle.mx_link.specs.Gathered.{gathered}

-- how many of the first j steps of linked code execute the word at an address
abbrev pub executed : Linking → ℕ → ℕ → ℕ
executed l j a = executions (code_in l) l.place (given l.source.input l.bytes) (data_in l) a j

-- and how many a word of statement i
abbrev pub statement_executed : Linking → ℕ → ℕ → ℕ
statement_executed l i j = gathered (executed l j) i l.place.code (origins_of l.filling l.sites)

-- a run that stands so and is at a statement goes on with this one
abbrev pub goes_on_with : ℕ → Mark → ℕ → Bool
goes_on_with i Going index = eqb index i
goes_on_with i _ index = false

-- how often the meaning goes on with statement i within its first n steps
abbrev pub visits : Linking → ℕ → ℕ → ℕ
visits l i zero = 0
visits l i (suc n) = visits l i n + cond (goes_on_with i (meant l n).state.mark (meant l n).state.index) 1 0
