-- What the profile of a source's run counts of a statement, told by the source's meaning.
use Rattle.std.specs.Prelude.{◌≡◌, ℕ, ◌+◌, ◌<◌, ◌≤◌, ◌^◌, true, cond, eqb, List, length, slice_index}
use Rattle.mx_source.specs.SourceValue.{SourceValue}
use Rattle.mx_source.specs.Meaning.{HaltsIn}
use Rattle.mx_squash.specs.Copies.{Site}
use Rattle.mx_link.specs.Origins.{from_target, origins_of}
use Rattle.mx_link.specs.Linked.{linked_code}
use Rattle.mx_isa.specs.Board.{board}
use Rattle.law_link.specs.Runs.{IsLaid, Linking}
use Rattle.law_link.specs.Matches.{block_ahead}
use Rattle.law_counts.specs.Counts.{visits}
use Rattle.law_end_to_end.specs.EndToEnd.{source_program, IsUnstuck}
use Rattle.lab_profile.specs.declared.lines.LineCost.{LineCost}
use Rattle.lab_profile.specs.declared.tally.Profile.{Profile}
use Rattle.lab_profile.specs.Charges.{sum_below}
use Rattle.lab_profile.specs.Lines.{saturated, executed_of, CountsStatements, CountsLines}
use Rattle.lab_profile.specs.Tallies.{IsProfile}

-- a source that is linked at the board's place, with these bytes as its input
abbrev pub linking_of : SourceValue → List Site → List ℕ → Linking
linking_of source sites bytes = record { filling = from_target; source = source; place = board; sites = sites; bytes = bytes }

-- the meaning halts within the budget, and each statement was executed as often as the meaning was at it
pub record ProfiledAsMeant (source : SourceValue) (sites : List Site) (bytes : List ℕ) (budget : ℕ) (costs : List LineCost) : Type 0 where
  pub statements : ℕ
  pub few : statements ≤ budget
  pub halts : HaltsIn source board bytes statements
  pub counts : (i : ℕ) → i < length source.statements → executed_of costs i ≡ visits (linking_of source sites bytes) i statements

-- So do the costs of the statements of a source, by the profile of its run under the shipped handler, where that has halted and the meaning is
-- not stuck within 64 statements more than the budget has cycles.
abbrev pub ProfileIsMeant : Type 0
ProfileIsMeant =
    (source : SourceValue) (sites : List Site) (requests bytes : List ℕ) (budget : ℕ) (profile : Profile) (costs : List LineCost)
    → IsLaid source board sites
    → budget < 2 ^ 64
    → IsUnstuck source bytes (budget + block_ahead)
    → IsProfile (source_program source sites bytes) requests (length (linked_code from_target source board sites)) budget profile
    → CountsStatements (length source.statements) (origins_of from_target sites) profile.tally costs
    → profile.halted ≡ true
    → ProfiledAsMeant source sites bytes budget costs

-- how often the meaning is at the statements of line n in its first steps
abbrev pub meant_on : SourceValue → List Site → List ℕ → ℕ → ℕ → ℕ
meant_on source sites bytes steps n =
    sum_below (λ k. cond (eqb (slice_index source.lines k) n) (visits (linking_of source sites bytes) k steps) 0) (length source.statements)

-- So do the costs of lines: each line was executed as often as the meaning was at its statements together.
abbrev pub LinesAreMeant : Type 0
LinesAreMeant =
    (source : SourceValue) (sites : List Site) (bytes : List ℕ) (budget : ℕ) (costs sums : List LineCost)
    → (meant : ProfiledAsMeant source sites bytes budget costs)
    → length costs ≡ length source.statements
    → CountsLines source.lines costs sums
    → (n : ℕ) → n < length sums
    → executed_of sums n ≡ saturated (meant_on source sites bytes meant.statements n)
