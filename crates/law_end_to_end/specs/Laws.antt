-- The run of a source does what the source means.
use Rattle.std.specs.Prelude.{◌≡◌, ℕ, ◌+◌, ◌≤◌, true, List, length, None}
use Rattle.mx_isa.specs.declared.board.TheConstants.{DATA_BASE, DATA_END}
use Rattle.mx_source.specs.SourceValue.{SourceValue}
use Rattle.mx_source.specs.Meaning.{meaning, HaltsIn}
use Rattle.mx_squash.specs.Copies.{Site}
use Rattle.mx_layout.specs.Layout.{IsLayout, blocks_in}
use Rattle.mx_layout.specs.Overlong.{overlong}
use Rattle.mx_delay.specs.Prefixes.{IsPrefix}
use Rattle.mx_turn.specs.Run.{bound}
use Rattle.mx_link.specs.Origins.{Filling, from_target}
use Rattle.law_link.specs.Runs.{IsFilling, IsLaid}
use Rattle.law_link.specs.Matches.{block_ahead}
use Rattle.mx_reorg.specs.Greedy.{IsGreedy}
use Rattle.mx_asm.specs.Texts.{source_of, text_fault}
use Rattle.mx_isa.specs.Board.{board}
use Rattle.law_end_to_end.specs.EndToEnd.{filled_run, IsUnstuck, EndsAsMeant}

-- The run does what the source means: it sends no more, it halts only where the meaning halts, and then with its state, and it halts and sends
-- within the bound of cycles. A block runs in an order of its own and has 64 statements at most: so the meaning is not to get stuck in 64 steps more.
pub record FilledMeansItsSource (filling : Filling) (source : SourceValue) (sites : List Site) (requests bytes : List ℕ) (budget : ℕ) : Type 0 where
  pub sent : IsUnstuck source bytes (budget + block_ahead)
      → IsPrefix (filled_run filling source sites requests bytes budget).console (meaning source board bytes (budget + block_ahead)).console
  pub halts : IsUnstuck source bytes (budget + block_ahead)
      → (filled_run filling source sites requests bytes budget).halted ≡ true
      → (n : ℕ) × (n ≤ budget) × EndsAsMeant source sites bytes (filled_run filling source sites requests bytes budget) n
  pub ends : (n : ℕ) → HaltsIn source board bytes n → bound n (length requests) ≤ budget
      → (filled_run filling source sites requests bytes budget).halted ≡ true
  pub sends : IsUnstuck source bytes (budget + block_ahead)
      → (m : ℕ) → bound (m + block_ahead) (length requests) ≤ budget
      → IsPrefix (meaning source board bytes m).console (filled_run filling source sites requests bytes budget).console

-- with its slots filled from the target
abbrev pub MeansItsSource : SourceValue → List Site → List ℕ → List ℕ → ℕ → Type 0
MeansItsSource = FilledMeansItsSource from_target

-- A run of a source that is linked at the board's place does what the source means.
abbrev pub RunMeansItsSource : Type 0
RunMeansItsSource =
    (source : SourceValue) (sites : List Site) (requests bytes : List ℕ) (budget : ℕ) → IsLaid source board sites
    → MeansItsSource source sites requests bytes budget

-- So does it with any lawful copies in its slots.
abbrev pub FilledRunMeansItsSource : Type 0
FilledRunMeansItsSource =
    (filling : Filling) (source : SourceValue) (sites : List Site) (requests bytes : List ℕ) (budget : ℕ) → IsFilling filling
    → IsLaid source board sites → FilledMeansItsSource filling source sites requests bytes budget

-- So does the run of a text without faults, laid out by greedy plans, in which no branch is overlong.
abbrev pub TextMeansItsSource : Type 0
TextMeansItsSource =
    (text : List ℕ) (sites : List Site) (requests bytes : List ℕ) (budget : ℕ)
    → text_fault DATA_BASE DATA_END text ≡ None
    → IsLayout IsGreedy (source_of DATA_BASE text) board sites
    → overlong (source_of DATA_BASE text) board (blocks_in sites) ≡ None
    → MeansItsSource (source_of DATA_BASE text) sites requests bytes budget
