-- How the meaning of a source stands after at most n steps.
use Rattle.std.specs.Prelude.{◌≡◌, ℕ, List, []}
use Rattle.mx_isa.specs.Board.{board}
use Rattle.mx_source.specs.SourceValue.{SourceValue}
use Rattle.mx_source.specs.Meaning.{Run, run_for, program, start}
use Rattle.cmd_meaning.specs.Told.{steps_in}
use Rattle.cmd_meaning.specs.Endings.{mark_of}
use Rattle.lab_measures.specs.declared.meaning.Standing.{Standing}

-- the run of the meaning before its first step
abbrev pub begun : SourceValue → Run
begun source = record { state = start source board; console = [] }

-- it stands as the meaning does
pub record IsStanding (source : SourceValue) (input : List ℕ) (n : ℕ) (s : Standing) : Type 0 where
  pub ending : mark_of s.progress.ending ≡ (run_for (program source board input) n (begun source)).state.mark
  pub steps : s.progress.steps ≡ steps_in (program source board input) n (begun source)
  pub index : s.index ≡ (run_for (program source board input) n (begun source)).state.index
