-- The run of a generated source under many interrupts.
use Rattle.std.specs.Prelude.{ℕ, zero, suc, ◌*◌, List, [], ◌∷◌, ◌++◌, length, codes, None}
use Rattle.mx_source.specs.SourceValue.{SourceValue}
use Rattle.mx_source.specs.Meaning.{program, start}
use Rattle.mx_gen.specs.Generated.{generated}
use Rattle.mx_squash.specs.Copies.{Site}
use Rattle.mx_link.specs.Origins.{from_target}
use Rattle.mx_link.specs.Linked.{linked_code, linked_data}
use Rattle.mx_text.specs.Text.{count_line}
use Rattle.mx_isa.specs.Board.{board}
use Rattle.cmd_meaning.specs.Told.{steps_in}
use Rattle.mx_turn.specs.Counted.{Counted}
use Rattle.mx_turn.specs.Handler.{shipped}
use Rattle.mx_turn.specs.Program.{program_of}
use Rattle.mx_turn.specs.Run.{MachineRun, run_of, bound}
use Rattle.mx_report.specs.Report.{counts_text, words_text}

-- the first k multiples of n
unfoldable pub multiples : ℕ → ℕ → List ℕ
multiples n zero = []
multiples n (suc k) = multiples n k ++ n * suc k ∷ []

-- how many instructions of a source, at most so many, go or halt
unfoldable pub steps_within : SourceValue → ℕ → ℕ
steps_within source most = steps_in (program source board []) most (record { state = start source board; console = [] })

-- how many instructions a source takes that halts in at most 40,009 of them
abbrev pub steps_of : SourceValue → ℕ
steps_of source = steps_within source 40009

-- the run of a layout of a source under the shipped handler, without input, with a request in each of the cycles 97 to 97,000
-- that are multiples of 97, within the bound for so many instructions
abbrev pub layout_run : SourceValue → List Site → ℕ → MachineRun
layout_run source sites steps =
    run_of (program_of shipped (linked_code from_target source board sites) (linked_data source board sites) None) (multiples 97 1000) (bound steps 1000)

-- the steps of the meaning, the counts of a run, those of its code words, and the number of bytes that it sent
unfoldable pub soaked_text : ℕ → Counted → List ℕ → List ℕ → List ℕ
soaked_text steps counts console code =
    ((count_line (codes "steps") steps ++ counts_text counts) ++ words_text code) ++ count_line (codes "bytes") (length console)

-- the text of a source with this layout
abbrev pub layout_text : SourceValue → List Site → List ℕ
layout_text source sites =
    let run = layout_run source sites (steps_of source) in
    soaked_text (steps_of source) run.counts run.console (linked_code from_target source board sites)

-- the text of the generated source, whose layout a function gives
unfoldable pub soak_text : (SourceValue → List Site) → ℕ → ℕ → List ℕ
soak_text layout_of seed count = layout_text (generated seed count) (layout_of (generated seed count))
