-- Sources by the texts of files.
use Rattle.std.specs.Prelude.{◌≡◌, ◌⊎◌, ℕ, List, Some}
use Rattle.mx_isa.specs.declared.board.TheConstants.{DATA_BASE, DATA_END}
use Rattle.mx_io.specs.Shelves.{Told, Counts}
use Rattle.mx_source.specs.SourceValue.{SourceValue}
use Rattle.mx_asm.specs.Texts.{ReadsAs, text_fault}
use Rattle.mx_reorg.specs.Greedy.{IsGreedy}
use Rattle.lab_failure.specs.declared.failure.LabFailure.{LabFailure}
use Rattle.lab_failure.specs.declared.failure.LabFailure.TheVariants.{Memory, Source}
use Rattle.lab_failure.specs.declared.failure.LabFile.TheVariants as file
use Rattle.lab_failure.specs.Files.{IsReadAs, IsUnread}
use Rattle.lab_sources.specs.Refusals.{IsUnlinked}

-- the text has no fault, and spells the source
abbrev pub Spells : List ℕ → SourceValue → Type 0
Spells = ReadsAs DATA_BASE DATA_END

-- the failure names the file and the first fault of its text, or memory ran out
abbrev pub IsFaultOf : List ℕ → List ℕ → LabFailure → Type 0
IsFaultOf name text (Source n line fault) = (n.now ≡ name) × (text_fault DATA_BASE DATA_END text ≡ Some (line, fault))
IsFaultOf name text Memory = Unit {0}
IsFaultOf name text _ = ⊥

-- the named file was read, and gave the text, which spells the source
pub record IsSourceOf (told : Told) (name : List ℕ) (before after : Counts) (text : List ℕ) (source : SourceValue) : Type 0 where
  pub read : IsReadAs told file.Source name text before after
  pub spells : Spells text source

-- the failure tells the fault of the named file that was not read, or of the text that it gave
abbrev pub IsNoSource : Told → List ℕ → Counts → Counts → LabFailure → Type 0
IsNoSource told name before after failure =
    IsUnread file.Source name before after failure
    ⊎ ((text : List ℕ) × IsReadAs told file.Source name text before after × IsFaultOf name text failure)

-- the failure tells the fault of the text, or the branch of the source that it spells which does not reach its target as `run` links it
abbrev pub IsNoProgramOf : List ℕ → List ℕ → LabFailure → Type 0
IsNoProgramOf name text failure =
    IsFaultOf name text failure ⊎ ((source : SourceValue) × Spells text source × IsUnlinked name IsGreedy source failure)

-- the failure tells the fault of the named file that was not read, or why the text that it gave is not linked
abbrev pub IsNoProgram : Told → List ℕ → Counts → Counts → LabFailure → Type 0
IsNoProgram told name before after failure =
    IsUnread file.Source name before after failure
    ⊎ ((text : List ℕ) × IsReadAs told file.Source name text before after × IsNoProgramOf name text failure)
