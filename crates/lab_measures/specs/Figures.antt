-- What is told of a source that is linked by some plans and run.
use Rattle.std.specs.Prelude.{◌≡◌, ℕ, List, length}
use Rattle.mx_source.specs.SourceValue.{SourceValue}
use Rattle.mx_source.specs.Meaning.{given}
use Rattle.mx_blocks.specs.declared.Block.{Block}
use Rattle.mx_blocks.specs.declared.Plan.{Plan}
use Rattle.mx_validate.specs.Validity.{Valid}
use Rattle.mx_squash.specs.Copies.{Site}
use Rattle.mx_layout.specs.Layout.{IsLayout}
use Rattle.mx_layout.specs.Kept.{AreKept}
use Rattle.mx_link.specs.declared.Linked.{Linked}
use Rattle.mx_link.specs.Origins.{Filling, origins_of, copies_in}
use Rattle.mx_code.specs.NoOps.{noops_in}
use Rattle.mx_link.specs.Linked.{linked_code, linked_data}
use Rattle.mx_turn.specs.Handler.{shipped}
use Rattle.mx_turn.specs.Program.{program_of}
use Rattle.mx_turn.specs.Run.{MachineRun, run_of}
use Rattle.mx_isa.specs.Board.{board}
use Rattle.lab_measures.specs.declared.figures.Figures.{Figures}

-- the run of a source with this layout, its slots filled so
abbrev pub run_with : Filling → SourceValue → List Site → List ℕ → List ℕ → ℕ → MachineRun
run_with filling source sites requests bytes budget =
    run_of (program_of shipped (linked_code filling source board sites) (linked_data source board sites) (given source.input bytes)) requests budget

-- the run of the image of a linked source, under the shipped handler
abbrev pub linked_run : SourceValue → Linked → List ℕ → List ℕ → ℕ → MachineRun
linked_run source linked requests bytes budget =
    run_of (program_of shipped linked.image.code.items linked.image.user_data.items (given source.input bytes)) requests budget

-- the figures are those of the source, laid out by what is proposed, and of its run
pub record AreFigures (Proposes : Block → Plan → Type 0) (filling : Filling) (source : SourceValue)
    (requests bytes : List ℕ) (budget : ℕ) (f : Figures) : Type 0 where
  pub sites : List Site
  pub proposals : List Plan
  pub layout : IsLayout Valid source board sites
  pub kept : AreKept Proposes f.rejected sites proposals
  pub words : f.words ≡ length (linked_code filling source board sites)
  pub noops : f.noops ≡ noops_in (linked_code filling source board sites)
  pub copies : f.copies ≡ copies_in (origins_of filling sites)
  pub cycles : f.cycles ≡ (run_with filling source sites requests bytes budget).counts.cycles
  pub fetches : f.fetches ≡ (run_with filling source sites requests bytes budget).counts.fetches
  pub misses : f.misses ≡ (run_with filling source sites requests bytes budget).counts.misses
  pub squashes : f.squashes ≡ (run_with filling source sites requests bytes budget).counts.squashes
  pub halted : f.halted ≡ (run_with filling source sites requests bytes budget).halted
