-- A verified image does what its source means.
use Rattle.std.specs.Prelude.{◌≡◌, ℕ, List}
use Rattle.mx_isa.specs.Board.{board}
use Rattle.mx_source.specs.SourceValue.{SourceValue, IsSource}
use Rattle.mx_source.specs.Meaning.{given}
use Rattle.mx_code.specs.declared.Image.{Image}
use Rattle.mx_squash.specs.Copies.{Site}
use Rattle.mx_layout.specs.Layout.{blocks_in}
use Rattle.mx_link.specs.Origins.{Filling, as_wanted}
use Rattle.mx_link.specs.Parts.{HaveRegisters}
use Rattle.mx_turn.specs.Handler.{shipped}
use Rattle.mx_turn.specs.Program.{program_of}
use Rattle.mx_turn.specs.Run.{MachineRun, run_of}
use Rattle.law_link.specs.Runs.{IsLaid}
use Rattle.law_end_to_end.specs.EndToEnd.{filled_run}
use Rattle.law_end_to_end.specs.Laws.{FilledMeansItsSource}
use Rattle.lab_certify.specs.Texts.{Claims}
use Rattle.lab_certify.specs.Verified.{IsVerified, counts_of}

-- the run of an image under the shipped handler, with requests at these cycles, and these bytes as the input of its source
abbrev pub image_run : SourceValue → Image → List ℕ → List ℕ → ℕ → MachineRun
image_run source image requests bytes budget =
    run_of (program_of shipped image.code.items image.user_data.items (given source.input bytes)) requests budget

-- what is copied into the slots of an image that is verified by a certificate
abbrev pub copied_by : Claims → List Site → Filling
copied_by c sites = as_wanted (counts_of (blocks_in sites) c.heads)

-- the image is the source, laid out at these sites; its run is that of the source, and does what the source means
pub record IsRunOf (source : SourceValue) (image : Image) (c : Claims) (requests bytes : List ℕ) (budget : ℕ) : Type 0 where
  pub sites : List Site
  pub laid : IsLaid source board sites
  pub runs : image_run source image requests bytes budget ≡ filled_run (copied_by c sites) source sites requests bytes budget
  pub means : FilledMeansItsSource (copied_by c sites) source sites requests bytes budget

-- `verify` gives the first three
abbrev pub VerifiedImageMeansItsSource : Type 0
VerifiedImageMeansItsSource =
    (text : List ℕ) (source : SourceValue) (image : Image) (c : Claims) (requests bytes : List ℕ) (budget : ℕ) → IsSource source
    → HaveRegisters source.statements → IsVerified text source image c → IsRunOf source image c requests bytes budget
