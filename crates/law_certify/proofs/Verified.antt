-- A verified image does what its source means.
use Rattle.std.proofs.Common.{◌≡◌, ℕ, List, arith}
use Rattle.mx_isa.specs.Board.{board}
use Rattle.mx_source.specs.SourceValue.{SourceValue, IsSource}
use Rattle.mx_source.specs.Meaning.{given}
use Rattle.mx_code.specs.declared.Image.{Image}
use Rattle.mx_link.specs.Parts.{HaveRegisters}
use Rattle.mx_turn.specs.Handler.{shipped}
use Rattle.mx_turn.specs.Program.{program_of}
use Rattle.mx_turn.specs.Run.{run_of}
use Rattle.mx_layout.specs.Layout.{blocks_in}
use Rattle.law_link.specs.Runs.{IsLaid}
use Rattle.law_link.proofs.Lawful.{as_wanted_lawful}
use Rattle.law_end_to_end.specs.EndToEnd.{filled_run}
use Rattle.law_end_to_end.proofs.Composed.{filled_run_means}
use Rattle.lab_certify.specs.Texts.{Claims}
use Rattle.lab_certify.specs.Verified.{IsVerified, IsPlaced, counts_of}
use Rattle.law_certify.specs.Laws.{copied_by, image_run, VerifiedImageMeansItsSource}

module _ (text : List ℕ) (source : SourceValue) (image : Image) (c : Claims) (v : IsVerified text source image c) where
  placed : IsPlaced text source c v.sites
  placed = v.linkable.addressed.placed

  runs : (requests bytes : List ℕ) (budget : ℕ)
      → image_run source image requests bytes budget ≡ filled_run (copied_by c v.sites) source v.sites requests bytes budget
  runs requests bytes budget i = run_of (program_of shipped (v.code i) (v.user_data i) (given source.input bytes)) requests budget

  laid : IsSource source → HaveRegisters source.statements → IsLaid source board v.sites
  laid is have =
      let few = is.few_statements in record {
        well_formed = is;
        registers = have;
        room = omega (arith, few);
        layout = placed.layout;
        reach = placed.reach;
      }

pub verified_means : VerifiedImageMeansItsSource
verified_means text source image c requests bytes budget is have v = record {
  sites = v.sites;
  laid = laid text source image c v is have;
  runs = runs text source image c v requests bytes budget;
  means = filled_run_means (copied_by c v.sites) source v.sites requests bytes budget (as_wanted_lawful (counts_of (blocks_in v.sites) c.heads))
      (laid text source image c v is have);
}
