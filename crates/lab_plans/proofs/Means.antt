-- A source that is linked by what the lines of a file propose and choose runs as it means.
use Rattle.std.proofs.Common.{◌≡◌, ℕ, List, arith}
use Rattle.mx_source.specs.SourceValue.{SourceValue, IsSource}
use Rattle.mx_source.specs.Meaning.{given}
use Rattle.mx_blocks.specs.declared.block.Block.{Block}
use Rattle.mx_blocks.specs.declared.block.Plan.{Plan}
use Rattle.mx_layout.specs.Layout.{blocks_in}
use Rattle.mx_link.specs.declared.linked.Linked.{Linked}
use Rattle.mx_link.specs.Parts.{HaveRegisters}
use Rattle.mx_link.specs.Linked.{IsLinked}
use Rattle.mx_turn.specs.Handler.{shipped}
use Rattle.mx_turn.specs.Program.{program_of}
use Rattle.mx_turn.specs.Run.{run_of}
use Rattle.mx_isa.specs.Board.{board}
use Rattle.mx_plans.specs.Files.{LineSaid}
use Rattle.mx_plans.specs.Copies.{choices_of, as_planned}
use Rattle.law_link.specs.Runs.{IsFilling, IsLaid}
use Rattle.law_link.proofs.Lawful.{as_chosen_lawful}
use Rattle.law_end_to_end.specs.EndToEnd.{filled_run}
use Rattle.law_end_to_end.specs.Laws.{FilledMeansItsSource}
use Rattle.law_end_to_end.proofs.Composed.{filled_run_means}
use Rattle.lab_plans.specs.Planned.{linked_run}

pub as_planned_lawful : (lines : List LineSaid) → IsFilling (as_planned lines)
as_planned_lawful lines sites s = as_chosen_lawful (choices_of (blocks_in sites) lines) sites s

module _
    (P : Block → Plan → Type 0) (lines : List LineSaid) (source : SourceValue) (linked : Linked)
    (k : IsLinked P (as_planned lines) source board linked) (requests bytes : List ℕ) (budget : ℕ) where
  pub runs : linked_run source linked requests bytes budget ≡ filled_run (as_planned lines) source k.sites requests bytes budget
  runs i = run_of (program_of shipped (k.code i) (k.user_data i) (given source.input bytes)) requests budget

  pub means : IsSource source → HaveRegisters source.statements → FilledMeansItsSource (as_planned lines) source k.sites requests bytes budget
  means is have =
      let few = is.few_statements in
      let laid : IsLaid source board k.sites =
      record { well_formed = is; registers = have; room = omega (arith, few); layout = k.layout; reach = k.reach } in
      filled_run_means (as_planned lines) source k.sites requests bytes budget (as_planned_lawful lines) laid
