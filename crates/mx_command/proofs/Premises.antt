-- What is known of a text that can be run.
use Rattle.std.proofs.Common.{◌≡◌, ◌≤◌, ℕ, List, [], length, Some, None, Ok, refl}
use Rattle.mx_isa.specs.declared.board.TheConstants.{DATA_BASE, DATA_END}
use Rattle.mx_io.specs.declared.limits.TheConstants.{MAX_SOURCE_BYTES, MAX_FILE_BYTES}
use Rattle.mx_asm.specs.Texts.{source_of, text_fault}
use Rattle.mx_board.specs.RequestFile.{requests_of}
use Rattle.mx_source.specs.SourceValue.{SourceValue}
use Rattle.mx_squash.specs.Copies.{Site}
use Rattle.mx_layout.specs.Layout.{IsLayout, blocks_in}
use Rattle.mx_layout.specs.Overlong.{overlong}
use Rattle.mx_link.specs.declared.Linked.{Linked}
use Rattle.mx_link.specs.Origins.{from_target}
use Rattle.mx_link.specs.Linked.{IsLinked}
use Rattle.mx_reorg.specs.Greedy.{IsGreedy}
use Rattle.mx_isa.specs.Board.{board}
use Rattle.law_schedule.proofs.Kept.{linked_layout}
use Rattle.mx_command.specs.Accepted.{CanBeRun}

pub reaches_is : (source : SourceValue) (l : Linked) → IsLinked IsGreedy from_target source board l
    → (sites : List Site) × IsLayout IsGreedy source board sites × (overlong source board (blocks_in sites) ≡ None)
reaches_is source l k = (k.sites, linked_layout from_target source board l k, k.reach)

pub can_be : (text interrupts : List ℕ) → length text ≤ MAX_SOURCE_BYTES → length interrupts ≤ MAX_FILE_BYTES
    → (text_fault DATA_BASE DATA_END text ≡ None) × (sites : List Site) × IsLayout IsGreedy (source_of DATA_BASE text) board sites
    × (overlong (source_of DATA_BASE text) board (blocks_in sites) ≡ None)
    → (requests : List ℕ) × (requests_of interrupts ≡ Ok requests) → CanBeRun text interrupts
can_be text interrupts short few linked asked = λ held name file limits there here. record {
  name = name;
  files = record { interrupts = Some file; input = None };
  limits = limits;
  asks = refl;
  text = text;
  is_text = record { there = there; within = short };
  faultless = linked.0;
  sites = linked.1;
  layout = linked.2;
  reach = linked.3;
  requests = asked.0;
  are_requests = (interrupts, record { there = here; within = few }, asked.1);
  input = [];
  is_input = refl;
}
