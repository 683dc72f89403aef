-- A text without faults, laid out by greedy plans, is linked as the laws ask.
use Rattle.std.proofs.Common.{◌≡◌, ℕ, ◌+◌, ◌*◌, ◌≤◌, List, length, None, arith}
use Rattle.std.specs.Prelude.{slice_index_or}
use Rattle.mx_isa.specs.declared.board.TheConstants.{DATA_BASE, DATA_END}
use Rattle.mx_isa.specs.declared.Place.{Place}
use Rattle.mx_source.specs.SourceValue.{SourceValue}
use Rattle.mx_squash.specs.Copies.{Site}
use Rattle.mx_layout.specs.Layout.{IsLayout, blocks_in}
use Rattle.mx_layout.specs.Overlong.{overlong}
use Rattle.mx_reorg.specs.Greedy.{IsGreedy}
use Rattle.mx_reorg.proofs.ValidPlans.{greedy_valid}
use Rattle.mx_reorg.proofs.ExistsItems.{height_of}
use Rattle.mx_asm.specs.Texts.{source_of, text_fault}
use Rattle.mx_asm.proofs.Sourced.{faultless_source}
use Rattle.mx_isa.specs.Board.{board}
use Rattle.law_link.specs.Runs.{IsLaid}
use Rattle.law_end_to_end.specs.Laws.{MeansItsSource}
use Rattle.law_end_to_end.proofs.Composed.{run_means}
use Rattle.law_end_to_end.proofs.Registers.{text_registers}

-- such a text is laid out with valid plans at a place that has room
module _ (place : Place) (text : List ℕ) (sites : List Site) where
  abbrev source : SourceValue
  source = source_of place.user_data text

  pub text_laid : 256 ≤ place.user_data → text_fault place.user_data place.end text ≡ None → place.code + 3 * length source.statements ≤ 65535
      → IsLayout IsGreedy source place sites → overlong source place (blocks_in sites) ≡ None → IsLaid source place sites
  text_laid least faultless room layout reach = record {
    well_formed = faultless_source place.user_data place.end text least place.ordered place.within faultless;
    registers = text_registers place.user_data text;
    room = room;
    layout = record {
      blocks = layout.blocks;
      stand = layout.stand;
      plans = λ k d l. let s : Site = slice_index_or sites k d in greedy_valid s.block s.plan (layout.plans k d l) (λ x h. height_of s.block x);
    };
    reach = reach;
  }

pub text_means :
    (text : List ℕ) (sites : List Site) (requests bytes : List ℕ) (budget : ℕ) → text_fault DATA_BASE DATA_END text ≡ None
    → IsLayout IsGreedy (source_of DATA_BASE text) board sites
    → overlong (source_of DATA_BASE text) board (blocks_in sites) ≡ None → MeansItsSource (source_of DATA_BASE text) sites requests bytes budget
text_means text sites requests bytes budget faultless layout reach =
    let few = (faultless_source 256 65536 text (omega arith) (omega arith) (omega arith) faultless).few_statements in
    run_means (source_of DATA_BASE text) sites requests bytes budget (text_laid board text sites (omega arith) faultless (omega (arith, few)) layout reach)
