-- A text that is assembled and linked, by the layout that a function of sources gives.
use Rattle.std.proofs.Common.{◌≡◌, ℕ, List, Some, None, sym, ap, ◌∙◌}
use Rattle.std.specs.Prelude.{Option}
use Rattle.mx_isa.specs.declared.board.TheConstants.{DATA_BASE, DATA_END}
use Rattle.mx_source.specs.SourceValue.{SourceValue}
use Rattle.mx_squash.specs.Copies.{Site}
use Rattle.mx_layout.specs.Layout.{blocks_in}
use Rattle.mx_layout.specs.Overlong.{Overlong, IsOverlong, overlong}
use Rattle.mx_link.specs.declared.Linked.{Linked}
use Rattle.mx_link.specs.Origins.{from_target}
use Rattle.mx_link.specs.Linked.{IsLinked}
use Rattle.mx_reorg.specs.Greedy.{IsGreedy}
use Rattle.cmd_answer.specs.declared.Status.TheVariants.{Refused}
use Rattle.cmd_answer.specs.Answer.{Answer, prints}
use Rattle.cmd_answer.specs.Protocol.{Protocol, Answers}
use Rattle.mx_lines.specs.declared.Fault.{Fault}
use Rattle.mx_asm.specs.Texts.{source_of, text_fault}
use Rattle.mx_isa.specs.Board.{board}
use Rattle.law_schedule.specs.Schedule.{IsScheduler}
use Rattle.law_schedule.proofs.Kept.{linked_sites, overlong_sites}
use Rattle.cmd_source.specs.Refusals.{fault_line, overlong_line}
use Rattle.cmd_source.specs.Protocols.{unless_faulty, source_protocol, unless_overlong, Layouts, AfterLayout, linked_protocol}

-- a text without a fault
pub sourced :
    (next : SourceValue → Protocol) (text : List ℕ) (source : SourceValue) → text_fault DATA_BASE DATA_END text ≡ None → source ≡ source_of DATA_BASE text
    → source_protocol next text ≡ next source
sourced next text source e is =
    ap (λ (found : Option (ℕ × Fault)). unless_faulty found (next (source_of DATA_BASE text))) e ∙ ap next (sym is)

-- a faulty one
pub faulty :
    (next : SourceValue → Protocol) (text : List ℕ) (line : ℕ) (fault : Fault) → text_fault DATA_BASE DATA_END text ≡ Some (line, fault)
    → source_protocol next text ≡ Answers (prints Refused (fault_line line fault))
faulty next text line fault e = ap (λ (found : Option (ℕ × Fault)). unless_faulty found (next (source_of DATA_BASE text))) e

-- what is wrong with a text, or with a source, and its answer
abbrev pub IsFaulty : List ℕ → Answer → Type 0
IsFaulty text answer =
    (line : ℕ) × (fault : Fault) × (text_fault DATA_BASE DATA_END text ≡ Some (line, fault)) × (answer ≡ prints Refused (fault_line line fault))

abbrev pub IsTooLong : SourceValue → Answer → Type 0
IsTooLong source answer =
    (found : Overlong) × IsOverlong IsGreedy source board found × (answer ≡ prints Refused (overlong_line found.line found.from found.to))

pub stops : (next : SourceValue → Protocol) (text : List ℕ) (answer : Answer) → IsFaulty text answer → source_protocol next text ≡ Answers answer
stops next text answer wrong = faulty next text wrong.0 wrong.1 wrong.2 ∙ ap Answers (sym wrong.3)

-- what follows a source, as far as its branches reach their targets
abbrev reaching : Layouts → AfterLayout → SourceValue → Protocol
reaching layout_of next source = unless_overlong (overlong source board (blocks_in (layout_of source))) (next source (layout_of source))

module _ (layout_of : Layouts) (is : IsScheduler layout_of) (source : SourceValue) where
  module _ (next : AfterLayout) (text : List ℕ) (e : text_fault DATA_BASE DATA_END text ≡ None) (read : source ≡ source_of DATA_BASE text) where
    -- with a branch that does not reach its target
    pub too_long : (found : Overlong) → IsOverlong IsGreedy source board found
        → linked_protocol layout_of next text ≡ Answers (prints Refused (overlong_line found.line found.from found.to))
    too_long found t =
        let same : layout_of source ≡ t.sites = overlong_sites layout_of is source found t in
        sourced (reaching layout_of next) text source e read
        ∙ ap (λ (o : Option Overlong). unless_overlong o (next source (layout_of source)))
        (ap (λ (l : List Site). overlong source board (blocks_in l)) same ∙ t.is)

    -- linked
    pub linked_text : (l : Linked) → IsLinked IsGreedy from_target source board l → linked_protocol layout_of next text ≡ next source (layout_of source)
    linked_text l k =
        let same : layout_of source ≡ k.sites = linked_sites layout_of is from_target source l k in
        sourced (reaching layout_of next) text source e read
        ∙ ap (λ (o : Option Overlong). unless_overlong o (next source (layout_of source)))
        (ap (λ (s : List Site). overlong source board (blocks_in s)) same ∙ k.reach)

pub faulty_text : (layout_of : Layouts) (next : AfterLayout) (text : List ℕ) (answer : Answer) → IsFaulty text answer
    → linked_protocol layout_of next text ≡ Answers answer
faulty_text layout_of next text answer wrong = stops (reaching layout_of next) text answer wrong
