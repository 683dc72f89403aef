-- What the debugger answers to a source without a fault.
use Rattle.std.proofs.Common.{◌≡◌, ℕ, List, Some, None, sym, ap, ◌∙◌}
use Rattle.std.specs.Prelude.{is_some, Option}
use Rattle.mx_source.specs.SourceValue.{SourceValue}
use Rattle.mx_squash.specs.Copies.{Site}
use Rattle.mx_layout.specs.Layout.{blocks_in}
use Rattle.mx_layout.specs.Overlong.{Overlong, IsOverlong, overlong}
use Rattle.mx_link.specs.declared.Linked.{Linked}
use Rattle.mx_link.specs.Origins.{from_nowhere}
use Rattle.mx_link.specs.Linked.{IsLinked, link_map}
use Rattle.mx_reorg.specs.Greedy.{IsGreedy}
use Rattle.cmd_answer.specs.declared.Status.TheVariants.{Refused}
use Rattle.cmd_answer.specs.Answer.{prints}
use Rattle.cmd_answer.specs.Protocol.{Protocol, Answers}
use Rattle.cmd_options.specs.Options.{Files}
use Rattle.cmd_options.specs.declared.SessionLimits.{SessionLimits}
use Rattle.cmd_debug.specs.Sessions.{session_protocol}
use Rattle.mx_isa.specs.Board.{board}
use Rattle.law_schedule.specs.Schedule.{IsScheduler}
use Rattle.law_schedule.proofs.Kept.{linked_sites, overlong_sites}
use Rattle.cmd_source.specs.Refusals.{overlong_line}
use Rattle.cmd_source.specs.Protocols.{unless_overlong, Layouts}
use Rattle.mx_command.specs.Protocols.{unless_unlabelled, no_label_line, statement_named, stopped_protocol, labelled_protocol}

module _ (layout_of : Layouts) (is : IsScheduler layout_of) (source : SourceValue) (label : List ℕ) (files : Files) (limits : SessionLimits) where
  abbrev after : ℕ → Protocol
  after index = unless_overlong (overlong source board (blocks_in (layout_of source))) (stopped_protocol files limits index source (layout_of source))

  pub unlabelled :
      statement_named source label ≡ None → labelled_protocol layout_of label files limits source ≡ Answers (prints Refused (no_label_line label))
  unlabelled e = ap (λ (o : Option ℕ). unless_unlabelled label o after) e

  module _ (index : ℕ) (named : statement_named source label ≡ Some index) where
    pub too_far : (found : Overlong) → IsOverlong IsGreedy source board found
        → labelled_protocol layout_of label files limits source ≡ Answers (prints Refused (overlong_line found.line found.from found.to))
    too_far found t =
        let same : layout_of source ≡ t.sites = overlong_sites layout_of is source found t in
        ap (λ (o : Option ℕ). unless_unlabelled label o after) named
        ∙ ap (λ (o : Option Overlong). unless_overlong o (stopped_protocol files limits index source (layout_of source)))
        (ap (λ (l : List Site). overlong source board (blocks_in l)) same ∙ t.is)

    pub linked_plain : (l : Linked) (k : IsLinked IsGreedy from_nowhere source board l)
        → session_protocol files limits l.image.code.items l.image.user_data.items (is_some source.input) (link_map board k.sites index)
        ≡ labelled_protocol layout_of label files limits source
    linked_plain l k =
        let same : layout_of source ≡ k.sites = linked_sites layout_of is from_nowhere source l k in
        (λ i. session_protocol files limits (k.code i) (k.user_data i) (is_some source.input) (link_map board k.sites index))
        ∙ ap (stopped_protocol files limits index source) (sym same)
        ∙ sym (ap (λ (o : Option ℕ). unless_unlabelled label o after) named
        ∙ ap (λ (o : Option Overlong). unless_overlong o (stopped_protocol files limits index source (layout_of source)))
        (ap (λ (l : List Site). overlong source board (blocks_in l)) same ∙ k.reach))
