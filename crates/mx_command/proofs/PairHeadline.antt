-- The answer of an accepted pair is the report of a run in which both programs do what their sources mean.
use Rattle.std.proofs.Common.{◌≡◌, ℕ, ◌≤◌, List, Option, None, ap, ◌∙◌, subst, arith}
use Rattle.std.proofs.lemmas.Option.{slice_get_past}
use Rattle.mx_isa.specs.declared.Place.{Place}
use Rattle.mx_source.specs.SourceValue.{SourceValue}
use Rattle.mx_squash.specs.Copies.{Site}
use Rattle.mx_layout.specs.Layout.{blocks_in}
use Rattle.mx_layout.specs.Overlong.{overlong}
use Rattle.mx_link.specs.Origins.{from_target}
use Rattle.mx_link.specs.Linked.{linked_code, linked_data}
use Rattle.mx_asm.specs.Texts.{source_of}
use Rattle.mx_asm.proofs.Sourced.{faultless_source}
use Rattle.cmd_answer.specs.declared.FileKind.TheVariants.{First, Second}
use Rattle.cmd_answer.specs.declared.Status.{Status}
use Rattle.cmd_answer.specs.Answer.{Answer}
use Rattle.cmd_answer.specs.Protocol.{Protocol, Reads, resolved}
use Rattle.mx_io.specs.Shelves.{Told}
use Rattle.cmd_answer.specs.Delivery.{Delivered}
use Rattle.law_schedule.specs.Schedule.{IsScheduler}
use Rattle.mx_tasks.specs.Places.{lower, upper}
use Rattle.mx_tasks.specs.Images.{shared_code, shared_data}
use Rattle.cmd_share.specs.Runs.{shared_answer, sharing_protocol}
use Rattle.law_tasks.specs.Sources.{IsSharingText}
use Rattle.law_tasks.proofs.Texts.{texts_mean}
use Rattle.cmd_table.specs.Commands.{Command}
use Rattle.cmd_source.specs.Protocols.{Layouts}
use Rattle.mx_command.specs.Protocols.{wrong_by, wrong_with, unless_wrong, unless_far, assembled_protocol, pair_protocol, protocol_of}
use Rattle.mx_command.specs.Accepted.{Held}
use Rattle.mx_command.specs.Pairs.{AcceptedPair, pair_program, PairHeadline}
use Rattle.mx_command.proofs.Headline.{read_is, requests_are}
use Rattle.mx_command.proofs.Pairs.{lower_is, upper_is}

-- nothing is wrong with a text that may share the machine
nothing_wrong :
    (place : Place) (text : List ℕ) (sites : List Site) → 256 ≤ place.user_data → IsSharingText place text sites → wrong_with place text ≡ None
nothing_wrong place text sites least s =
    let source = source_of place.user_data text in
    let each = (faultless_source place.user_data place.end text least place.ordered place.within s.faultless).a_line_each in
    let few = s.few in
    λ k. wrong_by (s.faultless k) (s.no_input k) (slice_get_past source.lines 10000 (omega (arith, each, few)) k)

module _ (asked : Option Command) (held : Held) (a : AcceptedPair asked held) where
  abbrev first : SourceValue
  first = source_of lower.user_data a.first

  abbrev second : SourceValue
  second = source_of upper.user_data a.second

  -- what follows the two layouts
  abbrev run : List Site → List Site → Protocol
  run sites others =
      sharing_protocol a.interrupts a.budget
      (shared_code (linked_code from_target first lower sites) (linked_code from_target second upper others))
      (shared_data (linked_data first lower sites) (linked_data second upper others))

  abbrev laid : List Site → List Site → Protocol
  laid sites others = unless_far 1 (overlong first lower (blocks_in sites)) (unless_far 2 (overlong second upper (blocks_in others)) (run sites others))

  -- what the files determine is the answer of the run
  answer_is :
      (layout_of : Layouts) → IsScheduler layout_of → resolved (protocol_of layout_of asked) held
      ≡ shared_answer (pair_program asked held a) a.requests a.budget
  answer_is layout_of is =
      let pair : SourceValue → SourceValue → Protocol = pair_protocol layout_of a.interrupts a.budget in
      let others : SourceValue → Protocol = λ one. Reads Second a.second_name (assembled_protocol 2 upper (pair one)) in
      ap (λ o. resolved (protocol_of layout_of o) held) a.asks
      ∙ read_is held First a.first_name a.first (assembled_protocol 1 lower others) a.is_first
      ∙ ap (λ w. resolved (unless_wrong 1 w (others first)) held) (nothing_wrong lower a.first a.lower_sites (omega arith) a.first_shares)
      ∙ read_is held Second a.second_name a.second (assembled_protocol 2 upper (pair first)) a.is_second
      ∙ ap (λ w. resolved (unless_wrong 2 w (pair first second)) held) (nothing_wrong upper a.second a.upper_sites (omega arith) a.second_shares)
      ∙ (λ k. resolved (laid (lower_is layout_of is first a.lower_sites a.first_shares.layout k)
      (upper_is layout_of is second a.upper_sites a.second_shares.layout k)) held)
      ∙ ap (λ o. resolved (unless_far 1 o (unless_far 2 (overlong second upper (blocks_in a.upper_sites)) (run a.lower_sites a.upper_sites))) held)
      a.first_shares.reach
      ∙ ap (λ o. resolved (unless_far 2 o (run a.lower_sites a.upper_sites)) held) a.second_shares.reach
      ∙ requests_are held a.interrupts a.requests _ a.are_requests

  run_is_told : (result : Status) (told told' : Told) (before after : List ℕ)
      → Delivered (shared_answer (pair_program asked held a) a.requests a.budget) result told told' before after
      → PairHeadline asked held a result before after
  unfolding shared_answer
  run_is_told result told told' before after d = record {
    status = d.status;
    output = d.output;
    means = texts_mean a.first a.second a.lower_sites a.upper_sites a.requests a.budget a.first_shares a.second_shares;
  }

  -- where the answer was delivered, it is that of such a run
  pub delivered_is_pair : (layout_of : Layouts) → IsScheduler layout_of → (result : Status) (told told' : Told) (before after : List ℕ)
      → Delivered (resolved (protocol_of layout_of asked) held) result told told' before after
      → PairHeadline asked held a result before after
  delivered_is_pair layout_of is result told told' before after d = run_is_told result told told' before after
      (subst (λ (x : Answer). Delivered x result told told' before after) (answer_is layout_of is) d)
