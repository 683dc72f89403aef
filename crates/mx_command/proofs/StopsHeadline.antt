-- The answer of an accepted session tells the visits of the meaning.
use Rattle.std.proofs.Common.{◌≡◌, ℕ, zero, suc, ◌+◌, ◌<◌, ◌≤◌, ◌||◌, Bool, true, false, cond, List, [], ◌∷◌, length, Option, Some, None, refl, sym, ap, ◌∙◌, subst, ⊎_elim, arith}
use Rattle.std.specs.Prelude.{eqb, ltb, slice_get, option_and_then}
use Rattle.std.specs.Str.{bytes_eq}
use Rattle.std.proofs.lemmas.Bool.{cases_Bool, cond-true, cond-false}
use Rattle.std.proofs.lemmas.Bool.Decides.{nat_tests}
use Rattle.mx_isa.specs.declared.board.TheConstants.{DATA_BASE}
use Rattle.mx_isa.specs.UserBus.{is_user}
use Rattle.mx_source.specs.declared.Label.{Label}
use Rattle.mx_source.specs.declared.Label.TheVariants.{Code, Data}
use Rattle.mx_source.specs.Labels.{names_index, is_labelled}
use Rattle.mx_source.specs.SourceValue.{SourceValue}
use Rattle.mx_blocks.specs.Leaders.{gap, ends_there, is_leader}
use Rattle.mx_squash.specs.Copies.{Site}
use Rattle.mx_layout.specs.Layout.{blocks_in}
use Rattle.mx_layout.specs.Overlong.{overlong}
use Rattle.mx_link.specs.Origins.{from_nowhere}
use Rattle.mx_link.specs.Linked.{link_map, linked_code, linked_data}
use Rattle.mx_turn.specs.Handler.{shipped}
use Rattle.mx_turn.specs.Program.{program_of}
use Rattle.mx_lines.specs.Operands.{label_named}
use Rattle.mx_asm.specs.Texts.{source_of}
use Rattle.mx_asm.proofs.Sourced.{faultless_source}
use Rattle.mx_isa.specs.Board.{board}
use Rattle.law_end_to_end.specs.EndToEnd.{IsUnstuck}
use Rattle.law_end_to_end.proofs.Accepted.{text_laid}
use Rattle.mx_debug.specs.Sessions.{session}
use Rattle.law_debug.specs.Laws.{StopsAsMeant}
use Rattle.law_debug.proofs.Whole.{as_meant}
use Rattle.cmd_options.specs.Options.{IsAsked}
use Rattle.cmd_debug.specs.Sessions.{session_answer}
use Rattle.cmd_answer.specs.declared.FileKind.TheVariants.{Source}
use Rattle.cmd_answer.specs.declared.Status.{Status}
use Rattle.cmd_answer.specs.Answer.{Answer}
use Rattle.cmd_answer.specs.Protocol.{Protocol, resolved}
use Rattle.mx_io.specs.Shelves.{Told}
use Rattle.cmd_answer.specs.Delivery.{Delivered}
use Rattle.law_schedule.specs.Schedule.{IsScheduler}
use Rattle.cmd_table.specs.Commands.{Command}
use Rattle.cmd_source.specs.Protocols.{Layouts, unless_faulty, unless_overlong}
use Rattle.mx_command.specs.Protocols.{unless_unlabelled, statement_at, stopped_protocol, labelled_protocol, debug_protocol, protocol_of}
use Rattle.mx_command.specs.Accepted.{Held}
use Rattle.mx_command.specs.Within.{IsWithin}
use Rattle.mx_command.specs.Stops.{AcceptedStops, accepted_stops, accepted_session, StopsHeadline}
use Rattle.mx_command.proofs.Headline.{read_is, requests_are, input_is, given_is}

same_index : (i : ℕ) (l : Label) → l ≡ Code i → names_index i l ≡ true
same_index i l e = ap (names_index i) e ∙ (let z : eqb i i ≡ true = grind (arith, nat_tests) in z)

either_way : (a b : Bool) → b ≡ true → a || b ≡ true
either_way a b h = grind arith

labelled_by : (labels : List (List ℕ × Label)) (name : List ℕ) (i : ℕ) → label_named labels name ≡ Some (Code i) → is_labelled labels i ≡ true
labelled_by [] name i e = absurd (cc)
labelled_by (p ∷ labels) name i e = ⊎_elim
    (λ h.
    let here : Some p.1 ≡ Some (Code i) = sym (cond-true (bytes_eq name p.0) (Some p.1) (label_named labels name) h) ∙ e in
    let same : p.1 ≡ Code i = cc here in
    ap (λ b. b || is_labelled labels i) (same_index i p.1 same))
    (λ h. either_way (names_index i p.1) (is_labelled labels i)
    (labelled_by labels name i (sym (cond-false (bytes_eq name p.0) (Some p.1) (label_named labels name) h) ∙ e)))
    (cases_Bool (bytes_eq name p.0))

-- a statement that was found stands at a label
record Found (labels : List (List ℕ × Label)) (count i : ℕ) : Type 0 where
  labelled : is_labelled labels i ≡ true
  within : i < count

found_at : (count i j : ℕ) (b : Bool) → ltb j count ≡ b → cond b (Some j) None ≡ Some i → (j ≡ i) × (j < count)
found_at count i j true e h = (cc h, grind (arith, nat_tests, e))
found_at count i j false e h = absurd (cc h)

found_by :
    (labels : List (List ℕ × Label)) (name : List ℕ) (count i : ℕ) (l : Option Label) → label_named labels name ≡ l
    → option_and_then (statement_at count) l ≡ Some i → Found labels count i
found_by labels name count i None e h = absurd (cc h)
found_by labels name count i (Some (Data a)) e h = absurd (cc h)
found_by labels name count i (Some (Code j)) e h =
    let x = found_at count i j (ltb j count) refl h in
    record {
      labelled = subst (λ k. is_labelled labels k ≡ true) x.0 (labelled_by labels name j e);
      within = subst (λ k. k < count) x.0 x.1;
    }

-- a labelled statement is a leader
labelled_leads : (source : SourceValue) (i : ℕ) → is_labelled source.labels i ≡ true → is_leader source i ≡ true
labelled_leads source zero h = refl
labelled_leads source (suc i) h =
    ap (λ b. eqb (cond (b || (ends_there (slice_get source.statements i) || eqb (gap (is_labelled source.labels) source.statements i) 63)) 0
    (suc (gap (is_labelled source.labels) source.statements i))) 0) h

user_word : (a : ℕ) → 256 ≤ a → a ≤ 65535 → is_user board a ≡ true
user_word a low high = grind (arith, nat_tests)

module _ (asked : Option Command) (held : Held) (a : AcceptedStops asked held) (within : IsWithin asked) where
  ranges : IsAsked a.limits
  ranges = subst IsWithin a.asks within

  abbrev source : SourceValue
  source = source_of DATA_BASE a.text

  abbrev code_words : List ℕ
  code_words = linked_code from_nowhere source board a.sites

  abbrev data_words : List ℕ
  data_words = linked_data source board a.sites

  abbrev next : List Site → Protocol
  next sites = stopped_protocol a.files a.limits a.index source sites

  -- what the files determine is the answer of the session
  answer_is : (layout_of : Layouts) → IsScheduler layout_of → resolved (protocol_of layout_of asked) held ≡ session_answer (accepted_session asked held a)
  answer_is layout_of is =
      let after : ℕ → Protocol = λ index. unless_overlong (overlong source board (blocks_in (layout_of source)))
      (stopped_protocol a.files a.limits index source (layout_of source)) in
      ap (λ o. resolved (protocol_of layout_of o) held) a.asks
      ∙ read_is held Source a.name a.text (debug_protocol layout_of a.label a.files a.limits) a.is_text
      ∙ ap (λ f. resolved (unless_faulty f (labelled_protocol layout_of a.label a.files a.limits source)) held) a.faultless
      ∙ ap (λ (o : Option ℕ). resolved (unless_unlabelled a.label o after) held) a.labelled
      ∙ ap (λ (s : List Site). resolved (unless_overlong (overlong source board (blocks_in s)) (next s)) held) (is source a.sites a.layout)
      ∙ ap (λ o. resolved (unless_overlong o (next a.sites)) held) a.reach
      ∙ requests_are held a.files.interrupts a.requests _ a.are_requests
      ∙ input_is held a.files.input a.input _ a.is_input
      ∙ ap (λ i. session_answer (session (program_of shipped code_words data_words i) a.requests
      (link_map board a.sites a.index) a.limits.stops a.limits.watch a.limits.budget)) (given_is source.input a.input)

  means : IsUnstuck source a.input (a.limits.budget + 64) → StopsAsMeant (accepted_stops asked held a)
  means unstuck =
      let kept = faultless_source 256 65536 a.text (omega arith) (omega arith) (omega arith) a.faultless in
      let few = kept.few_statements in
      let found = found_by source.labels a.label (length source.statements) a.index (label_named source.labels a.label) refl a.labelled in
      as_meant (accepted_stops asked held a)
      (text_laid board a.text a.sites (omega arith) a.faultless (omega (arith, few)) a.layout a.reach)
      (labelled_leads source a.index found.labelled) found.within (user_word a.limits.watch ranges.watch.0 ranges.watch.1) unstuck

  session_is_told : (result : Status) (told told' : Told) (before after : List ℕ)
      → Delivered (session_answer (accepted_session asked held a)) result told told' before after
      → StopsHeadline asked held a result before after
  unfolding session_answer
  session_is_told result told told' before after d = record { status = d.status; output = d.output; means = means }

  -- where the answer was delivered, it is that of such a session
  pub delivered_is_stops :
      (layout_of : Layouts) → IsScheduler layout_of → (result : Status) (told told' : Told) (before after : List ℕ)
      → Delivered (resolved (protocol_of layout_of asked) held) result told told' before after
      → StopsHeadline asked held a result before after
  delivered_is_stops layout_of is result told told' before after d = session_is_told result told told' before after
      (subst (λ (x : Answer). Delivered x result told told' before after) (answer_is layout_of is) d)
