-- The answer of an accepted run is the report of a run that does what its source means.
use Rattle.std.proofs.Common.{◌≡◌, ℕ, ◌≤◌, List, length, false, Option, Some, None, refl, sym, ap, ◌∙◌, subst, arith}
use Rattle.std.specs.Prelude.{nat_lt, is_some}
use Rattle.std.proofs.lemmas.Bool.{cond-false}
use Rattle.std.proofs.lemmas.Bool.Decides.{nat_tests}
use Rattle.mx_isa.specs.declared.board.TheConstants.{DATA_BASE}
use Rattle.mx_board.specs.RequestFile.{requests_of}
use Rattle.mx_source.specs.SourceValue.{SourceValue}
use Rattle.mx_source.specs.Meaning as meant
use Rattle.mx_turn.specs.Handler.{shipped}
use Rattle.mx_turn.specs.Program.{program_of}
use Rattle.mx_squash.specs.Copies.{Site}
use Rattle.mx_layout.specs.Layout.{blocks_in}
use Rattle.mx_layout.specs.Overlong.{overlong}
use Rattle.law_schedule.specs.Schedule.{IsScheduler}
use Rattle.mx_link.specs.Origins.{from_target}
use Rattle.mx_link.specs.Linked.{linked_code, linked_data}
use Rattle.cmd_answer.specs.declared.FileKind.{FileKind}
use Rattle.cmd_answer.specs.declared.FileKind.TheVariants.{Source, Interrupts, Input}
use Rattle.cmd_answer.specs.declared.Status.{Status}
use Rattle.cmd_answer.specs.Answer.{Answer}
use Rattle.cmd_answer.specs.Files.{limit_of}
use Rattle.cmd_answer.specs.Protocol.{Protocol, Reads, Reading, Given, TooLong, reading_of, answered, resolved}
use Rattle.mx_io.specs.Shelves.{Told}
use Rattle.cmd_answer.specs.Delivery.{Delivered}
use Rattle.cmd_simulate.specs.Simulated.{program_answer}
use Rattle.cmd_simulate.specs.Machines.{if_asked, by_requests, requests_protocol, input_protocol}
use Rattle.mx_asm.specs.Texts.{source_of}
use Rattle.mx_isa.specs.Board.{board}
use Rattle.law_end_to_end.specs.EndToEnd.{source_program}
use Rattle.law_end_to_end.specs.Laws.{MeansItsSource}
use Rattle.law_end_to_end.proofs.Accepted.{text_means}
use Rattle.cmd_table.specs.Commands.{Command}
use Rattle.cmd_source.specs.Protocols.{unless_faulty, unless_overlong, Layouts, linked_protocol}
use Rattle.mx_command.specs.Protocols.{run_protocol, protocol_of}
use Rattle.mx_command.specs.Accepted.{Held, Holds, AreRequests, IsInput, Accepted}
use Rattle.mx_command.specs.Headline.{Headline}

module _ (held : Held) where
  -- a file that is held within its limit is read
  pub read_is :
      (kind : FileKind) (name bytes : List ℕ) (next : List ℕ → Protocol) → Holds held kind name bytes
      → resolved (Reads kind name next) held ≡ resolved (next bytes) held
  read_is kind name bytes next h =
      ap (λ o. answered kind (reading_of kind o) (λ b. resolved (next b) held)) h.there
      ∙ ap (λ (r : Reading). answered kind r (λ b. resolved (next b) held))
      (cond-false (nat_lt (limit_of kind) (length bytes)) TooLong (Given bytes) (within (limit_of kind) (length bytes) h.within))
    where
      within : (m n : ℕ) → n ≤ m → nat_lt m n ≡ false
      within m n l = grind (arith, nat_tests)

  pub requests_are :
      (name : Option (List ℕ)) (requests : List ℕ) (next : List ℕ → Protocol) → AreRequests held name requests
      → resolved (requests_protocol name next) held ≡ resolved (next requests) held
  requests_are None requests next h = ap (λ r. resolved (next r) held) (sym h)
  requests_are (Some name) requests next h =
      read_is Interrupts name h.0 (λ b. by_requests (requests_of b) next) h.1 ∙ ap (λ r. resolved (by_requests r next) held) h.2

  pub input_is :
      (name : Option (List ℕ)) (bytes : List ℕ) (next : List ℕ → Protocol) → IsInput held name bytes
      → resolved (input_protocol name next) held ≡ resolved (next bytes) held
  input_is None bytes next h = ap (λ r. resolved (next r) held) (sym h)
  input_is (Some name) bytes next h = read_is Input name bytes next h

pub given_is : (line : Option ℕ) (bytes : List ℕ) → if_asked (is_some line) bytes ≡ meant.given line bytes
given_is None bytes = refl
given_is (Some line) bytes = refl

module _ (asked : Option Command) (held : Held) (a : Accepted asked held) where
  abbrev source : SourceValue
  source = source_of DATA_BASE a.text

  abbrev code_words : List ℕ
  code_words = linked_code from_target source board a.sites

  abbrev data_words : List ℕ
  data_words = linked_data source board a.sites

  abbrev next : List Site → Protocol
  next sites = run_protocol a.files a.limits source sites

  -- what the files determine is the answer of the run
  answer_is : (layout_of : Layouts) → IsScheduler layout_of
      → resolved (protocol_of layout_of asked) held ≡ program_answer (source_program source a.sites a.input) code_words a.requests a.limits
  answer_is layout_of is =
      ap (λ o. resolved (protocol_of layout_of o) held) a.asks
      ∙ read_is held Source a.name a.text (linked_protocol layout_of (run_protocol a.files a.limits)) a.is_text
      ∙ ap (λ f. resolved (unless_faulty f (unless_overlong (overlong source board (blocks_in (layout_of source))) (next (layout_of source)))) held)
      a.faultless
      ∙ ap (λ (s : List Site). resolved (unless_overlong (overlong source board (blocks_in s)) (next s)) held) (is source a.sites a.layout)
      ∙ ap (λ o. resolved (unless_overlong o (next a.sites)) held) a.reach
      ∙ requests_are held a.files.interrupts a.requests _ a.are_requests
      ∙ input_is held a.files.input a.input _ a.is_input
      ∙ ap (λ i. program_answer (program_of shipped code_words data_words i) code_words a.requests a.limits) (given_is source.input a.input)

  means : MeansItsSource source a.sites a.requests a.input a.limits.budget
  means = text_means a.text a.sites a.requests a.input a.limits.budget a.faultless a.layout a.reach

  run_is_told : (result : Status) (told told' : Told) (before after : List ℕ)
      → Delivered (program_answer (source_program source a.sites a.input) code_words a.requests a.limits) result
      told told' before after
      → Headline asked held a result before after
  unfolding program_answer
  run_is_told result told told' before after d = record {
    status = d.status;
    output = d.output;
    sends_a_prefix = means.sent;
    halts_as_meant = means.halts;
    halts_in_time = means.ends;
    sends_in_time = means.sends;
  }

  -- where the answer was delivered, the headline holds of it
  pub delivered_is_headline :
      (layout_of : Layouts) → IsScheduler layout_of → (result : Status) (told told' : Told) (before after : List ℕ)
      → Delivered (resolved (protocol_of layout_of asked) held) result told told' before after
      → Headline asked held a result before after
  delivered_is_headline layout_of is result told told' before after d = run_is_told result told told' before after
      (subst (λ (x : Answer). Delivered x result told told' before after) (answer_is layout_of is) d)
