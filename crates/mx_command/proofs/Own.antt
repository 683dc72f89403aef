-- Each command answers with a status of its own, and only an answer that is done writes a file, which is one of `build` or `migrate`.
use Rattle.std.proofs.Common.{◌≡◌, ℕ, ◌++◌, List, [], ◌∷◌, Bool, true, false, cond, Option, Some, None, Result, Ok, Err, inl, inr, refl, sym, ap, ◌∙◌, subst}
use Rattle.std.specs.Prelude.{is_some}
use Rattle.mx_isa.specs.declared.board.TheConstants.{DATA_BASE, DATA_END}
use Rattle.mx_board.specs.declared.EventError.{EventError}
use Rattle.mx_board.specs.RequestFile.{requests_of}
use Rattle.mx_image.specs.declared.ImageError.{ImageError}
use Rattle.mx_image.specs.Files.{file_refusal, file_in, file_bytes}
use Rattle.mx_turn.specs.Handler.{shipped}
use Rattle.mx_turn.specs.Program.{Program, program_of}
use Rattle.cmd_answer.specs.declared.FileKind.TheVariants.{Second}
use Rattle.cmd_answer.specs.declared.Status.{Status}
use Rattle.cmd_answer.specs.declared.Status.TheVariants.{Halted, Done, Refused, Usage, OutOfBudget, ReadFault, WriteFault, Memory, BadImage, BadEvents, Stuck}
use Rattle.cmd_answer.specs.Answer.{Answer, prints, writes, is_own}
use Rattle.cmd_answer.specs.Delivery.{HasStatus}
use Rattle.cmd_answer.specs.declared.Failure.{Failure}
use Rattle.cmd_answer.specs.declared.Reply.{Reply}
use Rattle.cmd_answer.specs.Replies.{OnAnswer}
use Rattle.cmd_answer.proofs.Replies.{reply_weaker}
use Rattle.mx_io.specs.Shelves.{Told, Counts}
use Rattle.cmd_answer.specs.Protocol.{Protocol, Answers, Reads, Performed, HasOwnAnswers, OnlyPrints}
use Rattle.cmd_answer.proofs.Protocols.{no_file}
use Rattle.law_schedule.proofs.Scheduler.{scheduler}
use Rattle.law_schedule.specs.Schedule.{IsScheduler}
use Rattle.mx_command.specs.Writing.{writes_a_file}
use Rattle.mx_lines.specs.declared.Fault.{Fault}
use Rattle.mx_asm.specs.Texts.{source_of, text_fault}
use Rattle.mx_isa.specs.declared.Place.{Place}
use Rattle.mx_source.specs.SourceValue.{SourceValue}
use Rattle.mx_source.specs.Meaning.{Mark}
use Rattle.mx_source.specs.Meaning as meant
use Rattle.mx_layout.specs.Layout.{blocks_in}
use Rattle.mx_layout.specs.Overlong.{Overlong, overlong}
use Rattle.mx_squash.specs.Copies.{Site}
use Rattle.mx_link.specs.Origins.{from_target, from_nowhere}
use Rattle.mx_link.specs.Linked.{link_map, linked_code, linked_data}
use Rattle.cmd_list.specs.Listing.{layout_listing}
use Rattle.mx_isa.specs.Board.{board}
use Rattle.cmd_meaning.specs.Told.{status_of, meaning_answer}
use Rattle.mx_module.specs.LinkFaults.{Refusal}
use Rattle.mx_module.specs.Joined.{joined, join_fault}
use Rattle.cmd_options.specs.declared.Limits.{Limits}
use Rattle.cmd_simulate.specs.Simulated.{program_answer}
use Rattle.cmd_options.specs.Options.{Files}
use Rattle.cmd_simulate.specs.Machines.{if_asked, by_requests, requests_protocol, input_protocol, machine_protocol}
use Rattle.mx_debug.specs.declared.Ending.{Ending}
use Rattle.mx_debug.specs.declared.Ending.TheVariants as ending
use Rattle.mx_debug.specs.Sessions.{Session, session}
use Rattle.cmd_options.specs.declared.SessionLimits.{SessionLimits}
use Rattle.cmd_debug.specs.Sessions.{session_answer, session_protocol}
use Rattle.cmd_debug.specs.Sessions as sessions
use Rattle.mx_tasks.specs.Places.{lower, upper}
use Rattle.mx_tasks.specs.Sharing.{shared}
use Rattle.cmd_share.specs.Runs.{shared_answer, sharing_protocol}
use Rattle.cmd_table.specs.declared.Command.{Command as GivenCommand}
use Rattle.cmd_table.specs.Seen.{seen_command}
use Rattle.cmd_table.specs.Commands.{Command, Run, Meaning, Build, Exec, Listing, Gen, Soak, Migrate, Share, Debug, Best, Join}
use Rattle.cmd_source.specs.Protocols.{unless_faulty, unless_overlong, Layouts, AfterLayout, linked_protocol}
use Rattle.mx_command.specs.Protocols.{unless_refused, migrated, run_protocol, build_protocol, linked_contents, list_protocol, unless_wrong, wrong_with, unless_far, upper_layout, pair_code, pair_data, pair_protocol, assembled_protocol, statement_named, unless_unlabelled, labelled_protocol, protocol_of, measured, printed_unless, modules_protocol}
use Rattle.cmd_source.specs.Replied.{is_answered, IsReplied}
use Rattle.cmd_source.proofs.Readings.{fault_is_replied}

-- the answer to what was asked, which has a file only where one may be written
pub record IsAnswer (may_write : Bool) (answer : Answer) : Type 0 where
  pub answered : is_answered answer.status ≡ true
  pub done : is_some answer.file ≡ true → answer.status ≡ Done
  pub fileless : may_write ≡ false → answer.file ≡ None

abbrev pub HasAnswers : Bool → Protocol → Type 0
HasAnswers may_write (Answers answer) = IsAnswer may_write answer
HasAnswers may_write (Reads kind name next) = (bytes : List ℕ) → HasAnswers may_write (next bytes)

written_answer : (name bytes : List ℕ) → IsAnswer true (writes name bytes)
written_answer name bytes = record { answered = refl; done = λ h. refl; fileless = λ e. absurd (cc) }

answered_ending : (halted : Bool) → is_answered (cond halted Halted OutOfBudget) ≡ true
answered_ending true = refl
answered_ending false = refl

answered_mark : (m : Mark) → is_answered (status_of m) ≡ true
answered_mark meant.Going = refl
answered_mark meant.Halted = refl
answered_mark (meant.Stuck why) = refl

answered_session : (e : Ending) → is_answered (sessions.status_of e) ≡ true
answered_session ending.Stopped = refl
answered_session ending.Halted = refl
answered_session ending.OutOfBudget = refl

module _ (may_write : Bool) where
  printed_answer : (status : Status) (output : List ℕ) → is_answered status ≡ true → IsAnswer may_write (prints status output)
  printed_answer status output is = record { answered = is; done = λ h. absurd (cc); fileless = λ e. refl }

  answers_program : (p : Program) (code requests : List ℕ) (limits : Limits) → IsAnswer may_write (program_answer p code requests limits)
  unfolding program_answer
  answers_program p code requests limits = printed_answer _ _ (answered_ending _)

  answers_by_requests :
      (read : Result (List ℕ) EventError) (next : List ℕ → Protocol) → ((requests : List ℕ) → HasAnswers may_write (next requests))
      → HasAnswers may_write (by_requests read next)
  answers_by_requests (Ok requests) next has = has requests
  answers_by_requests (Err fault) next has = printed_answer _ _ refl

  answers_requests :
      (name : Option (List ℕ)) (next : List ℕ → Protocol) → ((requests : List ℕ) → HasAnswers may_write (next requests))
      → HasAnswers may_write (requests_protocol name next)
  answers_requests None next has = has _
  answers_requests (Some name) next has = λ bytes. answers_by_requests (requests_of bytes) next has

  answers_input :
      (name : Option (List ℕ)) (next : List ℕ → Protocol) → ((bytes : List ℕ) → HasAnswers may_write (next bytes))
      → HasAnswers may_write (input_protocol name next)
  answers_input None next has = has _
  answers_input (Some name) next has = has

  answers_machine :
      (files : Files) (limits : Limits) (code user_data : List ℕ) (asks : Bool) → HasAnswers may_write (machine_protocol files limits code user_data asks)
  answers_machine files limits code user_data asks =
      answers_requests files.interrupts _ (λ requests. answers_input files.input _
      (λ bytes. answers_program (program_of shipped code user_data (if_asked asks bytes)) code requests limits))

  answers_meaning : (source : SourceValue) (place : Place) (input : List ℕ) (n : ℕ) → IsAnswer may_write (meaning_answer source place input n)
  unfolding meaning_answer
  answers_meaning source place input n = printed_answer _ _ (answered_mark _)

  answers_faulty : (found : Option (ℕ × Fault)) (next : Protocol) → HasAnswers may_write next → HasAnswers may_write (unless_faulty found next)
  answers_faulty (Some found) next has = printed_answer _ _ refl
  answers_faulty None next has = has

  answers_overlong : (found : Option Overlong) (next : Protocol) → HasAnswers may_write next → HasAnswers may_write (unless_overlong found next)
  answers_overlong (Some found) next has = printed_answer _ _ refl
  answers_overlong None next has = has

  answers_linked :
      (layout_of : Layouts) (next : AfterLayout) → ((source : SourceValue) → HasAnswers may_write (next source (layout_of source))) → (text : List ℕ)
      → HasAnswers may_write (linked_protocol layout_of next text)
  answers_linked layout_of next has text = answers_faulty (text_fault DATA_BASE DATA_END text) _ (answers_overlong _ _ (has (source_of DATA_BASE text)))

  answers_refused : (refusal : Option ImageError) (next : Protocol) → HasAnswers may_write next → HasAnswers may_write (unless_refused refusal next)
  answers_refused (Some error) next has = printed_answer _ _ refl
  answers_refused None next has = has

  answers_shared : (q : Program) (requests : List ℕ) (budget : ℕ) → IsAnswer may_write (shared_answer q requests budget)
  unfolding shared_answer
  answers_shared q requests budget = printed_answer _ _ (answered_ending _)

  answers_sharing :
      (interrupts : Option (List ℕ)) (budget : ℕ) (code user_data : List ℕ) → HasAnswers may_write (sharing_protocol interrupts budget code user_data)
  answers_sharing interrupts budget code user_data = answers_requests interrupts _ (λ requests. answers_shared (shared code user_data) requests budget)

  answers_far : (program : ℕ) (found : Option Overlong) (next : Protocol) → HasAnswers may_write next → HasAnswers may_write (unless_far program found next)
  answers_far program (Some found) next has = printed_answer _ _ refl
  answers_far program None next has = has

  answers_wrong : (program : ℕ) (cause : Option (List ℕ)) (next : Protocol) → HasAnswers may_write next → HasAnswers may_write (unless_wrong program cause next)
  answers_wrong program (Some cause) next has = printed_answer _ _ refl
  answers_wrong program None next has = has

  answers_pair :
      (layout_of : Layouts) (interrupts : Option (List ℕ)) (budget : ℕ) (first second : SourceValue)
      → HasAnswers may_write (pair_protocol layout_of interrupts budget first second)
  answers_pair layout_of interrupts budget first second =
      answers_far 1 (overlong first lower (blocks_in (layout_of first))) _
      (answers_far 2 (overlong second upper (blocks_in (upper_layout layout_of second))) _
      (answers_sharing interrupts budget (pair_code layout_of first second) (pair_data layout_of first second)))

  answers_assembled :
      (program : ℕ) (place : Place) (next : SourceValue → Protocol) → ((source : SourceValue) → HasAnswers may_write (next source)) → (text : List ℕ)
      → HasAnswers may_write (assembled_protocol program place next text)
  answers_assembled program place next has text = answers_wrong program (wrong_with place text) _ (has (source_of place.user_data text))

  answers_measured : (source : SourceValue) (sites : List Site) (found : Option (ℕ × Fault)) → IsAnswer may_write (measured source sites found)
  answers_measured source sites (Some found) = printed_answer _ _ refl
  answers_measured source sites None = printed_answer _ _ refl

  answers_session : (s : Session) → IsAnswer may_write (session_answer s)
  unfolding session_answer
  answers_session s = printed_answer _ _ (answered_session _)

  answers_stopped :
      (files : Files) (limits : SessionLimits) (code user_data : List ℕ) (asks : Bool) (address : ℕ)
      → HasAnswers may_write (session_protocol files limits code user_data asks address)
  answers_stopped files limits code user_data asks address =
      answers_requests files.interrupts _ (λ requests. answers_input files.input _ (λ bytes.
      answers_session (session (program_of shipped code user_data (if_asked asks bytes)) requests address limits.stops limits.watch limits.budget)))

  answers_unlabelled :
      (name : List ℕ) (found : Option ℕ) (next : ℕ → Protocol) → ((index : ℕ) → HasAnswers may_write (next index))
      → HasAnswers may_write (unless_unlabelled name found next)
  answers_unlabelled name None next has = printed_answer _ _ refl
  answers_unlabelled name (Some index) next has = has index

  answers_labelled :
      (layout_of : Layouts) (label : List ℕ) (files : Files) (limits : SessionLimits) (source : SourceValue)
      → HasAnswers may_write (labelled_protocol layout_of label files limits source)
  answers_labelled layout_of label files limits source =
      answers_unlabelled label (statement_named source label) _ (λ index. answers_overlong _ _
      (answers_stopped files limits (linked_code from_nowhere source board (layout_of source)) (linked_data source board (layout_of source))
      (is_some source.input)
      (link_map board (layout_of source) index)))

  answers_printed : (found : Option Refusal) (source : SourceValue) → IsAnswer may_write (printed_unless found source)
  answers_printed (Some found) source = printed_answer _ _ refl
  answers_printed None source = printed_answer _ _ refl

  answers_modules : (names texts : List (List ℕ)) → HasAnswers may_write (modules_protocol names texts)
  answers_modules [] texts = answers_printed (join_fault texts) (joined texts)
  answers_modules (name ∷ names) texts = λ text. answers_modules names (texts ++ text ∷ [])

answers_migrated : (target bytes : List ℕ) (refusal : Option ImageError) → IsAnswer true (migrated target bytes refusal)
answers_migrated target bytes (Some error) = printed_answer true _ _ refl
answers_migrated target bytes None = written_answer target _

pub has_answers : (layout_of : Layouts) (asked : Command) → HasAnswers (writes_a_file (Some asked)) (protocol_of layout_of (Some asked))
has_answers layout_of (Run source files limits) =
    answers_linked false layout_of (run_protocol files limits)
    (λ read. answers_machine false files limits (linked_code from_target read board (layout_of read)) (linked_data read board (layout_of read))
    (is_some read.input))
has_answers layout_of (Meaning source steps input) =
    λ text. answers_faulty false (text_fault DATA_BASE DATA_END text) _
    (answers_input false input _ (λ bytes. answers_meaning false (source_of DATA_BASE text) board bytes steps))
has_answers layout_of (Build source target) =
    answers_linked true layout_of (build_protocol target) (λ read. written_answer target (file_bytes (linked_contents read (layout_of read))))
has_answers layout_of (Exec image files limits) =
    λ bytes. answers_refused false (file_refusal bytes) _
    (answers_machine false files limits (file_in bytes).code (file_in bytes).user_data (file_in bytes).input)
has_answers layout_of (Listing source) =
    answers_linked false layout_of list_protocol (λ read. printed_answer false Done (layout_listing read board (layout_of read)) refl)
has_answers layout_of (Best source) =
    λ text. answers_measured false (source_of DATA_BASE text) (layout_of (source_of DATA_BASE text)) (text_fault DATA_BASE DATA_END text)
has_answers layout_of (Gen seed count) = printed_answer false _ _ refl
has_answers layout_of (Soak seed count) = printed_answer false _ _ refl
has_answers layout_of (Migrate image target) = λ bytes. answers_migrated target bytes (file_refusal bytes)
has_answers layout_of (Share first second interrupts budget) =
    answers_assembled false 1 lower (λ one. Reads Second second (assembled_protocol 2 upper (pair_protocol layout_of interrupts budget one)))
    (λ one. answers_assembled false 2 upper (pair_protocol layout_of interrupts budget one) (answers_pair false layout_of interrupts budget one))
has_answers layout_of (Debug source label files limits) =
    λ text. answers_faulty false (text_fault DATA_BASE DATA_END text) _ (answers_labelled false layout_of label files limits (source_of DATA_BASE text))
has_answers layout_of (Join names) = answers_modules false names []

own_status : (status : Status) → is_answered status ≡ true → is_own status ≡ true
own_status Halted is = refl
own_status Done is = refl
own_status Refused is = refl
own_status Usage is = absurd (cc)
own_status OutOfBudget is = refl
own_status ReadFault is = absurd (cc)
own_status WriteFault is = absurd (cc)
own_status Memory is = absurd (cc)
own_status BadImage is = refl
own_status BadEvents is = refl
own_status Stuck is = refl

own_protocol : (may_write : Bool) (p : Protocol) → HasAnswers may_write p → HasOwnAnswers p
own_protocol may_write (Answers answer) has = record { status = own_status answer.status has.answered; done = has.done }
own_protocol may_write (Reads kind name next) has = λ bytes. own_protocol may_write (next bytes) (has bytes)

pub own_answers : (layout_of : Layouts) (asked : Option Command) → HasOwnAnswers (protocol_of layout_of asked)
own_answers layout_of None = record { status = refl; done = λ h. absurd (cc) }
own_answers layout_of (Some asked) = own_protocol (writes_a_file (Some asked)) (protocol_of layout_of (Some asked)) (has_answers layout_of asked)

performed_is_replied : (may_write : Bool) (shelf : Told) (p : Protocol) (before after : Counts) (answer : Answer) → HasAnswers may_write p
    → Performed shelf p before after answer → IsReplied answer
performed_is_replied may_write shelf (Answers given) before after answer has (same, is) = inl (ap (λ a. is_answered a.status) is ∙ has.answered)
performed_is_replied may_write shelf (Reads kind name next) before after answer has (between, read, inl (same, faulty)) =
    fault_is_replied shelf kind name before between answer faulty
performed_is_replied may_write shelf (Reads kind name next) before after answer has (between, read, inr (bytes, found, rest)) =
    performed_is_replied may_write shelf (next bytes) between after answer (has bytes) rest

-- a reply has a status that can be put out
pub replied_status : (answer : Answer) → IsReplied answer → HasStatus answer
replied_status answer (inl is) = inl (own_status answer.status is)
replied_status answer (inr is) = inr is

-- and its status is not that of words that ask for nothing
pub replied_asks : (answer : Answer) → IsReplied answer → answer.status ≡ Usage → ⊥
replied_asks answer (inl is) e = let bad : true ≡ false = sym is ∙ ap is_answered e in absurd (cc)
replied_asks answer (inr is) e = let bad : ReadFault ≡ Usage = sym is ∙ e in absurd (cc)

-- what a command performs is what its value asks for
pub by_command : (layout_of : Layouts) (shelf : Told) (before after : Counts) (r : Result Reply Failure) {asked meant : GivenCommand} → asked ≡ meant
    → OnAnswer r (Performed shelf (protocol_of layout_of (Some (seen_command meant))) before after)
    → OnAnswer r (Performed shelf (protocol_of layout_of (Some (seen_command asked))) before after)
by_command layout_of shelf before after r is performed =
    subst (λ (c : GivenCommand). OnAnswer r (Performed shelf (protocol_of layout_of (Some (seen_command c))) before after)) (sym is) performed

-- a reply that reads no file
pub answered_with : (shelf : Told) (counts : Counts) (r : Result Reply Failure) (own : Answer) → OnAnswer r (λ answer. answer ≡ own)
    → OnAnswer r (Performed shelf (Answers own) counts counts)
answered_with shelf counts r own holds =
    reply_weaker r (λ answer. answer ≡ own) (Performed shelf (Answers own) counts counts) holds (λ answer is. (refl, is))

-- a reply to a command, whatever the layouts are
pub command_is_replied : (layout_of : Layouts) (shelf : Told) (before after : Counts) (answer : Answer) (meant : GivenCommand)
    → Performed shelf (protocol_of layout_of (Some (seen_command meant))) before after answer → IsReplied answer
command_is_replied layout_of shelf before after answer meant performed =
    performed_is_replied (writes_a_file (Some (seen_command meant))) shelf (protocol_of layout_of (Some (seen_command meant))) before after answer
    (has_answers layout_of (seen_command meant)) performed

only_prints : (p : Protocol) → HasAnswers false p → OnlyPrints p
only_prints (Answers answer) has = has.fileless refl
only_prints (Reads kind name next) has = λ bytes. only_prints (next bytes) (has bytes)

command_prints : (layout_of : Layouts) (asked : Option Command) → writes_a_file asked ≡ false → OnlyPrints (protocol_of layout_of asked)
command_prints layout_of None only = refl
command_prints layout_of (Some asked) only =
    only_prints (protocol_of layout_of (Some asked))
    (subst (λ (may_write : Bool). HasAnswers may_write (protocol_of layout_of (Some asked))) only (has_answers layout_of asked))

-- what a command that writes no file performs has none
pub nothing_to_write : (asked : Option Command) (shelf : Told) (before after : Counts) (answer : Answer) → writes_a_file asked ≡ false
    → ((layout_of : Layouts) → IsScheduler layout_of → Performed shelf (protocol_of layout_of asked) before after answer) → answer.file ≡ None
nothing_to_write asked shelf before after answer only performed =
    no_file shelf (protocol_of scheduler.0 asked) before after answer (command_prints scheduler.0 asked only) (performed scheduler.0 scheduler.1)
