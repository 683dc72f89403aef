-- What the calls that read a file of a command say of their results, for the answers of the calls above them. A call that is
-- refused ends the command, whatever would come next (`FileRefused`); one that is given what it wants is the first part of each
-- command that reads so and goes on (`FileGiven`).
use Rattle.std.proofs.Common.{◌≡◌, ℕ, List, Result, inl, inr, ap}
use Rattle.std.specs.Result.{IsErrAnd}
use Rattle.mx_source.specs.SourceValue.{SourceValue}
use Rattle.cmd_answer.specs.declared.FileKind.{FileKind}
use Rattle.cmd_answer.specs.declared.FileKind.TheVariants.{Source}
use Rattle.cmd_answer.specs.declared.Reply.{Reply}
use Rattle.cmd_answer.specs.declared.Failure.{Failure}
use Rattle.cmd_answer.specs.Answer.{Answer}
use Rattle.mx_io.specs.Shelves.{Told, Counts}
use Rattle.cmd_answer.specs.Protocol.{Protocol, Reads, IsFault, Performed}
use Rattle.cmd_answer.specs.Replies.{OfFailure, OnAnswer}
use Rattle.cmd_answer.proofs.Replies.{reply_fails}
use Rattle.law_schedule.specs.Schedule.{IsScheduler}
use Rattle.cmd_source.specs.Protocols.{Layouts, AfterLayout, source_protocol, linked_protocol}
use Rattle.cmd_source.specs.Replied.{IsReplied}

-- a file
abbrev pub FileRefused : Told → FileKind → List ℕ → Counts → Counts → Answer → Type 0
FileRefused told kind name before between answer = (next : List ℕ → Protocol) → Performed told (Reads kind name next) before between answer

abbrev pub FileGiven : Told → FileKind → List ℕ → Counts → Counts → List ℕ → Type 0
FileGiven told kind name before between bytes =
    (next : List ℕ → Protocol) (after : Counts) (answer : Answer)
    → Performed told (next bytes) between after answer → Performed told (Reads kind name next) before after answer

-- a source
abbrev pub AssembledRefused : Told → List ℕ → Counts → Counts → Answer → Type 0
AssembledRefused told name before between answer =
    (next : SourceValue → Protocol) → Performed told (Reads Source name (source_protocol next)) before between answer

-- a source, linked by the list scheduler
abbrev pub ProgramRefused : Told → List ℕ → Counts → Counts → Answer → Type 0
ProgramRefused told name before between answer =
    (layout_of : Layouts) → IsScheduler layout_of → (next : AfterLayout)
    → Performed told (Reads Source name (linked_protocol layout_of next)) before between answer

-- the fault of a file is an answer
pub fault_is_replied :
    (shelf : Told) (kind : FileKind) (name : List ℕ) (before after : Counts) (answer : Answer) → IsFault shelf kind name before after answer
    → IsReplied answer
fault_is_replied shelf kind name before after answer (inl (is, logged, why)) = inr (ap (λ a. a.status) is)
fault_is_replied shelf kind name before after answer (inr (is, logged, why)) = inr (ap (λ a. a.status) is)

-- a reply that reads first, and is refused
module _ (told : Told) (before between : Counts) (failure : Failure) (r : Result Reply Failure) (fails : IsErrAnd r (λ e. e ≡ failure)) where
  pub file_fails : (kind : FileKind) (name : List ℕ) (next : List ℕ → Protocol) → OfFailure failure (FileRefused told kind name before between)
      → OnAnswer r (Performed told (Reads kind name next) before between)
  file_fails kind name next refused =
      reply_fails r failure (FileRefused told kind name before between) (Performed told (Reads kind name next) before between) fails refused
      (λ answer holds. holds next)

  pub source_fails : (name : List ℕ) (next : SourceValue → Protocol) → OfFailure failure (AssembledRefused told name before between)
      → OnAnswer r (Performed told (Reads Source name (source_protocol next)) before between)
  source_fails name next refused =
      reply_fails r failure (AssembledRefused told name before between) (Performed told (Reads Source name (source_protocol next)) before between) fails
      refused (λ answer holds. holds next)

  pub program_fails : (name : List ℕ) (layout_of : Layouts) → IsScheduler layout_of → (next : AfterLayout)
      → OfFailure failure (ProgramRefused told name before between)
      → OnAnswer r (Performed told (Reads Source name (linked_protocol layout_of next)) before between)
  program_fails name layout_of is next refused =
      reply_fails r failure (ProgramRefused told name before between)
      (Performed told (Reads Source name (linked_protocol layout_of next)) before between) fails refused (λ answer holds. holds layout_of is next)
