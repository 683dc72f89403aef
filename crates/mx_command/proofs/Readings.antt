-- What the calls that read one of two sources, or an input, say of their results, for the answers of the calls above them, as
-- `FileRefused` and `file_fails` of `cmd_source` do of a file.
use Rattle.std.proofs.Common.{◌≡◌, ℕ, List, Option, Result}
use Rattle.std.specs.Result.{IsErrAnd}
use Rattle.mx_isa.specs.declared.Place.{Place}
use Rattle.mx_source.specs.SourceValue.{SourceValue}
use Rattle.cmd_answer.specs.declared.FileKind.{FileKind}
use Rattle.cmd_answer.specs.declared.Failure.{Failure}
use Rattle.cmd_answer.specs.declared.Reply.{Reply}
use Rattle.cmd_answer.specs.Answer.{Answer}
use Rattle.mx_io.specs.Shelves.{Told, Counts}
use Rattle.cmd_answer.specs.Protocol.{Protocol, Reads, Performed}
use Rattle.cmd_answer.specs.Replies.{OfFailure, OnAnswer}
use Rattle.cmd_answer.proofs.Replies.{reply_fails}
use Rattle.cmd_simulate.specs.Machines.{input_protocol}
use Rattle.cmd_simulate.proofs.Readings.{InputRefused}
use Rattle.mx_command.specs.Protocols.{assembled_protocol}

-- one of two sources, to be linked for its part of the data
abbrev pub SourceRefused : Told → FileKind → List ℕ → ℕ → Place → Counts → Counts → Answer → Type 0
SourceRefused told kind name program place before between answer =
    (next : SourceValue → Protocol) → Performed told (Reads kind name (assembled_protocol program place next)) before between answer

-- a reply that reads first, and is refused
module _ (told : Told) (before between : Counts) (failure : Failure) (r : Result Reply Failure) (fails : IsErrAnd r (λ e. e ≡ failure)) where
  pub one_fails : (kind : FileKind) (name : List ℕ) (program : ℕ) (place : Place) (next : SourceValue → Protocol)
      → OfFailure failure (SourceRefused told kind name program place before between)
      → OnAnswer r (Performed told (Reads kind name (assembled_protocol program place next)) before between)
  one_fails kind name program place next refused =
      reply_fails r failure (SourceRefused told kind name program place before between)
      (Performed told (Reads kind name (assembled_protocol program place next)) before between) fails refused (λ answer holds. holds next)

  pub input_fails : (name : Option (List ℕ)) (next : List ℕ → Protocol) → OfFailure failure (InputRefused told name before between)
      → OnAnswer r (Performed told (input_protocol name next) before between)
  input_fails name next refused =
      reply_fails r failure (InputRefused told name before between) (Performed told (input_protocol name next) before between) fails refused
      (λ answer holds. holds next)
