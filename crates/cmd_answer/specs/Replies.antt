-- What contracts see of a reply, and of a command that may be answered before its last step.
use Rattle.std.specs.Prelude.{string_bytes, Result, Ok, Err, MatchResult, IfErr}
use Rattle.mx_io.specs.declared.fault.Memory as io
use Rattle.cmd_answer.specs.declared.reply.Reply.{Reply}
use Rattle.cmd_answer.specs.declared.reply.Reply.TheVariants.{Prints, Writes}
use Rattle.cmd_answer.specs.declared.failure.Failure.{Failure}
use Rattle.cmd_answer.specs.declared.failure.Failure.TheVariants.{Answered, Memory}
use Rattle.cmd_answer.specs.Answer.{Answer, prints, writes}

-- a reply as an answer
abbrev pub reply_answer : Reply → Answer
reply_answer (Prints status output) = prints status output.items
reply_answer (Writes name bytes) = writes (string_bytes name) bytes.items

-- this holds of the answer, where a failure has one
abbrev pub OfFailure : Failure → (Answer → Type 0) → Type 0
OfFailure (Answered reply) P = P (reply_answer reply)
OfFailure Memory P = Unit {0}

-- this holds of the answer, where a step gives no value but that
abbrev pub IfAnswered : {T : Type 0} → Result T Failure → (Answer → Type 0) → Type 0
IfAnswered outcome P = IfErr outcome (λ failure. OfFailure failure P)

-- this holds of the answer to a command, whichever of its steps gave it
abbrev pub OnAnswer : Result Reply Failure → (Answer → Type 0) → Type 0
OnAnswer outcome P = MatchResult outcome (λ reply. P (reply_answer reply)) (λ failure. OfFailure failure P)

-- the reply to a command, whichever of its steps gave it
abbrev pub replied : Result Reply Failure → Result Reply io.Memory
replied (Ok reply) = Ok reply
replied (Err (Answered reply)) = Ok reply
replied (Err Memory) = Err (record {})
