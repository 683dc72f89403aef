-- What the steps of a command say of its answer, for the answers of the calls that are made of them: a failure that `?` hands on
-- keeps its answer, and a fact of an answer is weakened where it stands.
use Rattle.std.proofs.Common.{◌≡◌, Result, Ok, Err, IfOk, subst, sym, ap, ◌∙◌}
use Rattle.std.specs.Result.{IsErrAnd}
use Rattle.std.proofs.lemmas.Result.{err_from_is_err_and}
use Rattle.mx_io.specs.declared.fault.Memory as io
use Rattle.cmd_answer.specs.declared.reply.Reply.{Reply}
use Rattle.cmd_answer.specs.declared.failure.Failure.{Failure}
use Rattle.cmd_answer.specs.declared.failure.Failure.TheVariants.{Answered, Memory}
use Rattle.cmd_answer.specs.Answer.{Answer}
use Rattle.mx_io.specs.Shelves.{Told, Counts}
use Rattle.cmd_answer.specs.Protocol.{Protocol, Performed}
use Rattle.cmd_answer.specs.Replies.{reply_answer, OfFailure, IfAnswered, OnAnswer, replied}

of_failure : (failure : Failure) (P Q : Answer → Type 0) → ((answer : Answer) → P answer → Q answer) → OfFailure failure P → OfFailure failure Q
of_failure (Answered reply) P Q weaker holds = weaker (reply_answer reply) holds
of_failure Memory P Q weaker holds = tt

-- a step whose failure is that of a step of its own
pub step_fails :
    {T : Type 0} (r : Result T Failure) (failure : Failure) (P Q : Answer → Type 0) → IsErrAnd r (λ e. e ≡ failure) → OfFailure failure P
    → ((answer : Answer) → P answer → Q answer) → IfAnswered r Q
step_fails {T} r failure P Q fails holds weaker =
    let is = err_from_is_err_and r fails in
    subst (λ (x : Result T Failure). IfAnswered x Q) (sym (is.1 ∙ ap Err is.2)) (of_failure failure P Q weaker holds)

-- a reply whose step fails
pub reply_fails :
    (r : Result Reply Failure) (failure : Failure) (P Q : Answer → Type 0) → IsErrAnd r (λ e. e ≡ failure) → OfFailure failure P
    → ((answer : Answer) → P answer → Q answer) → OnAnswer r Q
reply_fails r failure P Q fails holds weaker =
    let is = err_from_is_err_and r fails in
    subst (λ (x : Result Reply Failure). OnAnswer x Q) (sym (is.1 ∙ ap Err is.2)) (of_failure failure P Q weaker holds)

-- a step, or a reply, that is another's
pub step_weaker : {T : Type 0} (r : Result T Failure) (P Q : Answer → Type 0) → IfAnswered r P → ((answer : Answer) → P answer → Q answer) → IfAnswered r Q
step_weaker (Ok value) P Q holds weaker = tt
step_weaker (Err failure) P Q holds weaker = of_failure failure P Q weaker holds

pub reply_weaker : (r : Result Reply Failure) (P Q : Answer → Type 0) → OnAnswer r P → ((answer : Answer) → P answer → Q answer) → OnAnswer r Q
reply_weaker (Ok reply) P Q holds weaker = weaker (reply_answer reply) holds
reply_weaker (Err failure) P Q holds weaker = of_failure failure P Q weaker holds

-- a reply whose last step performs the rest of a protocol: what was read before tells of the shelf the same, and of the rest
pub reply_goes : (told here : Told) (whole rest own : Protocol) (before between after : Counts) (r : Result Reply Failure) → here ≡ told → own ≡ rest
    → ((answer : Answer) → Performed told rest between after answer → Performed told whole before after answer)
    → OnAnswer r (Performed here own between after) → OnAnswer r (Performed told whole before after)
reply_goes told here whole rest own before between after r same is goes performed =
    reply_weaker r (Performed here own between after) (Performed told whole before after) performed
    (λ answer ran. goes answer (subst (λ (p : Protocol). Performed told p between after answer) is
    (subst (λ (t : Told). Performed t own between after answer) same ran)))

-- what holds of the answer to a command holds of its reply
replied_holds : (outcome : Result Reply Failure) (P : Answer → Type 0) → OnAnswer outcome P → IfOk (replied outcome) (λ reply. P (reply_answer reply))
replied_holds (Ok reply) P holds = holds
replied_holds (Err (Answered reply)) P holds = holds
replied_holds (Err Memory) P holds = tt

pub replied_is : (outcome : Result Reply Failure) (result : Result Reply io.Memory) (P : Answer → Type 0) → result ≡ replied outcome → OnAnswer outcome P
    → IfOk result (λ reply. P (reply_answer reply))
replied_is outcome result P is holds =
    subst (λ (r : Result Reply io.Memory). IfOk r (λ reply. P (reply_answer reply))) (sym is) (replied_holds outcome P holds)
