-- What holds of a reply once it is finished.
use Rattle.std.proofs.Common.{◌≡◌, ◌≢◌, ◌⊎◌, ⊎_elim, inl, inr, sym, ap, ℕ, List, ◌∙◌, append-nil}
use Rattle.mx_io.specs.Shelves.{Told, Counts}
use Rattle.cmd_answer.specs.declared.status.Status.{Status}
use Rattle.cmd_answer.specs.declared.status.Status.TheVariants.{Done, ReadFault, WriteFault, Memory}
use Rattle.cmd_answer.specs.declared.reply.Reply.{Reply}
use Rattle.cmd_answer.specs.declared.reply.Reply.TheVariants.{Prints, Writes}
use Rattle.cmd_answer.specs.declared.FileKind.{FileKind}
use Rattle.cmd_answer.specs.Answer.{Answer}
use Rattle.cmd_answer.specs.Protocol.{IsFault}
use Rattle.cmd_answer.specs.Delivery.{Delivered, HasStatus}
use Rattle.cmd_answer.specs.Replies.{reply_answer}
use Rattle.cmd_answer.proofs.Commands.{status_cases}
use Rattle.cc_command.specs.Translated.{IsTranslated}

read_is_not_done : ReadFault ≡ Done → ⊥
read_is_not_done e = absurd (cc)

-- the fault of a file has a status of an answer
pub fault_has_status : (shelf : Told) (kind : FileKind) (name : List ℕ) (before after : Counts) (answer : Answer)
    → IsFault shelf kind name before after answer → HasStatus answer
fault_has_status shelf kind name before after answer (inl fault) = inr (ap (λ (a : Answer). a.status) fault.0)
fault_has_status shelf kind name before after answer (inr fault) = inr (ap (λ (a : Answer). a.status) fault.0)

-- the fault of a file is no translation
pub fault_untranslated : (shelf : Told) (kind : FileKind) (name : List ℕ) (before after : Counts) (answer : Answer)
    → IsFault shelf kind name before after answer → IsTranslated answer
fault_untranslated shelf kind name before after answer (inl fault) = λ done. absurd (read_is_not_done (sym (ap (λ (a : Answer). a.status) fault.0) ∙ done))
fault_untranslated shelf kind name before after answer (inr fault) = λ done. absurd (read_is_not_done (sym (ap (λ (a : Answer). a.status) fault.0) ∙ done))

-- unless it ends as done, a reply wrote no file
pub unwritten : (reply : Reply) (result : Status) (told told' : Told) (written written' : List ℕ)
    → (result ≢ WriteFault → result ≢ Memory → Delivered (reply_answer reply) result told told' written written')
    → ((result ≡ WriteFault) ⊎ (result ≡ Memory) → told'.wrote ≡ told.wrote)
    → result ≢ Done → told'.wrote ≡ told.wrote
unwritten (Prints status output) result told told' written written' delivered unwrote other =
    ⊎_elim unwrote (λ n. (delivered n.0 n.1).wrote ∙ append-nil told.wrote) (status_cases result)
unwritten (Writes name bytes) result told told' written written' delivered unwrote other =
    ⊎_elim unwrote (λ n. absurd (other (delivered n.0 n.1).status)) (status_cases result)
