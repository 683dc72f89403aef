-- A command whose reply was performed and finished.
use Rattle.std.proofs.Common.{◌≡◌, ◌≢◌, ℕ, ◌⊎◌, List, true, inl, inr, ⊎_elim, sym, ◌∙◌, ap, subst}
use Rattle.cmd_answer.specs.declared.Status.{Status}
use Rattle.cmd_answer.specs.declared.Status.TheVariants.{WriteFault, Memory}
use Rattle.cmd_answer.specs.Answer.{Answer}
use Rattle.mx_io.specs.Shelves.{Told, Counts}
use Rattle.cmd_answer.specs.Protocol.{Protocol, resolved, Performed, HasOwnAnswers}
use Rattle.cmd_answer.specs.Delivery.{Delivered, PutsPrefix, FailsToWrite}
use Rattle.cmd_answer.specs.Commands.{Outside, Commanded}
use Rattle.cmd_answer.proofs.Commands.{commanded, status_cases}
use Rattle.mx_command.specs.Headline.{AreQuiet, IsNoFault}

module _ (p : Protocol) (answer : Answer) (result : Status) (before between after : Outside) where
  pub ended : HasOwnAnswers p
      → Performed before.told p before.counts between.counts answer
      → between.told ≡ before.told
      → between.write_faults ≡ before.write_faults
      → after.counts ≡ between.counts
      → (result ≢ WriteFault → result ≢ Memory → Delivered answer result between.told after.told before.written after.written)
      → (result ≡ WriteFault → FailsToWrite answer before.sink_faults after.sink_faults between.write_faults after.write_faults)
      → (result ≡ WriteFault → PutsPrefix answer before.written after.written)
      → (result ≡ Memory → after.written ≡ before.written)
      → ((result ≡ WriteFault) ⊎ (result ≡ Memory) → after.told.wrote ≡ between.told.wrote)
      → ((result ≡ WriteFault) ⊎ (result ≡ Memory) → between.told.tells ≡ true → (n : List ℕ) → after.told.held n ≡ between.told.held n)
      → Commanded p before after result
  ended own performed same_told same_writes same_counts delivered write_fault put_out memory unwrote kept =
      commanded p before after answer result own
      (subst (λ (c : Counts). Performed before.told p before.counts c answer) (sym same_counts) performed)
      (record {
        delivered = λ w m. subst (λ (t : Told). Delivered answer result t after.told before.written after.written) same_told (delivered w m);
        write_fault = λ w. subst (λ n. FailsToWrite answer before.sink_faults after.sink_faults n after.write_faults) same_writes (write_fault w);
        put_out = put_out;
        memory = memory;
        unwrote = λ f. unwrote f ∙ ap (λ (x : Told). x.wrote) same_told;
        kept = λ f t n. kept f (ap (λ (x : Told). x.tells) same_told ∙ t) n ∙ ap (λ (x : Told). x.held n) same_told;
      })

-- what follows from the answer where it is that of what is held, of a command that no fault disturbed
pub promised : (p : Protocol) (before after : Outside) (result : Status) (P : Type 0) → Commanded p before after result
    → (Delivered (resolved p before.told.held) result before.told after.told before.written after.written → P)
    → before.told.tells ≡ true
    → AreQuiet before.counts after.counts before.write_faults after.write_faults before.sink_faults after.sink_faults ⊎ IsNoFault result
    → (result ≡ Memory) ⊎ P
promised p before after result P whole follows tells undisturbed =
    ⊎_elim
    (λ quiet. ⊎_elim inl (λ d. inr (follows d)) (whole.complete tells quiet.reading quiet.writing quiet.putting))
    (λ calm. ⊎_elim
    (λ fault. ⊎_elim (λ w. absurd (calm.no_write_fault w)) inl fault)
    (λ other. inr (follows (whole.sound tells calm.no_read_fault other.0 other.1)))
    (status_cases result))
    undisturbed
