-- A protocol that was performed and finished is a command that did what its protocol says.
use Rattle.std.proofs.Common.{◌≡◌, ◌≢◌, ◌++◌, [], append-nil, ℕ, ◌⊎◌, inl, inr, ⊎_elim, List, Bool, true, false, Option, Some, None, refl, sym, ap, ◌∙◌, subst}
use Rattle.std.specs.Prelude.{is_some}
use Rattle.mx_io.specs.Counts.{Rose}
use Rattle.cmd_answer.specs.declared.file.FileKind.{FileKind}
use Rattle.cmd_answer.specs.declared.status.Status.{Status}
use Rattle.cmd_answer.specs.declared.status.Status.TheVariants.{Done, ReadFault, WriteFault, Memory}
use Rattle.cmd_answer.specs.Answer.{Answer, failed_answer, held_with, files_of, Written}
use Rattle.mx_io.specs.Reads.{Read}
use Rattle.cmd_answer.specs.Protocol.{Protocol, resolved, Performed, Faulted, HasOwnAnswers}
use Rattle.cmd_answer.specs.Delivery.{Delivered, PutsPrefix}
use Rattle.cmd_answer.specs.Logged.{answer_by, Agree}
use Rattle.cmd_answer.specs.Commands.{Outside, Finished, Made, Commanded}
use Rattle.cmd_answer.proofs.Protocols.{told_answer, fault_of_file, CountedFault, file_is_done}
use Rattle.cmd_answer.proofs.Logged.{ran, agreed}

-- a status is a write fault, or want of memory, or neither
abbrev pub Neither : Status → Type 0
Neither s = (s ≢ WriteFault) × (s ≢ Memory)

is_write_fault : Status → Bool
is_write_fault WriteFault = true
is_write_fault _ = false

is_memory : Status → Bool
is_memory Memory = true
is_memory _ = false

differs : (f : Status → Bool) (s t : Status) → f s ≡ false → f t ≡ true → s ≢ t
differs f s t p q = λ e. let bad : false ≡ true = sym p ∙ ap f e ∙ q in absurd (cc)

neither : (s : Status) → is_write_fault s ≡ false → is_memory s ≡ false → Neither s
unfolding is_write_fault is_memory
neither s p q = (differs is_write_fault s WriteFault p refl, differs is_memory s Memory q refl)

pub status_cases : (s : Status) → ((s ≡ WriteFault) ⊎ (s ≡ Memory)) ⊎ Neither s
unfolding is_write_fault is_memory
status_cases WriteFault = inl (inl refl)
status_cases Memory = inl (inr refl)
status_cases s = inr (neither s refl refl)

-- the answer that was put out, where it is that of what is held
given_answer : (answer other : Answer) (before after : Outside) (result : Status) → answer ≡ other
    → Delivered answer result before.told after.told before.written after.written
    → Delivered other result before.told after.told before.written after.written
given_answer answer other before after result e d = subst (λ a. Delivered a result before.told after.told before.written after.written) e d

unfiled : (file : Option Written) (held : List ℕ → Option (List ℕ)) (n : List ℕ) → is_some file ≢ true → held_with file held n ≡ held n
unfiled None held n empty = refl
unfiled (Some file) held n empty = absurd (empty refl)

no_files : (file : Option Written) → is_some file ≢ true → files_of file ≡ []
no_files None empty = refl
no_files (Some file) empty = absurd (empty refl)

module _ (p : Protocol) (before after : Outside) (answer : Answer) (result : Status)
    (own : HasOwnAnswers p) (performed : Performed before.told p before.counts after.counts answer)
    (finished : Finished answer before after result) where
  told : before.told.tells ≡ true → (answer ≡ resolved p before.told.held) ⊎ CountedFault before.counts after.counts answer
  told t = told_answer before.told p before.counts after.counts answer t performed

  delivered : Neither result → Delivered answer result before.told after.told before.written after.written
  delivered n = finished.delivered n.0 n.1

  exact : Neither result
      → (reads : List Read) × Made p before.counts after.counts reads × Delivered (answer_by p reads) result before.told after.told before.written after.written
  exact n =
      let made = ran before.told p before.counts after.counts answer performed in (
        made.0,
        record { logged = made.1; asked = made.2 },
        given_answer answer (answer_by p made.0) before after result made.3 (delivered n),
      )

  exact_held : Neither result
      → (reads : List Read) × (after.counts.log ≡ before.counts.log ++ reads)
      × ((held : List ℕ → Option (List ℕ)) → Agree held reads
      → Delivered (resolved p held) result before.told after.told before.written after.written)
  exact_held n =
      let is = exact n in (
        is.0,
        is.1.logged,
        λ held agree. given_answer (answer_by p is.0) (resolved p held) before after result (agreed held p is.0 is.1.asked agree) is.2,
      )

  exact_prefix : result ≡ WriteFault
      → (reads : List Read) × Made p before.counts after.counts reads × PutsPrefix (answer_by p reads) before.written after.written
  exact_prefix w =
      let made = ran before.told p before.counts after.counts answer performed in (
        made.0,
        record { logged = made.1; asked = made.2 },
        subst (λ a. PutsPrefix a before.written after.written) made.3 (finished.put_out w),
      )

  unwrote : result ≢ Done → after.told.wrote ≡ before.told.wrote
  unwrote not_done =
      ⊎_elim
      (λ fault. finished.unwrote fault)
      (λ other. let d = delivered other in
      let done = file_is_done before.told p before.counts after.counts answer own performed in
      d.wrote ∙ ap (λ f. before.told.wrote ++ f) (no_files answer.file (λ file. not_done (d.status ∙ done file))) ∙ append-nil before.told.wrote)
      (status_cases result)

  complete : before.told.tells ≡ true
      → ¬ Rose before.counts.faults after.counts.faults → ¬ Rose before.write_faults after.write_faults → ¬ Rose before.sink_faults after.sink_faults
      → (result ≡ Memory) ⊎ Delivered (resolved p before.told.held) result before.told after.told before.written after.written
  complete t reads writes puts =
      ⊎_elim
      (λ fault. ⊎_elim
      (λ e. absurd (⊎_elim puts (λ w. writes w.1) (finished.write_fault e)))
      inl
      fault)
      (λ n. inr (given_answer answer (resolved p before.told.held) before after result (⊎_elim (λ e. e) (λ c. absurd (reads c.2)) (told t)) (delivered n)))
      (status_cases result)

  sound : before.told.tells ≡ true → result ≢ ReadFault → result ≢ WriteFault → result ≢ Memory
      → Delivered (resolved p before.told.held) result before.told after.told before.written after.written
  sound t r w m =
      let d = delivered (w, m) in
      given_answer answer (resolved p before.told.held) before after result
      (⊎_elim (λ e. e) (λ c. absurd (r (d.status ∙ ap (λ a. a.status) c.1))) (told t))
      d

  read_fault : result ≡ ReadFault
      → (given : Answer) × Faulted before.told p before.counts after.counts given × (after.written ≡ before.written ++ given.output)
  unfolding is_write_fault is_memory
  read_fault r =
      let d = delivered (neither result (ap is_write_fault r) (ap is_memory r)) in
      (answer, fault_of_file before.told p before.counts after.counts answer own performed (sym d.status ∙ r), d.output)

  put_out : result ≡ WriteFault → before.told.tells ≡ true → PutsPrefix (resolved p before.told.held) before.written after.written
      ⊎ (Rose before.counts.faults after.counts.faults × (kind : FileKind) × PutsPrefix (failed_answer kind) before.written after.written)
  put_out w t =
      let out = finished.put_out w in
      ⊎_elim
      (λ e. inl (subst (λ a. PutsPrefix a before.written after.written) e out))
      (λ c. inr (c.2, c.0, subst (λ a. PutsPrefix a before.written after.written) c.1 out))
      (told t)

  kept : before.told.tells ≡ true → result ≢ Done → (n : List ℕ) → after.told.held n ≡ before.told.held n
  kept t not_done n =
      ⊎_elim
      (λ fault. finished.kept fault t n)
      (λ other. let d = delivered other in
      let done = file_is_done before.told p before.counts after.counts answer own performed in
      d.file t n ∙ unfiled answer.file before.told.held n (λ file. not_done (d.status ∙ done file)))
      (status_cases result)

  pub commanded : Commanded p before after result
  commanded = record {
    exact = λ w m. exact (w, m);
    exact_held = λ w m. exact_held (w, m);
    exact_prefix = exact_prefix;
    unwrote = unwrote;
    complete = complete;
    sound = sound;
    read_fault = read_fault;
    write_fault = λ w. ⊎_elim inl (λ f. inr f.1) (finished.write_fault w);
    put_out = put_out;
    memory = finished.memory;
    kept = kept;
  }
