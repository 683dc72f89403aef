-- The log of a performed command: its reads are those that are asked for, and its answer is the answer by what they gave.
use Rattle.std.proofs.Common.{◌≡◌, ◌⊎◌, ⊎_elim, true, ℕ, ◌<◌, ◌++◌, inl, inr, List, [], ◌∷◌, length, Result, Ok, Err, Option, Some, None, refl, sym, ap, ◌∙◌, subst, append_assoc, append-nil}
use Rattle.std.specs.Prelude.{IsSomeAnd}
use Rattle.mx_io.specs.Reads.{Read, read_of}
use Rattle.mx_io.specs.Shelves.{Told, Counts}
use Rattle.mx_io.specs.declared.ShelfFault.{ShelfFault}
use Rattle.mx_io.specs.declared.ShelfFault.TheVariants.{Failed, TooLong, Memory}
use Rattle.cmd_answer.specs.declared.file.FileKind.{FileKind}
use Rattle.cmd_answer.specs.Files.{limit_of}
use Rattle.cmd_answer.specs.Answer.{Answer}
use Rattle.cmd_answer.specs.Protocol.{Protocol, Answers, Reads, resolved, answered, reading_of, Performed}
use Rattle.cmd_answer.specs.Logged.{answer_by, reading_by, GoesOn, AreAsked, AgreesAt, Agree}
use Rattle.cmd_answer.proofs.Protocols.{given_is, absent_is, long_is, CountedFault, rose_before, rose_after}

-- one read, and then others
and_then : (start between after : List Read) (read : Read) (rest : List Read)
    → between ≡ start ++ read ∷ [] → after ≡ between ++ rest → after ≡ start ++ read ∷ rest
and_then start between after read rest one more = more ∙ ap (λ l. l ++ rest) one ∙ append_assoc start (read ∷ []) rest

-- the reads of a performed command
pub ran : (shelf : Told) (p : Protocol) (before after : Counts) (given : Answer) → Performed shelf p before after given
    → (reads : List Read) × (after.log ≡ before.log ++ reads) × AreAsked p reads × (given ≡ answer_by p reads)
ran shelf (Answers answer) before after given (same, is) = ([], ap (λ c. c.log) same ∙ sym (append-nil before.log), refl, is)
ran shelf (Reads kind name next) before after given (between, read, inl (same, inl (is, logged, why))) =
    (read_of name (limit_of kind) (Err Failed) ∷ [], ap (λ c. c.log) same ∙ logged, (refl, refl, refl), is)
ran shelf (Reads kind name next) before after given (between, read, inl (same, inr (is, logged, why))) =
    (read_of name (limit_of kind) (Err TooLong) ∷ [], ap (λ c. c.log) same ∙ logged, (refl, refl, refl), is)
ran shelf (Reads kind name next) before after given (between, read, inr (bytes, found, more)) =
    let rest = ran shelf (next bytes) between after given more in (
      read_of name (limit_of kind) (Ok bytes) ∷ rest.0,
      and_then before.log between.log after.log (read_of name (limit_of kind) (Ok bytes)) rest.0 found.logged rest.1,
      (refl, refl, (found.within, rest.2)),
      rest.3,
    )

-- where the shelf tells what it holds, each read gave that, or a fault was counted
pub told_agrees : (shelf : Told) (p : Protocol) (before after : Counts) (given : Answer) → shelf.tells ≡ true
    → (performed : Performed shelf p before after given)
    → Agree shelf.held (ran shelf p before after given performed).0 ⊎ CountedFault before after given
unfolding ran
told_agrees shelf (Answers answer) before after given t (same, is) = inl tt
told_agrees shelf (Reads kind name next) before after given t (between, read, inl (same, inl (is, logged, inl rose))) =
    inr (kind, is, rose_after before.faults after.faults between.faults (ap (λ c. c.faults) same) rose)
told_agrees shelf (Reads kind name next) before after given t (between, read, inl (same, inl (is, logged, inr (tells, none)))) = inl (none, tt)
told_agrees shelf (Reads kind name next) before after given t (between, read, inl (same, inr (is, logged, long))) = inl (long.told t, tt)
told_agrees shelf (Reads kind name next) before after given t (between, read, inr (bytes, found, rest)) =
    ⊎_elim
    (λ agree. inl (found.exact t, agree))
    (λ fault. inr (fault.0, fault.1, rose_before before.faults between.faults after.faults read.faults fault.2))
    (told_agrees shelf (next bytes) between after given t rest)

module _ (held : List ℕ → Option (List ℕ)) where
  after_read : (kind : FileKind) (name : List ℕ) (next : List ℕ → Protocol) (n : List ℕ) (l : ℕ) (gave : Result (List ℕ) ShelfFault) (rest : List Read)
      → n ≡ name → l ≡ limit_of kind → GoesOn gave (limit_of kind) rest (λ bytes. AreAsked (next bytes) rest) → AgreesAt held n l gave
      → ((bytes : List ℕ) → AreAsked (next bytes) rest → answer_by (next bytes) rest ≡ resolved (next bytes) held)
      → answered kind (reading_by gave) (λ bytes. answer_by (next bytes) rest)
      ≡ answered kind (reading_of kind (held name)) (λ bytes. resolved (next bytes) held)
  after_read kind name next n l (Ok bytes) rest is most (within, more) at next_is =
      next_is bytes more ∙ sym (given_is kind (held name) bytes (λ b. resolved (next b) held) (subst (λ m. held m ≡ Some bytes) is at) within)
  after_read kind name next n l (Err Failed) rest is most ends at next_is =
      sym (absent_is kind (held name) (λ b. resolved (next b) held) (subst (λ m. held m ≡ None) is at))
  after_read kind name next n l (Err TooLong) rest is most ends at next_is =
      let long : IsSomeAnd (held name) (λ bytes. l < length bytes) = subst (λ m. IsSomeAnd (held m) (λ bytes. l < length bytes)) is at in
      sym (long_is kind (held name) (λ b. resolved (next b) held) (subst (λ m. IsSomeAnd (held name) (λ bytes. m < length bytes)) most long))
  after_read kind name next n l (Err Memory) rest is most ends at next_is = absurd ends

  -- where the names hold what the reads gave, the answer by what they gave is the answer by what is held
  pub agreed : (p : Protocol) (reads : List Read) → AreAsked p reads → Agree held reads → answer_by p reads ≡ resolved p held
  agreed (Answers answer) reads asked agree = refl
  agreed (Reads kind name next) [] asked agree = absurd asked
  agreed (Reads kind name next) (read ∷ rest) (is, most, goes) (at, agree) =
      after_read kind name next read.name read.limit read.gave rest is most goes at (λ bytes more. agreed (next bytes) rest more agree)
