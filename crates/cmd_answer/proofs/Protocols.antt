-- What a performed protocol says of its answer.
use Rattle.std.proofs.Common.{◌≡◌, ℕ, ◌≤◌, ◌<◌, ◌⊎◌, inl, inr, ⊎_elim, List, length, true, false, Option, Some, None, refl, sym, ap, ◌∙◌, subst, arith}
use Rattle.std.specs.Prelude.{IsSomeAnd, is_some, nat_lt}
use Rattle.std.proofs.lemmas.Bool.Decides.{nat_tests}
use Rattle.mx_io.specs.Counts.{Rose}
use Rattle.cmd_answer.specs.declared.file.FileKind.{FileKind}
use Rattle.cmd_answer.specs.declared.status.Status.TheVariants.{ReadFault, Done}
use Rattle.cmd_answer.specs.Files.{limit_of}
use Rattle.cmd_answer.specs.Answer.{Answer, failed_answer, too_long_answer, is_own}
use Rattle.mx_io.specs.Shelves.{Told, Counts, IsRead}
use Rattle.cmd_answer.specs.Protocol.{Protocol, Answers, Reads, reading_of, answered, resolved, IsFault, Performed, Faulted, HasOwnAnswers, OnlyPrints}

pub rose_before : (x y z : ℕ) → x ≤ y → Rose y z → Rose x z
rose_before x y z h (inl r) = inl (omega arith)
rose_before x y z h (inr r) = inr r

pub rose_after : (x y z : ℕ) → y ≡ z → Rose x z → Rose x y
rose_after x y z e r = subst (Rose x) (sym e) r

-- a file that is within its limit gives its bytes
pub given_is : (kind : FileKind) (h : Option (List ℕ)) (bytes : List ℕ) (next : List ℕ → Answer) → h ≡ Some bytes → length bytes ≤ limit_of kind
    → answered kind (reading_of kind h) next ≡ next bytes
given_is kind h bytes next e within =
    let test : nat_lt (limit_of kind) (length bytes) ≡ false = grind (arith, nat_tests) in
    ap (λ (x : Option (List ℕ)). answered kind (reading_of kind x) next) e ∙ rw test refl

pub absent_is : (kind : FileKind) (h : Option (List ℕ)) (next : List ℕ → Answer) → h ≡ None → answered kind (reading_of kind h) next ≡ failed_answer kind
absent_is kind h next e = ap (λ (x : Option (List ℕ)). answered kind (reading_of kind x) next) e

pub long_is : (kind : FileKind) (h : Option (List ℕ)) (next : List ℕ → Answer) → IsSomeAnd h (λ bytes. limit_of kind < length bytes)
    → answered kind (reading_of kind h) next ≡ too_long_answer kind
long_is kind None next over = absurd over
long_is kind (Some bytes) next over =
    let test : nat_lt (limit_of kind) (length bytes) ≡ true = grind (arith, nat_tests) in
    rw test refl

-- a fault that was counted
abbrev pub CountedFault : Counts → Counts → Answer → Type 0
CountedFault before after given = (kind : FileKind) × (given ≡ failed_answer kind) × Rose before.faults after.faults

-- where the shelf tells what it holds, the answer is that of what it holds, or a fault was counted
pub told_answer : (shelf : Told) (p : Protocol) (before after : Counts) (given : Answer) → shelf.tells ≡ true → Performed shelf p before after given
    → (given ≡ resolved p shelf.held) ⊎ CountedFault before after given
told_answer shelf (Answers answer) before after given t (same, is) = inl is
told_answer shelf (Reads kind name next) before after given t (between, read, inl (same, inl (is, logged, inl rose))) =
    inr (kind, is, rose_after before.faults after.faults between.faults (ap (λ c. c.faults) same) rose)
told_answer shelf (Reads kind name next) before after given t (between, read, inl (same, inl (is, logged, inr (tells, none)))) =
    inl (is ∙ sym (absent_is kind (shelf.held name) (λ bytes. resolved (next bytes) shelf.held) none))
told_answer shelf (Reads kind name next) before after given t (between, read, inl (same, inr (is, logged, long))) =
    inl (is ∙ sym (long_is kind (shelf.held name) (λ bytes. resolved (next bytes) shelf.held) (long.told t)))
told_answer shelf (Reads kind name next) before after given t (between, read, inr (bytes, found, rest)) =
    ⊎_elim
    (λ is. inl (is ∙ sym (given_is kind (shelf.held name) bytes (λ b. resolved (next b) shelf.held) (found.exact t) found.within)))
    (λ fault. inr (fault.0, fault.1, rose_before before.faults between.faults after.faults read.faults fault.2))
    (told_answer shelf (next bytes) between after given t rest)

-- an answer that is a read fault is the fault of a file
pub fault_of_file : (shelf : Told) (p : Protocol) (before after : Counts) (given : Answer) → HasOwnAnswers p → Performed shelf p before after given
    → given.status ≡ ReadFault → Faulted shelf p before after given
fault_of_file shelf (Answers answer) before after given own (same, is) fault =
    let bad : true ≡ false = sym own.status ∙ ap (λ a. is_own a.status) (sym is) ∙ ap is_own fault in absurd (cc)
fault_of_file shelf (Reads kind name next) before after given own (between, read, inl (same, faulty)) fault =
    inl (subst (IsRead before) (sym same) read, subst (λ c. IsFault shelf kind name before c given) (sym same) faulty)
fault_of_file shelf (Reads kind name next) before after given own (between, read, inr (bytes, found, rest)) fault =
    inr (between, read, bytes, found, fault_of_file shelf (next bytes) between after given (own bytes) rest fault)

-- the answer to a fault of a file is no want of memory and no fault of writing
fault_status : (shelf : Told) (kind : FileKind) (name : List ℕ) (before after : Counts) (given : Answer) → IsFault shelf kind name before after given
    → given.status ≡ ReadFault
fault_status shelf kind name before after given (inl (is, logged, why)) = ap (λ a. a.status) is
fault_status shelf kind name before after given (inr (is, logged, why)) = ap (λ a. a.status) is

-- an answer has a status of its own, or is a read fault
pub status_is : (shelf : Told) (p : Protocol) (before after : Counts) (given : Answer) → HasOwnAnswers p → Performed shelf p before after given
    → (is_own given.status ≡ true) ⊎ (given.status ≡ ReadFault)
status_is shelf (Answers answer) before after given own (same, is) = inl (ap (λ a. is_own a.status) is ∙ own.status)
status_is shelf (Reads kind name next) before after given own (between, read, inl (same, faulty)) =
    inr (fault_status shelf kind name before between given faulty)
status_is shelf (Reads kind name next) before after given own (between, read, inr (bytes, found, rest)) =
    status_is shelf (next bytes) between after given (own bytes) rest

-- only an answer that is done writes a file
pub file_is_done : (shelf : Told) (p : Protocol) (before after : Counts) (given : Answer) → HasOwnAnswers p → Performed shelf p before after given
    → is_some given.file ≡ true → given.status ≡ Done
file_is_done shelf (Answers answer) before after given own (same, is) file = ap (λ a. a.status) is ∙ own.done (ap (λ a. is_some a.file) (sym is) ∙ file)
file_is_done shelf (Reads kind name next) before after given own (between, read, inl (same, inl (is, logged, why))) file =
    let bad : true ≡ false = sym file ∙ ap (λ a. is_some a.file) is in absurd (cc)
file_is_done shelf (Reads kind name next) before after given own (between, read, inl (same, inr (is, logged, why))) file =
    let bad : true ≡ false = sym file ∙ ap (λ a. is_some a.file) is in absurd (cc)
file_is_done shelf (Reads kind name next) before after given own (between, read, inr (bytes, found, rest)) file =
    file_is_done shelf (next bytes) between after given (own bytes) rest file

-- a command that only prints answers with no file
pub no_file : (shelf : Told) (p : Protocol) (before after : Counts) (given : Answer) → OnlyPrints p → Performed shelf p before after given → given.file ≡ None
no_file shelf (Answers answer) before after given prints (same, is) = ap (λ a. a.file) is ∙ prints
no_file shelf (Reads kind name next) before after given prints (between, read, inl (same, inl (is, logged, why))) = ap (λ a. a.file) is
no_file shelf (Reads kind name next) before after given prints (between, read, inl (same, inr (is, logged, why))) = ap (λ a. a.file) is
no_file shelf (Reads kind name next) before after given prints (between, read, inr (bytes, found, rest)) =
    no_file shelf (next bytes) between after given (prints bytes) rest
