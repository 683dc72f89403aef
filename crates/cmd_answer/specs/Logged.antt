-- What the log of its reads makes of a command.
use Rattle.std.specs.Prelude.{◌≡◌, ℕ, ◌<◌, ◌≤◌, List, [], ◌∷◌, length, Result, Ok, Err, Option, Some, None, IsSomeAnd}
use Rattle.mx_io.specs.Reads.{Read}
use Rattle.mx_io.specs.declared.ShelfFault.{ShelfFault}
use Rattle.mx_io.specs.declared.ShelfFault.TheVariants.{Failed, TooLong, Memory}
use Rattle.cmd_answer.specs.Files.{limit_of}
use Rattle.cmd_answer.specs.Answer.{Answer, failed_answer}
use Rattle.cmd_answer.specs.Protocol as protocol
use Rattle.cmd_answer.specs.Protocol.{Protocol, Answers, Reads, Reading, Given, answered}

-- the reading of a file, by what the read of it gave
abbrev pub reading_by : Result (List ℕ) ShelfFault → Reading
reading_by (Ok bytes) = Given bytes
reading_by (Err TooLong) = protocol.TooLong
reading_by (Err _) = protocol.Failed

-- THE ANSWER, by what each read gave, one after the other
abbrev pub answer_by : Protocol → List Read → Answer
answer_by (Answers answer) reads = answer
answer_by (Reads kind name next) [] = failed_answer kind
answer_by (Reads kind name next) (read ∷ rest) = answered kind (reading_by read.gave) (λ bytes. answer_by (next bytes) rest)

-- after a read that gave bytes within the limit more may be read by them, and after a refusal nothing is; at a want of memory there
-- is no answer
abbrev pub GoesOn : Result (List ℕ) ShelfFault → ℕ → List Read → (List ℕ → Type 0) → Type 0
GoesOn (Ok bytes) limit rest more = (length bytes ≤ limit) × more bytes
GoesOn (Err Failed) limit rest more = rest ≡ []
GoesOn (Err TooLong) limit rest more = rest ≡ []
GoesOn (Err Memory) limit rest more = ⊥

-- the reads are just those that the protocol asks for, one after the other: none is left out, made twice or made of another name
abbrev pub AreAsked : Protocol → List Read → Type 0
AreAsked (Answers answer) reads = reads ≡ []
AreAsked (Reads kind name next) [] = ⊥
AreAsked (Reads kind name next) (read ∷ rest) =
    (read.name ≡ name) × (read.limit ≡ limit_of kind) × GoesOn read.gave (limit_of kind) rest (λ bytes. AreAsked (next bytes) rest)

-- what a read gave is what the name holds: all its bytes, or more than the limit, or it was refused and the name holds nothing
abbrev pub AgreesAt : (List ℕ → Option (List ℕ)) → List ℕ → ℕ → Result (List ℕ) ShelfFault → Type 0
AgreesAt held name limit (Ok bytes) = held name ≡ Some bytes
AgreesAt held name limit (Err Failed) = held name ≡ None
AgreesAt held name limit (Err TooLong) = IsSomeAnd (held name) (λ bytes. limit < length bytes)
AgreesAt held name limit (Err Memory) = Unit {0}

-- each read gave what its name holds
abbrev pub Agree : (List ℕ → Option (List ℕ)) → List Read → Type 0
Agree held [] = Unit {0}
Agree held (read ∷ rest) = AgreesAt held read.name read.limit read.gave × Agree held rest
