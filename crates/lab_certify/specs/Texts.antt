-- What the text of a certificate says: the hash of a source, and for each block its address, its copies and its plan.
use Rattle.std.specs.Prelude.{◌≡◌, ℕ, ◌+◌, ◌-◌, ◌*◌, Bool, true, false, cond, eqb, ltb, leb, ◌&&◌, ◌||◌, List, [], ◌∷◌, ◌++◌, length, take, drop, codes, Option, Some, None, Result, Ok, Err}
use Rattle.std.specs.Char.{is_ascii_digit}
use Rattle.std.specs.List.{list_all}
use Rattle.std.specs.Str.{bytes_eq}
use Rattle.mx_plans.specs.declared.Mark.{Mark}
use Rattle.mx_plans.specs.declared.PlanFault.{PlanFault}
use Rattle.mx_plans.specs.declared.PlanFault.TheVariants.{BadWord, TwoCounts, NoBlock}
use Rattle.mx_plans.specs.declared.PlanFault.TheVariants as plan
use Rattle.mx_plans.specs.Files.{lines_in, pieces_in, marks_after, marks_of_lines}
use Rattle.lab_certify.specs.declared.certificate.Head.{Head}
use Rattle.lab_certify.specs.declared.certificate.Certificate.{Certificate}
use Rattle.lab_certify.specs.declared.fault.CertificateFault.{CertificateFault}
use Rattle.lab_certify.specs.declared.fault.CertificateFault.TheVariants.{BadHeader, BadHash, BadLine, BadAddress, BadCopies, BadItem, TooLong, TwoPlaces, NoPlan}
use Rattle.lab_certify.specs.declared.fault.CertificateError.{CertificateError}
use Rattle.lab_certify.specs.declared.fault.CertificateError.TheVariants.{Refused, Memory}

-- the items of a line: its pieces that have bytes
abbrev pub words_of : List (List ℕ) → List (List ℕ)
words_of [] = []
words_of ([] ∷ pieces) = words_of pieces
words_of ((c ∷ word) ∷ pieces) = (c ∷ word) ∷ words_of pieces

abbrev pub words_in : List ℕ → List (List ℕ)
words_in line = words_of (pieces_in line)

-- the number that digits write after those of n, where it is at most 65535
abbrev pub number_after : ℕ → List ℕ → Option ℕ
number_after n [] = cond (leb n 65535) (Some n) None
number_after n (c ∷ digits) = cond (is_ascii_digit c && leb n 6553) (number_after (n * 10 + (c - 48)) digits) None

-- the address that one to five digits write
abbrev pub address_of : List ℕ → Option ℕ
address_of word = cond (ltb 0 (length word) && leb (length word) 5) (number_after 0 word) None

-- how many copies, and whether the branch squashes
abbrev pub copies_said : List ℕ → Option (ℕ × Bool)
copies_said word =
    cond (bytes_eq word (codes "0")) (Some (0, false))
    (cond (bytes_eq word (codes "1")) (Some (1, false))
    (cond (bytes_eq word (codes "2")) (Some (2, false))
    (cond (bytes_eq word (codes "1s")) (Some (1, true))
    (cond (bytes_eq word (codes "2s")) (Some (2, true)) None))))

-- the fault of a line whose plan has this fault
abbrev pub plan_fault : PlanFault → CertificateFault
plan_fault BadWord = BadItem
plan_fault plan.TooLong = TooLong
plan_fault plan.TwoPlaces = TwoPlaces
plan_fault TwoCounts = BadItem
plan_fault NoBlock = BadLine

-- what the line of a block says
pub record BlockSaid : Type 0 where
  pub head : Head
  pub marks : List Mark

abbrev pub with_marks : ℕ → ℕ × Bool → Result (List Mark) PlanFault → Result (Option BlockSaid) CertificateFault
with_marks address copies (Err fault) = Err (plan_fault fault)
with_marks address copies (Ok []) = Err NoPlan
with_marks address copies (Ok (mark ∷ marks)) = Ok (Some (record {
  head = record { address = address; copies = copies.0; squashes = copies.1 };
  marks = mark ∷ marks;
}))

abbrev pub with_copies : ℕ → Option (ℕ × Bool) → List (List ℕ) → Result (Option BlockSaid) CertificateFault
with_copies address None words = Err BadCopies
with_copies address (Some copies) words = with_marks address copies (marks_after [] words)

abbrev pub after_address : ℕ → List (List ℕ) → Result (Option BlockSaid) CertificateFault
after_address address [] = Err BadCopies
after_address address (word ∷ words) = with_copies address (copies_said word) words

abbrev pub with_address : Option ℕ → List (List ℕ) → Result (Option BlockSaid) CertificateFault
with_address None words = Err BadAddress
with_address (Some address) words = after_address address words

abbrev pub after_block : List (List ℕ) → Result (Option BlockSaid) CertificateFault
after_block [] = Err BadAddress
after_block (word ∷ words) = with_address (address_of word) words

-- what the items of a line say of a block, or its first fault; a line without items says nothing
abbrev pub block_said : List (List ℕ) → Result (Option BlockSaid) CertificateFault
block_said [] = Ok None
block_said (word ∷ words) = cond (bytes_eq word (codes "block")) (after_block words) (Err BadLine)

-- what a certificate says
pub record Claims : Type 0 where
  -- the hexadecimal digits of the source's hash
  pub hash : List ℕ
  -- of each block, besides its plan
  pub heads : List Head
  -- the items of each block's plan
  pub plans : List (List Mark)

abbrev pub claims_of : Certificate → Claims
claims_of c = record { hash = c.hash.items; heads = c.heads.items; plans = marks_of_lines c.plans.items }

abbrev pub Read : Type 0
Read = Result Claims (ℕ × CertificateFault)

abbrev pub added : Claims → Option BlockSaid → Claims
added claims None = claims
added claims (Some said) = record { hash = claims.hash; heads = claims.heads ++ said.head ∷ []; plans = claims.plans ++ said.marks ∷ [] }

-- a line of this number, and what follows; or the fault of the line
abbrev pub on_line : ℕ → Claims → Result (Option BlockSaid) CertificateFault → (Claims → Read) → Read
on_line number claims (Ok said) next = next (added claims said)
on_line number claims (Err fault) next = Err (number, fault)

-- the lines of blocks, the first of them of this number, after others
abbrev pub claims_after : ℕ → Claims → List (List ℕ) → Read
claims_after number claims [] = Ok claims
claims_after number claims (line ∷ lines) =
    on_line number claims (block_said (words_in line)) (λ more. claims_after (number + 1) more lines)

-- the lines after one, if any follow
abbrev pub rest_lines : Option (List ℕ) → List (List ℕ)
rest_lines None = []
rest_lines (Some text) = lines_in text

-- 0 to 9 and a to f
abbrev pub is_hex : ℕ → Bool
is_hex c = is_ascii_digit c || (leb 97 c && leb c 102)

-- the 64 digits of the second line
abbrev pub hash_in : List ℕ → Option (List ℕ)
hash_in line =
    cond (eqb (length line) 71 && (bytes_eq (take 7 line) (codes "source ") && list_all is_hex (drop 7 line))) (Some (drop 7 line)) None

abbrev pub with_hash : Option (List ℕ) → List (List ℕ) → Read
with_hash None lines = Err (2, BadHash)
with_hash (Some hash) lines = claims_after 3 (record { hash = hash; heads = []; plans = [] }) lines

abbrev pub after_header : List (List ℕ) → Read
after_header [] = Err (2, BadHash)
after_header (line ∷ lines) = with_hash (hash_in line) lines

abbrev pub claims_in_lines : List (List ℕ) → Read
claims_in_lines [] = Err (1, BadHeader)
claims_in_lines (line ∷ lines) = cond (bytes_eq line (codes "zanderanvil certificate 1")) (after_header lines) (Err (1, BadHeader))

-- what the text of a certificate says, or its first faulty line, which counts from 1, with its first fault
abbrev pub claims_in : List ℕ → Read
claims_in text = claims_in_lines (lines_in text)

-- a text is refused by its first faulty line alone; memory may be wanting
abbrev pub IsRefused : Read → CertificateError → Type 0
IsRefused read (Refused line fault) = read ≡ Err (line, fault)
IsRefused read Memory = Unit {0}
