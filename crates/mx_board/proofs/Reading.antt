-- An interrupt file read line by line.
use Rattle.std.proofs.Common.{◌≡◌, ℕ, ◌+◌, ◌<◌, ◌≤◌, Bool, true, false, ◌⊎◌, inl, inr, drop, List, [], ◌∷◌, ◌++◌, length, get_or, map, Option, Some, None, Result, Ok, Err, refl, sym, ◌∙◌, ap, cond, leb, arith, append_assoc}
use Rattle.std.proofs.lemmas.List.{append-nil}
use Rattle.std.specs.Option.{option_or, option_to_list}
use Rattle.std.specs.List.{cons_option, prefix_len}
use Rattle.std.specs.List.Sorted.{IsStrictlyIncreasing}
use Rattle.std.specs.Str.Lines.{strip_carriage_return}
use Rattle.std.proofs.lemmas.Bool.Decides.{nat_tests}
use Rattle.std.proofs.lemmas.List.Elements.{filter_map-append}
use Rattle.std.proofs.lemmas.Grind.{common_steps}
use Rattle.mx_board.specs.declared.requests.EventError.{EventError}
use Rattle.mx_board.specs.declared.requests.EventError.TheVariants.{TooMany, NotAscending}
use Rattle.mx_board.specs.RequestFile.{pieces, lines_of, number_of, numbers_of, may_follow, fault_of, fault_of_number, first_fault, unless_faulty, requests_of, is_blank, is_blank_line}

-- the fault if there is one, and else the rest
abbrev pub unless_fault : Option EventError → Result (List ℕ) EventError → Result (List ℕ) EventError
unless_fault None rest = rest
unless_fault (Some fault) rest = Err fault

-- what the lines from this one on give, after these numbers
abbrev pub outcome : List ℕ → ℕ → List (List ℕ) → Result (List ℕ) EventError
outcome numbers at [] = Ok numbers
outcome numbers at (line ∷ lines) = unless_fault (fault_of numbers at line) (outcome (numbers ++ option_to_list (number_of line)) (at + 1) lines)

-- what is left to be read gives what the whole file does
pub record Reading (bytes numbers : List ℕ) (at : ℕ) (text : List ℕ) : Type 0 where
  pub left : outcome numbers at (lines_of text) ≡ requests_of bytes
  pub ascending : IsStrictlyIncreasing numbers
  pub count : length numbers ≤ 65536
  pub lines : at + length text ≤ 1048577

added_one : (n : Option ℕ) (numbers : List ℕ) → numbers ++ cons_option n [] ≡ numbers ++ option_to_list n
added_one None numbers = refl
added_one (Some n) numbers = refl

-- the numbers of one more line
numbers_of-append_one : (before : List (List ℕ)) (line : List ℕ) → numbers_of (before ++ line ∷ []) ≡ numbers_of before ++ option_to_list (number_of line)
numbers_of-append_one before line = filter_map-append number_of before (line ∷ []) ∙ added_one (number_of line) (numbers_of before)

-- one line, where its fault is known
one_line : (fault : Option EventError) (first : Option EventError) (rest : Result (List ℕ) EventError) (numbers : List ℕ) → rest ≡ unless_faulty first numbers
    → unless_fault fault rest ≡ unless_faulty (option_or fault first) numbers
one_line None first rest numbers e = e
one_line (Some fault) first rest numbers e = refl

-- read line by line, after lines that have no fault, a file gives its numbers or its first fault
outcome_is : (before lines : List (List ℕ))
    → outcome (numbers_of before) (length before + 1) lines ≡ unless_faulty (first_fault before lines) (numbers_of (before ++ lines))
outcome_is before [] = ap (λ ls. Ok (numbers_of ls)) (sym (append-nil before))
outcome_is before (line ∷ lines) =
    let numbers : numbers_of before ++ option_to_list (number_of line) ≡ numbers_of (before ++ line ∷ []) = sym (numbers_of-append_one before line) in
    let count : length before + 1 + 1 ≡ length (before ++ line ∷ []) + 1 = grind (arith, common_steps) in
    let all : (before ++ line ∷ []) ++ lines ≡ before ++ line ∷ lines = append_assoc before (line ∷ []) lines in
    let next : outcome (numbers_of (before ++ line ∷ [])) (length (before ++ line ∷ []) + 1) lines
    ≡ unless_faulty (first_fault (before ++ line ∷ []) lines) (numbers_of ((before ++ line ∷ []) ++ lines)) = outcome_is (before ++ line ∷ []) lines in
    let rest : outcome (numbers_of before ++ option_to_list (number_of line)) (length before + 1 + 1) lines
    ≡ unless_faulty (first_fault (before ++ line ∷ []) lines) (numbers_of (before ++ line ∷ lines)) =
    rw (numbers, count) (next ∙ ap (λ ls. unless_faulty (first_fault (before ++ line ∷ []) lines) (numbers_of ls)) all) in
    one_line (fault_of (numbers_of before) (length before + 1) line) (first_fault (before ++ line ∷ []) lines)
    (outcome (numbers_of before ++ option_to_list (number_of line)) (length before + 1 + 1) lines) (numbers_of (before ++ line ∷ lines)) rest

-- before the first line
pub reading_begins : (bytes : List ℕ) → length bytes ≤ 1048576 → Reading bytes [] 1 bytes
reading_begins bytes small = record {
  left = outcome_is [] (lines_of bytes);
  ascending = λ k h. absurd (omega arith);
  count = omega arith;
  lines = omega arith;
}

-- numbers that rise still do with one more that may follow
follows : (numbers : List ℕ) (n : ℕ) → IsStrictlyIncreasing numbers → may_follow numbers n ≡ true → IsStrictlyIncreasing (numbers ++ n ∷ [])
follows numbers n rises may k within =
    let short : k + 1 < length numbers + 1 = grind (arith, common_steps) in
    let inside : k + 1 < length numbers → get_or numbers k 0 < get_or numbers (k + 1) 0 = rises k in
    let at_end : k + 1 ≡ length numbers → get_or numbers k 0 < n = λ e. grind (arith, nat_tests) in
    grind (arith, common_steps)

-- a number without a fault
clean_number : (numbers : List ℕ) (at n : ℕ) → fault_of_number numbers at (Some n) ≡ None → (length numbers < 65536) × (may_follow numbers n ≡ true)
clean_number numbers at n e =
    elim (leb 65536 (length numbers)) as (λ full. leb 65536 (length numbers) ≡ full
    → cond full (Some (TooMany at)) (cond (may_follow numbers n) None (Some (NotAscending at))) ≡ None
    → (length numbers < 65536) × (may_follow numbers n ≡ true)) [
      | true ↦ λ full e. absurd (cc)
      | false ↦ λ full. elim (may_follow numbers n) as (λ may. cond may None (Some (NotAscending at)) ≡ None → (length numbers < 65536) × (may ≡ true))
          [ true ↦ λ e. (grind (arith, nat_tests), refl) | false ↦ λ e. absurd (cc) ]
    ] refl e

-- a line of blanks alone has no number
blank_number : (line : List ℕ) → is_blank_line line ≡ true → number_of line ≡ None
blank_number line blank =
    let all : prefix_len is_blank line ≡ length line = grind (arith, nat_tests) in
    let nothing : drop (prefix_len is_blank line) line ≡ [] = grind (arith, common_steps) in
    rw nothing refl

-- the numbers rise, and are not too many, with that of one more line without a fault
kept_by : (numbers : List ℕ) (at : ℕ) (n : Option ℕ) → fault_of_number numbers at n ≡ None ⊎ (n ≡ None) → IsStrictlyIncreasing numbers → length numbers ≤ 65536
    → IsStrictlyIncreasing (numbers ++ option_to_list n) × (length (numbers ++ option_to_list n) ≤ 65536)
kept_by numbers at None clean rises count =
    let same : numbers ++ [] ≡ numbers = append-nil numbers in
    (rw same rises, rw same count)
kept_by numbers at (Some n) (inl clean) rises count =
    let may = clean_number numbers at n clean in
    (follows numbers n rises may.1, grind (arith, common_steps))
kept_by numbers at (Some n) (inr e) rises count = absurd (cc)

kept_by_line : (numbers : List ℕ) (at : ℕ) (line : List ℕ) (blank : Bool) → is_blank_line line ≡ blank → fault_of numbers at line ≡ None
    → fault_of_number numbers at (number_of line) ≡ None ⊎ (number_of line ≡ None)
kept_by_line numbers at line true blank clean = inr (blank_number line blank)
kept_by_line numbers at line false blank clean = inl (rw blank at clean)

kept : (numbers : List ℕ) (at : ℕ) (line new : List ℕ) → fault_of numbers at line ≡ None → new ≡ numbers ++ option_to_list (number_of line)
    → IsStrictlyIncreasing numbers → length numbers ≤ 65536 → IsStrictlyIncreasing new × (length new ≤ 65536)
kept numbers at line new clean added rises count =
    let both = kept_by numbers at (number_of line) (kept_by_line numbers at line (is_blank_line line) refl clean) rises count in
    (rw added both.0, rw added both.1)

-- what the lines from a line without a fault on give
past_line : (numbers : List ℕ) (at : ℕ) (line new : List ℕ) (lines : List (List ℕ)) → fault_of numbers at line ≡ None
    → new ≡ numbers ++ option_to_list (number_of line) → outcome numbers at (line ∷ lines) ≡ outcome new (at + 1) lines
past_line numbers at line new lines clean added = rw (clean, added) refl

-- after a line that is not the last
pub reading_goes_on : (bytes numbers : List ℕ) (at : ℕ) (text piece line rest new : List ℕ) → Reading bytes numbers at text → pieces text ≡ piece ∷ pieces rest
    → line ≡ strip_carriage_return piece → length rest < length text → fault_of numbers at line ≡ None → new ≡ numbers ++ option_to_list (number_of line)
    → Reading bytes new (at + 1) rest
reading_goes_on bytes numbers at text piece line rest new r first is shorter clean added =
    let both = kept numbers at line new clean added r.ascending r.count in
    let lines : lines_of text ≡ line ∷ lines_of rest = rw (first, is) refl in
    record {
      left = sym (past_line numbers at line new (lines_of rest) clean added) ∙ ap (λ ls. outcome numbers at ls) (sym lines) ∙ r.left;
      ascending = both.0;
      count = both.1;
      lines = omega (arith, r.lines);
    }

-- after the last line
pub reading_ends : (bytes numbers : List ℕ) (at : ℕ) (text piece line new : List ℕ) → Reading bytes numbers at text → pieces text ≡ piece ∷ []
    → line ≡ strip_carriage_return piece → fault_of numbers at line ≡ None → new ≡ numbers ++ option_to_list (number_of line) → requests_of bytes ≡ Ok new
reading_ends bytes numbers at text piece line new r first is clean added =
    let lines : lines_of text ≡ line ∷ [] = rw (first, is) refl in
    sym r.left ∙ ap (λ ls. outcome numbers at ls) lines ∙ past_line numbers at line new [] clean added

-- after a line without a fault the numbers are as they must be
pub reading_keeps : (bytes numbers : List ℕ) (at : ℕ) (text line new : List ℕ) → Reading bytes numbers at text → fault_of numbers at line ≡ None
    → new ≡ numbers ++ option_to_list (number_of line) → (length new ≤ 65536) × IsStrictlyIncreasing new
reading_keeps bytes numbers at text line new r clean added = let both = kept numbers at line new clean added r.ascending r.count in (both.1, both.0)

-- at a faulty line
pub reading_fails : (bytes numbers : List ℕ) (at : ℕ) (text piece line : List ℕ) (more : List (List ℕ)) (fault : EventError) → Reading bytes numbers at text
    → pieces text ≡ piece ∷ more → line ≡ strip_carriage_return piece → fault_of numbers at line ≡ Some fault → requests_of bytes ≡ Err fault
reading_fails bytes numbers at text piece line more fault r first is faulty =
    let lines : lines_of text ≡ line ∷ map strip_carriage_return more = rw (first, is) refl in
    sym r.left ∙ ap (λ ls. outcome numbers at ls) lines
    ∙ ap (λ f. unless_fault f (outcome (numbers ++ option_to_list (number_of line)) (at + 1) (map strip_carriage_return more))) faulty
