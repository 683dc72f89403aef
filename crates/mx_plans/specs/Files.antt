-- What a plan file says: one line a block, in the order of the blocks.
use Rattle.std.specs.Prelude.{◌≡◌, ℕ, ◌+◌, Bool, true, false, cond, ltb, leb, ◌==◌, ◌||◌, ◌&&◌, List, [], ◌∷◌, ◌++◌, length, map, Option, Some, None, Result, Ok, Err}
use Rattle.std.specs.List.{slice_split, list_any}
use Rattle.mx_plans.specs.declared.file.TheConstants.{MOST_ITEMS}
use Rattle.mx_plans.specs.declared.mark.Mark.{Mark}
use Rattle.mx_plans.specs.declared.file.PlanLine.{PlanLine}
use Rattle.mx_plans.specs.declared.file.PlanFault.{PlanFault}
use Rattle.mx_plans.specs.declared.file.PlanError.{PlanError}
use Rattle.mx_plans.specs.declared.file.PlanError.TheVariants.{Refused, Memory}
use Rattle.mx_plans.specs.declared.file.PlanFault.TheVariants.{BadWord, TooLong, TwoPlaces, TwoCounts, NoBlock}
use Rattle.mx_plans.specs.Marks.{mark_of, copies_word, is_terminator}

-- the bytes between line feeds
abbrev pub lines_in : List ℕ → List (List ℕ)
lines_in text = slice_split (λ b. b == 10) text

-- space, tab and carriage return
abbrev pub is_gap : ℕ → Bool
is_gap b = b == 32 || (b == 9 || b == 13)

-- what stands between these in a line; a piece without bytes is no word
abbrev pub pieces_in : List ℕ → List (List ℕ)
pieces_in line = slice_split is_gap line

abbrev pub and_then : {A B : Type 0} → Result A PlanFault → (A → Result B PlanFault) → Result B PlanFault
and_then (Ok x) next = next x
and_then (Err fault) next = Err fault

-- one more word after these
abbrev pub after_word : List Mark → Option Mark → Result (List Mark) PlanFault
after_word marks None = Err BadWord
after_word marks (Some mark) =
    cond (leb MOST_ITEMS (length marks)) (Err TooLong)
    (cond (is_terminator mark && list_any is_terminator marks) (Err TwoPlaces) (Ok (marks ++ mark ∷ [])))

abbrev pub after_piece : List Mark → List ℕ → Result (List Mark) PlanFault
after_piece marks [] = Ok marks
after_piece marks (c ∷ word) = after_word marks (mark_of (c ∷ word))

-- the items of a line's pieces, after these
abbrev pub marks_after : List Mark → List (List ℕ) → Result (List Mark) PlanFault
marks_after marks [] = Ok marks
marks_after marks (piece ∷ pieces) = and_then (after_piece marks piece) (λ more. marks_after more pieces)

-- the items of a line without a count, or its first fault
abbrev pub line_marks : List ℕ → Result (List Mark) PlanFault
line_marks line = marks_after [] (pieces_in line)

-- What a line of a plan file says: the items of its plan, and how many words of the target its slots copy. A line without items leaves
-- the plan to the list scheduler. A line without a count copies as many words as can be copied.
pub record LineSaid : Type 0 where
  pub marks : List Mark
  pub copies : Option ℕ

-- a line that says nothing
abbrev pub unsaid : LineSaid
unsaid = record { marks = []; copies = None }

-- a line has one count at most
abbrev pub with_count : Option ℕ → ℕ → Result (Option ℕ) PlanFault
with_count None n = Ok (Some n)
with_count (Some other) n = Err TwoCounts

-- one more piece after these: a count, or an item
abbrev pub after_read : LineSaid → List ℕ → Option ℕ → Result LineSaid PlanFault
after_read said piece (Some n) = and_then (with_count said.copies n) (λ copies. Ok (record { marks = said.marks; copies = copies }))
after_read said piece None = and_then (after_piece said.marks piece) (λ marks. Ok (record { marks = marks; copies = said.copies }))

abbrev pub after_said : LineSaid → List ℕ → Result LineSaid PlanFault
after_said said piece = after_read said piece (copies_word piece)

-- what a line's pieces say, after these
abbrev pub said_after : LineSaid → List (List ℕ) → Result LineSaid PlanFault
said_after said [] = Ok said
said_after said (piece ∷ pieces) = and_then (after_said said piece) (λ more. said_after more pieces)

-- what a line says, or its first fault
abbrev pub line_read : List ℕ → Result LineSaid PlanFault
line_read line = said_after unsaid (pieces_in line)

-- a line with neither items nor a count
abbrev pub is_silent : List Mark → Option ℕ → Bool
is_silent [] None = true
is_silent _ _ = false

-- each other line is that of a block
abbrev pub for_block : Bool → LineSaid → Result LineSaid PlanFault
for_block is_there said = cond (is_there || is_silent said.marks said.copies) (Ok said) (Err NoBlock)

-- what a line says, with a block for it or not
abbrev pub line_said : Bool → List ℕ → Result LineSaid PlanFault
line_said is_there line = and_then (line_read line) (for_block is_there)

abbrev pub Said : Type 0
Said = Result (List LineSaid) (ℕ × PlanFault)

-- what a line says, and what follows; or the fault of the line
abbrev pub on_line : ℕ → Result LineSaid PlanFault → (LineSaid → Said) → Said
on_line line (Ok said) next = next said
on_line line (Err fault) next = Err (line, fault)

-- lines after others, of a file for so many blocks
abbrev pub plans_after : ℕ → List LineSaid → List (List ℕ) → Said
plans_after count plans [] = Ok plans
plans_after count plans (line ∷ lines) =
    on_line (length plans + 1) (line_said (ltb (length plans) count) line) (λ said. plans_after count (plans ++ said ∷ []) lines)

-- what each line of a file for so many blocks says, or its first faulty line, which counts from 1, with its first fault
abbrev pub plans_in : ℕ → List ℕ → Said
plans_in count text = plans_after count [] (lines_in text)

-- what a line that is read says
abbrev pub said_of : PlanLine → LineSaid
said_of line = record { marks = line.marks.items; copies = line.copies }

abbrev pub lines_said : List PlanLine → List LineSaid
lines_said lines = map said_of lines

-- the items of each line
abbrev pub marks_of : List LineSaid → List (List Mark)
marks_of lines = map (λ (said : LineSaid). said.marks) lines

abbrev pub marks_of_lines : List PlanLine → List (List Mark)
marks_of_lines lines = map (λ (l : PlanLine). l.marks.items) lines

-- a file is refused by its first faulty line alone; memory may be wanting
abbrev pub IsRefused : Said → PlanError → Type 0
IsRefused said (Refused line fault) = said ≡ Err (line, fault)
IsRefused said Memory = Unit {0}
