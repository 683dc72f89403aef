-- What `check` shows of the faulty lines of a text.
use Rattle.std.specs.Prelude.{ℕ, ◌-◌, ◌==◌, List, [], ◌++◌, map, take, drop, get_or, Option, Some, None, if◌then◌else◌}
use Rattle.mx_lex.specs.Lines.{lines_of}
use Rattle.mx_lines.specs.declared.fault.Fault.{Fault}
use Rattle.mx_faults.specs.declared.span.Span.{Span}
use Rattle.mx_faults.specs.declared.line_fault.LineFault.{LineFault}
use Rattle.mx_faults.specs.Found.{faults_in, text_line}
use Rattle.mx_faults.specs.Showing.{fault_span}
use Rattle.lab_faults.specs.declared.found.Shown.{Shown as Kept}

-- what stands under a byte before the marks: a tab under a tab, else a blank
abbrev pub under : ℕ → ℕ
under b = if b == 9 then 9 else 32

-- a `^` under a byte of the token
abbrev pub caret : ℕ → ℕ
caret b = 94

-- the marks under the bytes of a line up to the end of the token
abbrev pub marks_to : ℕ → List ℕ → List ℕ
marks_to start bytes = map under (take start bytes) ++ map caret (drop start bytes)

-- the marks under a line
abbrev pub marks : List ℕ → Option Span → List ℕ
marks line None = []
marks line (Some span) = marks_to span.start (take span.end line)

-- a faulty line as it is shown: its number, its fault, the line, and the marks under it
pub record Shown : Type 0 where
  pub line : ℕ
  pub fault : Fault
  pub text : List ℕ
  pub marks : List ℕ

-- a line that was found, among the lines of a text
abbrev pub shown_among : List (List ℕ) → LineFault → Shown
shown_among lines f =
    let text = get_or lines (f.line - 1) [] in
    record { line = f.line; fault = f.fault; text = text; marks = marks text f.span }

-- a faulty line of a text, by its number and its fault
abbrev pub shown_in : List ℕ → ℕ × Fault → Shown
shown_in text f =
    let line = get_or (lines_of text) (f.0 - 1) [] in
    record { line = f.0; fault = f.1; text = line; marks = marks line (fault_span (text_line 256 65536 text (f.0 - 1)) f.1) }

-- the first faulty lines of a text, up to so many, as they are shown
abbrev pub shown_lines : ℕ → List ℕ → List Shown
shown_lines at_most text = map (shown_in text) (take at_most (faults_in 256 65536 text))

-- what the program shows
abbrev pub as_shown : Kept → Shown
as_shown s = record { line = s.line; fault = s.fault; text = s.text.now; marks = s.marks.items }
