-- The text of a source.
use Rattle.std.specs.Prelude.{ℕ, ◌-◌, ◌/◌, cond, ◌==◌, List, [], ◌++◌, codes, decimal}
use Rattle.cc_rules.specs.declared.numbers.TheConstants.{FIRST_BYTE}
use Rattle.cc_program.specs.declared.program.Program.{Program}
use Rattle.cc_emit.specs.declared.line.Line.{Line}
use Rattle.cc_emit.specs.declared.output.Output.{Output}
use Rattle.cc_emit.specs.declared.words.Writing.TheVariants.{Nothing}
use Rattle.cc_emit.specs.Lines.{lines_text}
use Rattle.cc_emit.specs.Data.{front_text, added_text}
use Rattle.cc_emit.specs.Images.{DataImage, image_of, image_text}

-- the comment that a source begins with
abbrev pub title : List ℕ
title = codes "; translated from assembly for MIPS-I\n"

-- the comment, and the code
abbrev pub code_text : Program → List Line → List ℕ
code_text p lines = title ++ lines_text p lines

-- a number and what it counts, after a text
abbrev pub plural : ℕ → List ℕ
plural count = cond (count == 1) [] (codes "s")

abbrev pub count_text : List ℕ → ℕ → List ℕ → List ℕ
count_text before count what = before ++ decimal count ++ what ++ plural count

-- a comment with the size of the source
abbrev pub size_text : ℕ → ℕ → ℕ → List ℕ
size_text statements instructions words =
    count_text (codes "; ") statements (codes " statement") ++ count_text (codes ", ") instructions (codes " instruction")
    ++ count_text (codes ", ") words (codes " data word") ++ codes "\n"

-- the data: those of the program before the byte `behind`, and those of the translation before the byte `end`
abbrev pub words_text : Program → DataImage → List ℕ
words_text p image = image_text p image.bytes Nothing image.said

abbrev pub data_text : Program → Output → ℕ → ℕ → List ℕ
data_text p out behind end = front_text out.input ++ words_text p (image_of p behind end) ++ added_text out end

-- the whole text: the code, the data, and the size in a comment
abbrev pub source_text : Program → Output → ℕ → ℕ → List ℕ
source_text p out behind end =
    code_text p out.lines.items ++ (data_text p out behind end ++ size_text out.statements out.instructions ((end - FIRST_BYTE) / 4))
