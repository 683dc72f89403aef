-- Data have no statements.
use Rattle.std.proofs.Common.{◌≡◌, ℕ, ◌+◌, ◌-◌, ◌/◌, ◌^◌, ◌≤◌, ◌<◌, Bool, true, false, cond, List, [], ◌∷◌, ◌++◌, Option, Some, None, Result, Ok, Err, refl, sym, ap, ◌∙◌, subst, arith, append_assoc}
use Rattle.std.specs.Prelude.{All, count_by, codes, min, replicate}
use Rattle.std.proofs.lemmas.List.{append-nil}
use Rattle.std.proofs.lemmas.List.Elements.{All-nil, All-head, All-tail}
use Rattle.mx_lex.specs.Lines.{lines_of}
use Rattle.mx_source.specs.declared.statement.Statement.{Statement}
use Rattle.mx_source.specs.declared.statement.Value.{Value}
use Rattle.mx_source.specs.declared.statement.Value.TheVariants as values
use Rattle.mx_source.specs.SourceValue.{SourceValue}
use Rattle.mx_lines.specs.declared.fault.Fault.{Fault}
use Rattle.mx_lines.specs.declared.labels.TheConstants.{PAST_END}
use Rattle.mx_lines.specs.Instructions.{Labels, instruction}
use Rattle.mx_lines.specs.Reading.{◌>>=◌}
use Rattle.mx_lines.specs.Words.{Word, Name, Number, Comma, Open, Close, Hash, Colon, End}
use Rattle.mx_asm.specs.declared.directive.Directive.{Directive}
use Rattle.mx_asm.specs.declared.directive.Directive.TheVariants as d
use Rattle.mx_asm.specs.declared.position.Section.{Section}
use Rattle.mx_asm.specs.declared.position.Section.TheVariants as section
use Rattle.mx_asm.specs.declared.position.Position.{Position}
use Rattle.mx_asm.specs.Directives.{Effect, Nothing, Input, effect_of, directed, directive_named, is_dotted, in_code, in_data, word_values, space_count}
use Rattle.mx_asm.specs.Positions.{statement_words, line_words, words_or_none, section_after, instruction_count, word_count, behind, after}
use Rattle.mx_asm.specs.Texts.{ReadsAs as TextReadsAs, effects_from, or_nothing, onto_statements, statements_in}
use Rattle.mx_asm.proofs.Spelled.{splits_end, splits_name, words_are}
use Rattle.cc_program.specs.declared.program.Program.{Program}
use Rattle.cc_emit.specs.declared.line.Line.{Line}
use Rattle.cc_rules.specs.declared.numbers.TheConstants.{FIRST_BYTE}
use Rattle.cc_emit.specs.declared.output.Output.{Output}
use Rattle.cc_emit.specs.Data.{front_text, added_text}
use Rattle.cc_emit.specs.Images.{image_of}
use Rattle.cc_emit.specs.Lines.{is_statement, lines_text}
use Rattle.cc_emit.specs.Sources.{title, code_text, data_text, words_text, size_text, source_text}
use Rattle.law_emit.specs.Lines.{LineStays, StaysData, Stays, DataFits, resolve}
use Rattle.law_emit.specs.Reading.{LineFits, code_at}
use Rattle.law_emit.proofs.Alone.{alone}
use Rattle.law_emit.proofs.DataAdded.{added_stays, size_stays}
use Rattle.law_emit.proofs.DataImage.{words_stay}
use Rattle.law_emit.proofs.DataLines.{both_stay}
use Rattle.law_emit.proofs.Lines.{code_read}

abbrev Adds : Result Effect Fault → Type 0
Adds r = (ss : List Statement) → onto_statements (or_nothing r) ss ≡ ss

-- no statement is in the section of data
directed_adds : (K : Labels) (o : Option Directive) (words : List Word) → Adds (directed K section.Data o words)
unfolding directed
directed_adds K (Some d.Code) [] ss = refl
directed_adds K (Some d.Code) (w ∷ words) ss = refl
directed_adds K (Some d.Data) [] ss = refl
directed_adds K (Some d.Data) (w ∷ words) ss = refl
directed_adds K (Some d.Input) [] ss = refl
directed_adds K (Some d.Input) (w ∷ words) ss = refl
directed_adds K (Some d.Word) words ss = by_values (word_values K words)
  where
    by_values : (r : Result (List Value) Fault) → onto_statements (or_nothing (r >>= λ vs. in_data section.Data vs)) ss ≡ ss
    by_values (Ok vs) = refl
    by_values (Err fault) = refl
directed_adds K (Some d.Space) words ss = by_count (space_count words)
  where
    by_count : (r : Result ℕ Fault) → onto_statements (or_nothing (r >>= λ k. in_data section.Data (replicate k (values.Int 0)))) ss ≡ ss
    by_count (Ok k) = refl
    by_count (Err fault) = refl
directed_adds K None words ss = refl

words_add : (K : Labels) (words : List Word) → Adds (effect_of K section.Data words)
unfolding effect_of
words_add K [] ss = refl
words_add K (Name name ∷ words) ss = by_dot (is_dotted name)
  where
    by_statement : (r : Result Statement Fault) → onto_statements (or_nothing (r >>= λ s. in_code section.Data s)) ss ≡ ss
    by_statement (Ok s) = refl
    by_statement (Err fault) = refl

    by_dot : (t : Bool)
        → onto_statements (or_nothing (cond t (directed K section.Data (directive_named name) words)
        (instruction K name words >>= λ s. in_code section.Data s))) ss ≡ ss
    by_dot true = directed_adds K (directive_named name) words ss
    by_dot false = by_statement (instruction K name words)
words_add K (Number s v ∷ words) ss = refl
words_add K (Comma ∷ words) ss = refl
words_add K (Open ∷ words) ss = refl
words_add K (Close ∷ words) ss = refl
words_add K (Hash ∷ words) ss = refl
words_add K (Colon ∷ words) ss = refl
words_add K (End ∷ words) ss = refl

at : Section → ℕ → ℕ → Position
at s index address = record { section = s; index = index; address = address }

behind_data : (index address : ℕ) (words : List Word) → section_after section.Data words ≡ section.Data
    → behind (record { section = section.Data; index = index; address = address }) words
    ≡ record { section = section.Data; index = index + instruction_count words; address = min (address + word_count words) PAST_END }
unfolding behind at
behind_data index address words stays = ap (λ s. at s (index + instruction_count words) (min (address + word_count words) PAST_END)) stays

data_adds : (K : Labels) (index address number : ℕ) (lines : List (List ℕ)) → StaysData lines
    → statements_in (effects_from K (record { section = section.Data; index = index; address = address }) number lines) ≡ []
data_adds K index address number [] h = refl
data_adds K index address number (line ∷ lines) h =
    let words = statement_words (line_words line) in
    let stays = All-head (λ line. section_after section.Data (statement_words (line_words line)) ≡ section.Data) line lines h in
    let others = All-tail (λ line. section_after section.Data (statement_words (line_words line)) ≡ section.Data) line lines h in
    let from : Position = record { section = section.Data; index = index; address = address } in
    words_add K words (statements_in (effects_from K (behind from words) (number + 1) lines))
    ∙ ap (λ p. statements_in (effects_from K p (number + 1) lines)) (behind_data index address words stays)
    ∙ data_adds K (index + instruction_count words) (min (address + word_count words) PAST_END) (number + 1) lines others

-- the directives in front of the data
data_words : line_words (codes ".data") ≡ Name (codes ".data") ∷ []
data_words = ap words_or_none (words_are (codes ".data") (Name (codes ".data") ∷ []) (splits_name (codes ".data") [] [] refl refl splits_end))

input_words : line_words (codes ".input") ≡ Name (codes ".input") ∷ []
input_words = ap words_or_none (words_are (codes ".input") (Name (codes ".input") ∷ []) (splits_name (codes ".input") [] [] refl refl splits_end))

directive_adds : (K : Labels) (from to : Position) (number : ℕ) (line : List ℕ) (lines : List (List ℕ)) (words : List Word) (e : Effect)
    → line_words line ≡ words → effect_of K from.section (statement_words words) ≡ Ok e → onto_statements e [] ≡ [] → behind from (statement_words words) ≡ to
    → statements_in (effects_from K to (number + 1) lines) ≡ [] → statements_in (effects_from K from number (line ∷ lines)) ≡ []
directive_adds K from to number line lines words e says does none next rest =
    ap (λ ws. onto_statements (or_nothing (effect_of K from.section (statement_words ws)))
    (statements_in (effects_from K (after from ws) (number + 1) lines))) says
    ∙ ap (λ r. onto_statements (or_nothing r) (statements_in (effects_from K (behind from (statement_words words)) (number + 1) lines))) does
    ∙ ap (λ p. onto_statements e (statements_in (effects_from K p (number + 1) lines))) next
    ∙ ap (onto_statements e) rest
    ∙ none

section_adds : (K : Labels) (index address number : ℕ) (more : List ℕ) → StaysData (lines_of more)
    → statements_in (effects_from K (code_at index address) number (lines_of (codes ".data" ++ codes "\n" ++ more))) ≡ []
unfolding effect_of directed directive_named behind
section_adds K index address number more h =
    ap (λ ls. statements_in (effects_from K (code_at index address) number ls)) (alone (codes ".data") refl more)
    ∙ directive_adds K (code_at index address)
    (record { section = section.Data; index = index + 0; address = min (address + 0) PAST_END }) number (codes ".data") (lines_of more)
    (Name (codes ".data") ∷ []) Nothing data_words refl refl refl (data_adds K (index + 0) (min (address + 0) PAST_END) (number + 1) (lines_of more) h)

front_adds : (K : Labels) (index address number : ℕ) (input : Bool) (more : List ℕ) → StaysData (lines_of more)
    → statements_in (effects_from K (code_at index address) number (lines_of (front_text input ++ more))) ≡ []
unfolding effect_of directed directive_named behind
front_adds K index address number false more h = section_adds K index address number more h
front_adds K index address number true more h =
    ap (λ ls. statements_in (effects_from K (code_at index address) number ls)) (alone (codes ".input") refl (codes ".data\n" ++ more))
    ∙ directive_adds K (code_at index address) (code_at (index + 0) (min (address + 0) PAST_END)) number (codes ".input") (lines_of (codes ".data\n" ++ more))
    (Name (codes ".input") ∷ []) Input input_words refl refl refl (section_adds K (index + 0) (min (address + 0) PAST_END) (number + 1) more h)

-- a whole source
abbrev after_data : Program → Output → ℕ → ℕ → List ℕ
after_data p out behind end =
    words_text p (image_of p behind end) ++ added_text out end ++ size_text out.statements out.instructions ((end - FIRST_BYTE) / 4)

nothing_left : StaysData (lines_of [])
unfolding lines_of
nothing_left = All-nil LineStays

data_stays : (p : Program) (out : Output) (behind end : ℕ) → DataFits p out behind end → StaysData (lines_of (after_data p out behind end))
data_stays p out behind end fits =
    let words = words_text p (image_of p behind end) in
    let added = added_text out end in
    let size = size_text out.statements out.instructions ((end - FIRST_BYTE) / 4) in
    let near = fits.last in
    let small : (end - FIRST_BYTE) / 4 < 2 ^ 32 = omega (arith, near) in
    let all : Stays (words ++ added ++ size) =
    both_stay (words ++ added) size
    (both_stay words added (words_stay p (image_of p behind end) fits.said fits.bytes) (added_stays out end fits.numbers fits.ends))
    (size_stays out.statements out.instructions ((end - FIRST_BYTE) / 4) fits.statements fits.instructions small) in
    subst (λ t. StaysData (lines_of t)) (append-nil (words ++ added ++ size)) (all [] nothing_left)

whole_text : (p : Program) (out : Output) (behind end : ℕ) (lines : List Line) → lines_text p out.lines.items ≡ lines_text p lines
    → source_text p out behind end ≡ code_text p lines ++ (front_text out.input ++ after_data p out behind end)
whole_text p out behind end lines same =
    let words = words_text p (image_of p behind end) in
    let added = added_text out end in
    let size = size_text out.statements out.instructions ((end - FIRST_BYTE) / 4) in
    ap (λ t. title ++ t ++ (data_text p out behind end ++ size)) same
    ∙ ap (λ t. code_text p lines ++ t) (parts (front_text out.input) words added size)
  where
    parts : (a b c d : List ℕ) → a ++ b ++ c ++ d ≡ a ++ (b ++ c ++ d)
    parts a b c d = append_assoc (a ++ b) c d ∙ append_assoc a b (c ++ d) ∙ ap (λ t. a ++ t) (sym (append_assoc b c d))

pub source_read : (p : Program) (out : Output) (behind end : ℕ) (lines : List Line) → All (LineFits p) lines
    → lines_text p out.lines.items ≡ lines_text p lines → DataFits p out behind end → (address limit : ℕ) → address ≤ PAST_END
    → (source : SourceValue) → TextReadsAs address limit (source_text p out behind end) source → resolve source.labels p lines ≡ Ok source.statements
source_read p out behind end lines fits same kept address limit near source h =
    let rest = after_data p out behind end in
    let code = code_read p lines fits address limit near (front_text out.input ++ rest) source
    (subst (λ t. TextReadsAs address limit t source) (whole_text p out behind end lines same) h) in
    let none = ap statements_in code.follow ∙ front_adds source.labels (count_by is_statement lines) address code.number out.input rest
    (data_stays p out behind end kept) in
    code.resolved ∙ ap Ok (sym (code.statements ∙ ap (λ ss. code.own ++ ss) none ∙ append-nil code.own))
