-- Where the line after a line of code is.
use Rattle.std.proofs.Common.{◌≡◌, ℕ, ◌+◌, ◌≤◌, false, cond, List, [], ◌∷◌, refl, ap, ◌∙◌, arith}
use Rattle.std.specs.Prelude.{min}
use Rattle.mx_lines.specs.Reading.{◌>>=◌}
use Rattle.mx_lines.specs.Words.{Word, Name, Number, Comma, Open, Close, Hash, Colon, End}
use Rattle.mx_lines.specs.Instructions.{Labels, instruction}
use Rattle.mx_lines.specs.declared.labels.TheConstants.{PAST_END}
use Rattle.mx_asm.specs.declared.position.Section.{Section}
use Rattle.mx_asm.specs.declared.position.Section.TheVariants as section
use Rattle.mx_asm.specs.declared.position.Position.{Position}
use Rattle.mx_asm.specs.Directives.{is_dotted, directive_named, directed, effect_of, in_code}
use Rattle.mx_asm.specs.Positions.{section_after, instruction_count, word_count, asked, behind}
use Rattle.law_emit.specs.Reading.{code_at, words_statement, effect_from, IsCode}

at : Section → ℕ → ℕ → Position
at s index address = record { section = s; index = index; address = address }

pub behind_code : (index address count : ℕ) (words : List Word) → section_after section.Code words ≡ section.Code → instruction_count words ≡ count
    → word_count words ≡ 0 → address ≤ PAST_END → behind (code_at index address) words ≡ code_at (index + count) address
unfolding behind at
behind_code index address count words stays counts none near =
    let same : min (address + 0) PAST_END ≡ address = omega arith in
    ap (λ s. at s (index + instruction_count words) (min (address + word_count words) PAST_END)) stays
    ∙ ap (λ n. at section.Code (index + n) (min (address + word_count words) PAST_END)) counts
    ∙ ap (λ n. at section.Code (index + count) (min (address + n) PAST_END)) none
    ∙ ap (at section.Code (index + count)) same

pub no_words : (words : List Word) → IsCode words → word_count words ≡ 0
no_words [] h = refl
no_words (Name name ∷ words) h = ap (λ t. cond t (asked (directive_named name) words) 0) h
no_words (Number s v ∷ words) h = absurd h
no_words (Comma ∷ words) h = absurd h
no_words (Open ∷ words) h = absurd h
no_words (Close ∷ words) h = absurd h
no_words (Hash ∷ words) h = absurd h
no_words (Colon ∷ words) h = absurd h
no_words (End ∷ words) h = absurd h

pub one_count : (name : List ℕ) (words : List Word) → is_dotted name ≡ false → instruction_count (Name name ∷ words) ≡ 1
one_count name words h = ap (λ t. cond t 0 1) h

pub code_effect : (K : Labels) (words : List Word) → IsCode words → effect_of K section.Code words ≡ effect_from (words_statement K words)
unfolding effect_of
code_effect K [] h = refl
code_effect K (Name name ∷ words) h =
    ap (λ t. cond t (directed K section.Code (directive_named name) words) (instruction K name words >>= λ s. in_code section.Code s)) h
code_effect K (Number s v ∷ words) h = absurd h
code_effect K (Comma ∷ words) h = absurd h
code_effect K (Open ∷ words) h = absurd h
code_effect K (Close ∷ words) h = absurd h
code_effect K (Hash ∷ words) h = absurd h
code_effect K (Colon ∷ words) h = absurd h
code_effect K (End ∷ words) h = absurd h
