-- Lines of data leave the section as it is.
use Rattle.std.proofs.Common.{◌≡◌, ℕ, ◌^◌, ◌<◌, Bool, true, false, cond, List, [], ◌∷◌, ◌++◌, refl, sym, ap, ◌∙◌, subst, arith, decimal, append_assoc}
use Rattle.std.specs.Prelude.{All, codes, slice_index}
use Rattle.std.specs.List.{flat_map}
use Rattle.std.proofs.lemmas.List.{append-nil}
use Rattle.std.proofs.lemmas.List.Elements.{All-cons, All-head, All-tail}
use Rattle.mx_lex.specs.Bytes.{continues_name}
use Rattle.mx_lex.specs.Lines.{lines_of}
use Rattle.mx_lex.specs.declared.token.Kind.TheVariants as kinds
use Rattle.mx_lines.specs.Words.{Word, Name, Number, Comma, Colon}
use Rattle.mx_asm.specs.declared.position.Section.TheVariants as section
use Rattle.mx_asm.specs.Positions.{statement_words, words_or_none, section_after}
use Rattle.mx_asm.specs.Printable.{is_name}
use Rattle.mx_asm.proofs.Spelled.{Splits, splits_end, splits_name, splits_mark, splits_blank, splits_decimal, is_comma, is_colon, words_are}
use Rattle.law_emit.specs.Lines.{LineStays, StaysData, Stays}
use Rattle.law_emit.specs.Reading.{is_one_line}
use Rattle.law_emit.proofs.Alone.{alone, from_clean}
use Rattle.law_emit.proofs.Comments.{comment_words}

pub nothing_stays : Stays []
nothing_stays rest h = h

pub both_stay : (a b : List ℕ) → Stays a → Stays b → Stays (a ++ b)
both_stay a b h k rest s = subst (λ t. StaysData (lines_of t)) (sym (append_assoc a b rest)) (h (b ++ rest) (k rest s))

pub cond_stays : (t : Bool) (text : List ℕ) → Stays text → Stays (cond t text [])
cond_stays true text h = h
cond_stays false text h = nothing_stays

pub each_stays : {A : Type 0} (f : A → List ℕ) → ((x : A) → Stays (f x)) → (xs : List A) → Stays (flat_map f xs)
each_stays f each [] = nothing_stays
each_stays f each (x ∷ xs) = both_stay (f x) (flat_map f xs) (each x) (each_stays f each xs)

pub all_stay : {A : Type 0} (P : A → Type 0) (f : A → List ℕ) → ((x : A) → P x → Stays (f x)) → (xs : List A) → All P xs → Stays (flat_map f xs)
all_stay P f each [] h = nothing_stays
all_stay P f each (x ∷ xs) h = both_stay (f x) (flat_map f xs) (each x (All-head P x xs h)) (all_stay P f each xs (All-tail P x xs h))

-- one line
pub line_stays : (line : List ℕ) → is_one_line line ≡ true → LineStays line → Stays (line ++ codes "\n")
line_stays line one own rest h = subst (λ lines. StaysData lines) (sym (alone line one rest)) (All-cons LineStays line (lines_of rest) own h)

pub split_stays : (line : List ℕ) (words : List Word) → Splits line words → section_after section.Data (statement_words words) ≡ section.Data
    → Stays (line ++ codes "\n")
split_stays line words s own =
    line_stays line (from_clean line s.clean)
    (ap (λ r. section_after section.Data (statement_words (words_or_none r))) (words_are line words s) ∙ own)

pub comment_stays : (text : List ℕ) → is_one_line (59 ∷ text) ≡ true → Stays (59 ∷ text ++ codes "\n")
comment_stays text one =
    line_stays (59 ∷ text) one (ap (λ r. section_after section.Data (statement_words (words_or_none r))) (comment_words text))

-- a number or a name among the words of a line
pub record Value (text : List ℕ) : Type 0 where
  pub word : Word
  pub plain : (name : List ℕ) (words : List Word) → statement_words (Name name ∷ word ∷ words) ≡ Name name ∷ word ∷ words
  pub splits : (rest : List ℕ) (words : List Word) → continues_name (slice_index rest 0) ≡ false → Splits rest words
      → Splits (text ++ rest) (word ∷ words)

pub number_value : (n : ℕ) → n < 2 ^ 32 → Value (decimal n)
number_value n small = record {
  word = Number false n;
  plain = λ name words. refl;
  splits = λ rest words stops s. splits_decimal n rest words (omega arith) stops s;
}

pub name_value : (name : List ℕ) → is_name name ≡ true → Value name
name_value name h = record {
  word = Name name;
  plain = λ directive words. refl;
  splits = λ rest words stops s. splits_name name rest words h stops s;
}

-- the front of a line of words, up to one of its values
pub record Row (line : List ℕ) : Type 0 where
  pub first : Word
  pub others : List Word
  pub plain : (name : List ℕ) (words : List Word) → statement_words (Name name ∷ first ∷ words) ≡ Name name ∷ first ∷ words
  pub splits : (rest : List ℕ) (words : List Word) → continues_name (slice_index rest 0) ≡ false → Splits rest words
      → Splits (line ++ rest) (Name (codes ".word") ∷ first ∷ (others ++ words))

blanks : (rest : List ℕ) (words : List Word) → Splits rest words → Splits (32 ∷ 32 ∷ 32 ∷ 32 ∷ 32 ∷ 32 ∷ 32 ∷ 32 ∷ rest) words
blanks rest words s =
    splits_blank _ _ (splits_blank _ _ (splits_blank _ _ (splits_blank _ _
    (splits_blank _ _ (splits_blank _ _ (splits_blank _ _ (splits_blank rest words s)))))))

pub new_row : (text : List ℕ) → Value text → Row (codes "        .word " ++ text)
new_row text v = record {
  first = v.word;
  others = [];
  plain = v.plain;
  splits = λ rest words stops s. blanks (codes ".word " ++ (text ++ rest)) (Name (codes ".word") ∷ v.word ∷ words)
      (splits_name (codes ".word") (32 ∷ (text ++ rest)) (v.word ∷ words) refl refl
      (splits_blank (text ++ rest) (v.word ∷ words) (v.splits rest words stops s)));
}

pub add_row : (line text : List ℕ) → Row line → Value text → Row (line ++ (codes "," ++ text))
add_row line text r v = record {
  first = r.first;
  others = r.others ++ (Comma ∷ v.word ∷ []);
  plain = r.plain;
  splits = λ rest words stops s.
      subst (λ ws. Splits ((line ++ (codes "," ++ text)) ++ rest) (Name (codes ".word") ∷ r.first ∷ ws))
      (sym (append_assoc r.others (Comma ∷ v.word ∷ []) words))
      (subst (λ t. Splits t (Name (codes ".word") ∷ r.first ∷ (r.others ++ (Comma ∷ v.word ∷ words)))) (sym (append_assoc line (codes "," ++ text) rest))
      (r.splits (44 ∷ (text ++ rest)) (Comma ∷ v.word ∷ words) refl
      (splits_mark 44 kinds.Comma Comma is_comma (text ++ rest) (v.word ∷ words) (v.splits rest words stops s))));
}

pub row_stays : (line : List ℕ) → Row line → Stays (line ++ codes "\n")
row_stays line r =
    split_stays line (Name (codes ".word") ∷ r.first ∷ (r.others ++ []))
    (subst (λ t. Splits t (Name (codes ".word") ∷ r.first ∷ (r.others ++ []))) (append-nil line) (r.splits [] [] refl splits_end))
    (ap (section_after section.Data) (r.plain (codes ".word") (r.others ++ [])))

pub word_stays : (text : List ℕ) → Value text → Stays (codes "        .word " ++ text ++ codes "\n")
word_stays text v = row_stays (codes "        .word " ++ text) (new_row text v)

number_ends : (n : ℕ) → n < 2 ^ 32 → Splits (decimal n) (Number false n ∷ [])
number_ends n small = subst (λ t. Splits t (Number false n ∷ [])) (append-nil (decimal n)) (splits_decimal n [] [] (omega arith) refl splits_end)

directed_ends : (name : List ℕ) (n : ℕ) → is_name name ≡ true → n < 2 ^ 32 → Splits (name ++ (32 ∷ decimal n)) (Name name ∷ Number false n ∷ [])
directed_ends name n h small =
    splits_name name (32 ∷ decimal n) (Number false n ∷ []) h refl (splits_blank (decimal n) (Number false n ∷ []) (number_ends n small))

pub space_stays : (count : ℕ) → count < 2 ^ 32 → Stays (codes "        .space " ++ decimal count ++ codes "\n")
space_stays count small =
    split_stays (codes "        .space " ++ decimal count) (Name (codes ".space") ∷ Number false count ∷ [])
    (blanks (codes ".space" ++ (32 ∷ decimal count)) (Name (codes ".space") ∷ Number false count ∷ []) (directed_ends (codes ".space") count refl small)) refl

-- labels, alone and before a word
pub label_stays : (name : List ℕ) → is_name name ≡ true → Stays (name ++ codes ":\n")
label_stays name h =
    subst (λ t. Stays t) (append_assoc name (codes ":") (codes "\n"))
    (split_stays (name ++ codes ":") (Name name ∷ Colon ∷ [])
    (splits_name name (codes ":") (Colon ∷ []) h refl (splits_mark 58 kinds.Colon Colon is_colon [] [] splits_end)) refl)

pub held_stays : (label : List ℕ) (value : ℕ) → is_name label ≡ true → value < 2 ^ 32 → Stays (label ++ codes ": .word " ++ decimal value ++ codes "\n")
held_stays label value h small =
    split_stays (label ++ codes ": .word " ++ decimal value) (Name label ∷ Colon ∷ own)
    (subst (λ t. Splits t (Name label ∷ Colon ∷ own)) (sym (append_assoc label (codes ": .word ") (decimal value)))
    (splits_name label (codes ": .word " ++ decimal value) (Colon ∷ own) h refl
    (splits_mark 58 kinds.Colon Colon is_colon (codes " .word " ++ decimal value) own
    (splits_blank (codes ".word" ++ (32 ∷ decimal value)) own (directed_ends (codes ".word") value refl small))))) refl
  where
    own : List Word
    own = Name (codes ".word") ∷ Number false value ∷ []
