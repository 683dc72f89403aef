-- What a text without faults reads as can be printed, where its names are short enough, and reads back.
use Rattle.std.proofs.Common.{◌≡◌, ℕ, zero, suc, ◌+◌, ◌-◌, ◌≤◌, ◌<◌, ◌||◌, ◌&&◌, List, [], ◌∷◌, ◌++◌, length, map, take, drop, get_or, cond, Bool, true, false, Option, Some, None, Result, Ok, Err, refl, ap, sym, ◌∙◌, arith}
use Rattle.std.specs.Prelude.{All, IfOk, not, is_some, nat_le, slice_index, slice_range, ◌==◌}
use Rattle.std.specs.List.{list_all, prefix_len, take_while, AllByRecursion}
use Rattle.std.specs.Char.{is_digit}
use Rattle.std.proofs.lemmas.Bool.{false≢true}
use Rattle.std.proofs.lemmas.Bool.Decides.{nat_tests}
use Rattle.std.proofs.lemmas.List.Elements.{All-nil, All-cons, All-push, All-head, All-tail}
use Rattle.std.proofs.lemmas.List.Sums.{take_while-cons}
use Rattle.std.proofs.Math.Seq.{drop-cons}
use Rattle.mx_isa.specs.declared.board.TheConstants.{DATA_BASE, DATA_END}
use Rattle.mx_lex.specs.Lines.{lines_of}
use Rattle.mx_lex.specs.Bytes.{is_blank, is_allowed, begins_name, continues_name}
use Rattle.mx_lex.specs.Tokens.{token, magnitude_at, number_token, number_at, mark_of, mark_or_number_at, ends_at, token_from, next_token, is_end, before, and_then, tokens_within, tokens_of}
use Rattle.mx_lex.specs.declared.token.Kind.TheVariants as kinds
use Rattle.mx_lex.specs.declared.token.Token.{Token}
use Rattle.mx_lex.specs.declared.token.LexFault.{LexFault}
use Rattle.mx_lex.specs.declared.token.LexFault.TheVariants as lexed
use Rattle.mx_source.specs.declared.statement.Label.{Label}
use Rattle.mx_source.specs.declared.statement.Label.TheVariants as label
use Rattle.mx_source.specs.Labels.{LabelFits}
use Rattle.mx_lines.specs.declared.fault.Fault.TheVariants.{BadByte, UndefinedLabel}
use Rattle.mx_asm.specs.declared.position.Section.{Section}
use Rattle.mx_asm.specs.declared.position.Section.TheVariants as section
use Rattle.mx_asm.specs.declared.position.Position.{Position}
use Rattle.mx_lines.specs.Words.{Word, Name, Colon, word_at, words_at, has_bad_byte, words_of}
use Rattle.mx_lines.specs.Operands.{label_named, any_label}
use Rattle.mx_lines.specs.Instructions.{Labels}
use Rattle.mx_asm.specs.Directives.{is_dotted, value_at}
use Rattle.mx_lines.specs.Fitting.{LabelsFit, NamedFits}
use Rattle.mx_asm.specs.Positions.{after, behind, define, define_front, label_at, label_here, with_labels, labels_from, words_or_none, line_words, start, position_at_end}
use Rattle.mx_asm.specs.Faults.{first_fault}
use Rattle.mx_asm.specs.Texts.{text_fault, text_labels, text_effects, source_of}
use Rattle.mx_asm.specs.Printable.{is_name, IsLabelName, IsWithin, IsWord, NamesRegisters, IsPrintable, ReadsBack}
use Rattle.mx_lines.proofs.Fits.{any_fits}
use Rattle.mx_lines.proofs.Forms.{was_read}
use Rattle.mx_asm.proofs.Held.{Words, names_registers, statements_have, lines_are}
use Rattle.mx_asm.proofs.LabelBounds.{define_fits, labels_fit}
use Rattle.mx_asm.proofs.Sourced.{faultless_source, lines_fit}
use Rattle.mx_asm.proofs.PrintedTexts.{printed_reads}
use Rattle.mx_faults.specs.Sayable.{IsSayable}

-- a name that was read is one of the language
abbrev Named : Word → Type 0
Named (Name bytes) = is_name bytes ≡ true
Named _ = Unit {0}

by_first : (p : ℕ → Bool) (x : ℕ) (xs : List ℕ) (b : Bool) → p x ≡ b → list_all p (take_while p xs) ≡ true → list_all p (cond b (x ∷ take_while p xs) []) ≡ true
by_first p x xs true e h = ap (λ b. b && list_all p (take_while p xs)) e ∙ h
by_first p x xs false e h = refl

all_pass : (p : ℕ → Bool) (xs : List ℕ) → list_all p (take_while p xs) ≡ true
all_pass p [] = refl
all_pass p (x ∷ xs) = ap (list_all p) (take_while-cons p x xs) ∙ by_first p x xs (p x) refl (all_pass p xs)

name_is : (b : ℕ) (rest : List ℕ) (e : Bool) → begins_name b ≡ true → continues_name b ≡ e → e ≡ true
    → is_name (cond e (b ∷ take_while continues_name rest) []) ≡ true
name_is b rest true begins goes h = ap (λ x. x && list_all continues_name (take_while continues_name rest)) begins ∙ all_pass continues_name rest
name_is b rest false begins goes h = absurd (false≢true h)

goes_on : (b : ℕ) → begins_name b ≡ true → continues_name b ≡ true
goes_on b h = ap (λ x. x || is_digit b 10) h

taken_is : (b : ℕ) (rest : List ℕ) → begins_name b ≡ true → is_name (take_while continues_name (b ∷ rest)) ≡ true
taken_is b rest h = ap is_name (take_while-cons continues_name b rest) ∙ name_is b rest (continues_name b) h refl (goes_on b h)

whole_range : (line : List ℕ) (at n : ℕ) → slice_range line at (at + n) ≡ take n (drop at line)
whole_range line at n = let e : (at + n) - at ≡ n = omega arith in ap (λ k. take k (drop at line)) e

-- a name from a place within the line on
name_at : (line : List ℕ) (at : ℕ) → at < length line → begins_name (slice_index line at) ≡ true
    → is_name (slice_range line at (at + prefix_len continues_name (drop at line))) ≡ true
name_at line at within begins =
    ap is_name (whole_range line at (prefix_len continues_name (drop at line)))
    ∙ ap (λ l. is_name (take_while continues_name l)) (drop-cons line at 0 within)
    ∙ taken_is (get_or line at 0) (drop (suc at) line) begins

-- what was read names only names
abbrev GoodToken : List ℕ → Result Token LexFault → Type 0
GoodToken line r = IfOk r (λ t. Named (word_at line t))

number_good : (line : List ℕ) (negative : Bool) (at : ℕ) (o : Option (ℕ × ℕ)) → GoodToken line (number_token negative at o)
number_good line negative at None = tt
number_good line negative at (Some found) = tt

either_number : (line : List ℕ) (b : Bool) (r s : Result Token LexFault) → GoodToken line r → GoodToken line s → GoodToken line (cond b r s)
either_number line true r s h k = h
either_number line false r s h k = k

number_at_good : (line : List ℕ) (at : ℕ) → GoodToken line (number_at line at)
unfolding number_at
number_at_good line at = either_number line _ _ _ (number_good line true at (magnitude_at line (at + 1))) (number_good line false at (magnitude_at line at))

mark_good : (line : List ℕ) (at : ℕ) (b : ℕ) → GoodToken line (mark_or_number_at line at (mark_of b))
mark_good line at b = by_mark (b == 44) (b == 91) (b == 93) (b == 35) (b == 58)
  where
    by_mark : (k1 k2 k3 k4 k5 : Bool)
        → GoodToken line (mark_or_number_at line at
        (cond k1 (Some kinds.Comma) (cond k2 (Some kinds.Open) (cond k3 (Some kinds.Close) (cond k4 (Some kinds.Hash) (cond k5 (Some kinds.Colon) None))))))
    by_mark true k2 k3 k4 k5 = tt
    by_mark false true k3 k4 k5 = tt
    by_mark false false true k4 k5 = tt
    by_mark false false false true k5 = tt
    by_mark false false false false true = tt
    by_mark false false false false false = number_at_good line at

chosen_good : (line : List ℕ) (at : ℕ) (ends bad begins : Bool)
    → (ends ≡ false → begins ≡ true → Named (word_at line (token kinds.Name at (at + prefix_len continues_name (drop at line)))))
    → GoodToken line (cond ends (Ok (token kinds.End at at)) (cond bad (Err (lexed.BadByte at))
    (cond begins (Ok (token kinds.Name at (at + prefix_len continues_name (drop at line)))) (mark_or_number_at line at (mark_of (slice_index line at))))))
chosen_good line at true bad begins h = tt
chosen_good line at false true begins h = tt
chosen_good line at false false true h = h refl refl
chosen_good line at false false false h = mark_good line at (slice_index line at)

or_first : (a b : Bool) → a || b ≡ false → a ≡ false
or_first true b h = absurd (false≢true (sym h))
or_first false b h = refl

inside : (line : List ℕ) (at : ℕ) → ends_at line at ≡ false → at < length line
inside line at h = let k = or_first (nat_le (length line) at) _ h in grind (arith, nat_tests, k)

from_good : (line : List ℕ) (at : ℕ) → GoodToken line (token_from line at)
unfolding token_from
from_good line at =
    chosen_good line at (ends_at line at) (not (is_allowed (slice_index line at))) (begins_name (slice_index line at))
    (λ e b. name_at line at (inside line at e) b)

abbrev GoodTokens : List ℕ → Result (List Token) LexFault → Type 0
GoodTokens line r = IfOk r (AllByRecursion (λ t. Named (word_at line t)))

before_good : (line : List ℕ) (t : Token) (r : Result (List Token) LexFault) → Named (word_at line t) → GoodTokens line r → GoodTokens line (before t r)
before_good line t (Ok ts) h k = (h, k)
before_good line t (Err fault) h k = tt

end_good : (line : List ℕ) (b : Bool) (t : Token) (r : Result (List Token) LexFault) → Named (word_at line t) → GoodTokens line r
    → GoodTokens line (cond b (Ok []) (before t r))
end_good line true t r h k = tt
end_good line false t r h k = before_good line t r h k

then_good : (line : List ℕ) (r : Result Token LexFault) (g : Token → Result (List Token) LexFault) → GoodToken line r
    → ((t : Token) → Named (word_at line t) → GoodTokens line (g t)) → GoodTokens line (and_then r g)
then_good line (Ok t) g h k = k t h
then_good line (Err fault) g h k = tt

tokens_good : (most : ℕ) (line : List ℕ) (at : ℕ) → GoodTokens line (tokens_within most line at)
unfolding next_token
tokens_good zero line at = tt
tokens_good (suc most) line at =
    then_good line (next_token line at) (λ t. cond (is_end t.kind) (Ok []) (before t (tokens_within most line t.end)))
    (from_good line (at + prefix_len is_blank (drop at line)))
    (λ t h. end_good line (is_end t.kind) t (tokens_within most line t.end) h (tokens_good most line t.end))

words_good : (line : List ℕ) (ts : List Token) → AllByRecursion (λ t. Named (word_at line t)) ts → AllByRecursion Named (map (word_at line) ts)
words_good line [] h = tt
words_good line (t ∷ ts) h = (h.0, words_good line ts h.1)

split_good : (line : List ℕ) (bad : Bool) (r : Result (List Token) LexFault) → GoodTokens line r
    → AllByRecursion Named (words_or_none (cond bad (Err BadByte) (words_at line r)))
split_good line true r h = tt
split_good line false (Ok ts) h = words_good line ts h
split_good line false (Err fault) h = tt

line_good : (line : List ℕ) → AllByRecursion Named (line_words line)
unfolding words_of tokens_of
line_good line = split_good line (has_bad_byte line) (tokens_of line) (tokens_good (length line + 1) line 0)

-- a label's name
abbrev GoodName : List ℕ → Type 0
GoodName name = (is_name name ≡ true) × (is_dotted name ≡ false)

abbrev GoodEntry : List ℕ × Label → Type 0
GoodEntry p = GoodName p.0

added_good : (labels : Labels) (l : Label) (name : List ℕ) (dotted known : Bool) → is_name name ≡ true → is_dotted name ≡ dotted → All GoodEntry labels
    → All GoodEntry (cond (dotted || known) labels (labels ++ (name, l) ∷ []))
added_good labels l name true known h e all = all
added_good labels l name false true h e all = all
added_good labels l name false false h e all = All-push GoodEntry labels (name, l) all (h, e)

front_good : (words : List Word) (labels : Labels) (l : Label) → AllByRecursion Named words → All GoodEntry labels → All GoodEntry (define_front labels l words)
unfolding define
front_good (Name name ∷ Colon ∷ words) labels l h all =
    front_good words (define labels l name) l h.1.1 (added_good labels l name (is_dotted name) (is_some (label_named labels name)) h.0 refl all)
front_good _ labels l h all = all

names_good : (lines : List (List ℕ)) (p : Position) (labels : Labels) → All GoodEntry labels → All GoodEntry (labels_from p labels lines)
names_good [] p labels all = all
names_good (line ∷ lines) p labels all =
    names_good lines (after p (line_words line)) (with_labels p labels (line_words line))
    (front_good (line_words line) labels (label_here p) (line_good line) all)

-- data labels name no address past where the lines end
abbrev Below : ℕ → Label → Type 0
Below top (label.Code i) = Unit {0}
Below top (label.Data a) = a ≤ top

abbrev BelowEntry : ℕ → List ℕ × Label → Type 0
BelowEntry top p = Below top p.1

address_rises : (lines : List (List ℕ)) (p : Position) → p.address ≤ 65537 → p.address ≤ (position_at_end p lines).address
unfolding behind
address_rises [] p h = omega arith
address_rises (line ∷ lines) p h = let more = address_rises lines (after p (line_words line)) (omega arith) in omega (arith, more)

after_near : (p : Position) (words : List Word) → (after p words).address ≤ 65537
unfolding behind
after_near p words = omega arith

here_below : (top : ℕ) (s : Section) (index address : ℕ) → address ≤ top → Below top (label_at s index address)
here_below top section.Code index address h = tt
here_below top section.Data index address h = h

front_below : (words : List Word) (labels : Labels) (l : Label) (top : ℕ) → Below top l → All (BelowEntry top) labels
    → All (BelowEntry top) (define_front labels l words)
front_below (Name name ∷ Colon ∷ words) labels l top h all =
    front_below words (define labels l name) l top h (define_fits (Below top) labels l name all (λ e. h))
front_below _ labels l top h all = all

labels_below : (lines : List (List ℕ)) (p : Position) (labels : Labels) (top : ℕ) → p.address ≤ 65537 → (position_at_end p lines).address ≤ top
    → All (BelowEntry top) labels → All (BelowEntry top) (labels_from p labels lines)
labels_below [] p labels top near h all = all
labels_below (line ∷ lines) p labels top near h all =
    let rises = address_rises (line ∷ lines) p near in
    labels_below lines (after p (line_words line)) (with_labels p labels (line_words line)) top (after_near p (line_words line)) h
    (front_below (line_words line) labels (label_here p) top (here_below top p.section p.index p.address (omega (arith, rises, h))) all)

-- labels of a faultless text are near
word_at_label : (labels : Labels) (count : ℕ) (l : Label) → NamedFits labels count l → IsWord (value_at l)
word_at_label labels count (label.Code i) h = tt
word_at_label labels count (label.Data a) h = omega (arith, h)

near_words : (labels : Labels) (count : ℕ) → LabelsFit count labels → Words labels IsWord
unfolding any_label
near_words labels count fit = record {
  number = λ w h. h;
  named = λ name l e. word_at_label labels count l
      (was_read (NamedFits labels count) (any_label labels name) l (any_fits labels name count UndefinedLabel fit) e);
}

all_both : (labels : Labels) → All GoodEntry labels → All (λ (p : List ℕ × Label). length p.0 ≤ 200) labels
    → All (λ (p : List ℕ × Label). IsLabelName p.0) labels
all_both [] h k = All-nil (λ (p : List ℕ × Label). IsLabelName p.0)
all_both (e ∷ labels) h k =
    let good = All-head GoodEntry e labels h in
    All-cons (λ (p : List ℕ × Label). IsLabelName p.0) e labels
    (record { spelled = good.0; undotted = good.1; short = All-head (λ (p : List ℕ × Label). length p.0 ≤ 200) e labels k })
    (all_both labels (All-tail GoodEntry e labels h) (All-tail (λ (p : List ℕ × Label). length p.0 ≤ 200) e labels k))

all_within : (labels : Labels) (count top : ℕ) → top ≡ 256 + count → All (BelowEntry top) labels → All (λ (p : List ℕ × Label). IsWithin count p.1) labels
all_within [] count top e h = All-nil (λ (p : List ℕ × Label). IsWithin count p.1)
all_within (x ∷ labels) count top e h =
    All-cons (λ (p : List ℕ × Label). IsWithin count p.1) x labels (one_within x.1 (All-head (BelowEntry top) x labels h))
    (all_within labels count top e (All-tail (BelowEntry top) x labels h))
  where
    one_within : (l : Label) → Below top l → IsWithin count l
    one_within (label.Code i) h = tt
    one_within (label.Data a) h = omega (arith, e, h)

-- a text without faults
module _ (low end : ℕ) (text : List ℕ) (least : 256 ≤ low) (order : low ≤ end) (most : end ≤ 65536) (none : text_fault low end text ≡ None) where
  abbrev lines : List (List ℕ)
  lines = lines_of text

  abbrev labels : Labels
  labels = labels_from (start low) [] lines

  clear : first_fault labels end (start low) [] 1 lines ≡ None
  unfolding text_fault text_labels
  clear = none

  fit : LabelsFit (position_at_end (start low) lines).index labels
  fit = labels_fit labels end lines (start low) [] 1 most least clear
      (All-nil (λ (p : List ℕ × Label). LabelFits (position_at_end (start low) lines).index p.1))

  words_near : Words labels IsWord
  words_near = near_words labels (position_at_end (start low) lines).index fit

  pub sound : IsSayable (source_of low text)
  unfolding source_of text_effects text_labels
  sound = record {
    registers = statements_have labels NamesRegisters (names_registers labels) (start low) 1 lines;
    words = lines_are labels NamesRegisters (names_registers labels) IsWord words_near (start low) 1 lines;
    names = names_good lines (start low) [] (All-nil GoodEntry);
  }

-- the canonical text of what a text without faults reads as
module _ (text : List ℕ) (none : text_fault DATA_BASE DATA_END text ≡ None)
    (short : All (λ (p : List ℕ × Label). length p.0 ≤ 200) (source_of DATA_BASE text).labels) where
  ends : let s = source_of DATA_BASE text in 256 + length s.user_data ≡ (position_at_end (start 256) (lines_of text)).address
  unfolding source_of text_effects text_labels text_fault
  ends = (lines_fit (labels_from (start 256) [] (lines_of text)) 65536 (start 256) (lines_of text) none (omega arith) (omega arith) (omega arith)).words

  below : All (BelowEntry (position_at_end (start 256) (lines_of text)).address) (source_of DATA_BASE text).labels
  unfolding source_of text_labels
  below = labels_below (lines_of text) (start 256) [] (position_at_end (start 256) (lines_of text)).address (omega arith) (omega arith)
      (All-nil (BelowEntry (position_at_end (start 256) (lines_of text)).address))

  pub printable : IsPrintable (source_of DATA_BASE text)
  printable =
      let s = source_of DATA_BASE text in
      let own = sound 256 65536 text (omega arith) (omega arith) (omega arith) none in
      record {
        source = faultless_source 256 65536 text (omega arith) (omega arith) (omega arith) none;
        registers = own.registers;
        words = own.words;
        names = all_both s.labels own.names short;
        within = all_within s.labels (length s.user_data) (position_at_end (start 256) (lines_of text)).address (sym ends) below;
      }

  pub reads_back : ReadsBack (source_of DATA_BASE text)
  reads_back = printed_reads (source_of DATA_BASE text) printable
