-- The words of all data leave the section as it is.
use Rattle.std.proofs.Common.{◌≡◌, ℕ, ◌+◌, ◌-◌, ◌*◌, ◌^◌, ◌<◌, Bool, true, false, cond, ◌||◌, ◌&&◌, List, [], ◌∷◌, ◌++◌, drop, Option, Some, None, zero, suc, refl, sym, ap, ◌∙◌, subst, arith, decimal, append_assoc}
use Rattle.std.specs.Prelude.{All, codes, ◌==◌, min, slice_get, option_map, unwrap_or}
use Rattle.std.specs.Char.{is_digit}
use Rattle.std.specs.List.{list_all}
use Rattle.std.proofs.lemmas.List.{append-nil}
use Rattle.std.proofs.lemmas.List.Elements.{All-head, All-tail, All-drop}
use Rattle.mx_lex.specs.Bytes.{begins_name, continues_name}
use Rattle.mx_asm.specs.Printable.{is_name}
use Rattle.mx_asm.proofs.Spelled.{and_both}
use Rattle.cc_program.specs.declared.item.Object.{Object}
use Rattle.cc_program.specs.declared.program.Program.{Program}
use Rattle.cc_rules.specs.Numbers.{words_with}
use Rattle.cc_emit.specs.declared.words.Said.{Said}
use Rattle.cc_emit.specs.declared.words.Writing.{Writing}
use Rattle.cc_emit.specs.declared.words.Writing.TheVariants.{Nothing, Zeros, Words}
use Rattle.cc_emit.specs.Images.{DataImage, byte_at, first_word, is_descriptor, object_label, datum_label, space_line, ended, zero_front, zero_after, front_of, line_with, word_front, word_after, may_share, name_text, word_text, after_word, begin_text, after_begin, said_text, after_said, image_text}
use Rattle.cc_emit.specs.Names.{symbol_text}
use Rattle.cc_emit.specs.Sources.{words_text}
use Rattle.law_emit.specs.Lines.{Stays, PlaceFits, ObjectFits, BeginFits, SaidFits}
use Rattle.law_emit.proofs.DataLines.{nothing_stays, both_stay, Value, number_value, name_value, Row, new_row, add_row, row_stays, space_stays, label_stays}
use Rattle.law_emit.proofs.Names.{name_goes_on}

-- what is written of a line that is not ended
abbrev Pending : Writing → List ℕ → Type 0
Pending Nothing line = line ≡ []
Pending (Zeros count) line = (line ≡ []) × (count < 2 ^ 32)
Pending (Words count) line = Row line

-- a text after what is pending: lines that are done, and what is pending then
record Moved (line text : List ℕ) (later : Writing) : Type 0 where
  done : List ℕ
  kept : List ℕ
  cut : line ++ text ≡ done ++ kept
  stays : Stays done
  pending : Pending later kept

abbrev Step : Writing → List ℕ → Writing → Type 0
Step earlier text later = (line : List ℕ) → Pending earlier line → Moved line text later

two_steps : (a b c : Writing) (t u : List ℕ) → Step a t b → Step b u c → Step a (t ++ u) c
two_steps a b c t u f g line h =
    let one = f line h in
    let two = g one.kept one.pending in
    record {
      done = one.done ++ two.done;
      kept = two.kept;
      cut = sym (append_assoc line t u) ∙ ap (λ x. x ++ u) one.cut ∙ append_assoc one.done one.kept u ∙ ap (λ x. one.done ++ x) two.cut
          ∙ sym (append_assoc one.done two.done two.kept);
      stays = both_stay one.done two.done one.stays two.stays;
      pending = two.pending;
    }

whole_step : (text : List ℕ) → Stays text → Step Nothing text Nothing
whole_step text s line h = record { done = text; kept = []; cut = ap (λ t. t ++ text) h ∙ sym (append-nil text); stays = s; pending = refl }

row_step : (count : ℕ) → Step (Words count) (codes "\n") Nothing
row_step count line h = record {
  done = line ++ codes "\n";
  kept = [];
  cut = sym (append-nil (line ++ codes "\n"));
  stays = row_stays line h;
  pending = refl;
}

ended_step : (w : Writing) → Step w (ended w) Nothing
ended_step Nothing line h = record { done = []; kept = line; cut = append-nil line; stays = nothing_stays; pending = h }
ended_step (Zeros count) line h = whole_step (space_line count) (space_stays count h.1) line h.0
ended_step (Words count) line h = row_step count line h

-- a word of 0
zero_step : (w : Writing) → Step w (zero_front w) (zero_after w)
zero_step Nothing line h =
    let small : 1 < 2 ^ 32 = omega arith in
    record { done = []; kept = line; cut = append-nil line; stays = nothing_stays; pending = (h, small) }
zero_step (Zeros count) line h =
    let small : min (count + 1) (2 ^ 32 - 1) < 2 ^ 32 = omega arith in
    record { done = []; kept = line; cut = append-nil line; stays = nothing_stays; pending = (h.0, small) }
zero_step (Words count) line h =
    let small : 1 < 2 ^ 32 = omega arith in
    record { done = line ++ codes "\n"; kept = []; cut = sym (append-nil (line ++ codes "\n")); stays = row_stays line h; pending = (refl, small) }

-- another word
new_step : (text : List ℕ) → Value text → Step Nothing (codes "        .word " ++ text) (Words 1)
new_step text v line h = record {
  done = [];
  kept = codes "        .word " ++ text;
  cut = ap (λ t. t ++ (codes "        .word " ++ text)) h;
  stays = nothing_stays;
  pending = new_row text v;
}

more_step : (count more : ℕ) (text : List ℕ) → Value text → Step (Words count) (codes "," ++ text) (Words more)
more_step count more text v line h = record {
  done = [];
  kept = line ++ (codes "," ++ text);
  cut = refl;
  stays = nothing_stays;
  pending = add_row line text h v;
}

ended_then : (w : Writing) (text : List ℕ) → Value text → Step w (ended w ++ codes "        .word " ++ text) (Words 1)
ended_then w text v line h =
    subst (λ t. Moved line t (Words 1)) (sym (append_assoc (ended w) (codes "        .word ") text))
    (two_steps w Nothing (Words 1) (ended w) (codes "        .word " ++ text) (ended_step w) (new_step text v) line h)

value_step : (w : Writing) (text : List ℕ) → Value text → Step w (word_front w ++ text) (word_after w)
value_step Nothing text v = ended_then Nothing text v
value_step (Zeros count) text v = ended_then (Zeros count) text v
value_step (Words count) text v = by_room (words_with count)
  where
    by_room : (o : Option ℕ) → Step (Words count) (front_of o (Words count) ++ text) (line_with o)
    by_room (Some n) = more_step count n text v
    by_room None = ended_then (Words count) text v

word_step : (p : Program) (w : Writing) (place : Option ℕ) (word : ℕ) → PlaceFits p place → word < 2 ^ 32
    → Step w (word_text p w place word) (after_word p w place word)
word_step p w (Some symbol) word h small = by_share (may_share p symbol)
  where
    v : Value (symbol_text p.symbols.list.items symbol)
    v = name_value (symbol_text p.symbols.list.items symbol) h

    by_share : (t : Bool)
        → Step w (cond t (name_text p w symbol) (ended w ++ name_text p Nothing symbol ++ codes "\n")) (cond t (word_after w) Nothing)
    by_share true = value_step w (symbol_text p.symbols.list.items symbol) v
    by_share false =
        two_steps w (Words 1) Nothing (ended w ++ name_text p Nothing symbol) (codes "\n")
        (two_steps w Nothing (Words 1) (ended w) (name_text p Nothing symbol) (ended_step w) (value_step Nothing (symbol_text p.symbols.list.items symbol) v))
        (row_step 1)
word_step p w None word h small = by_zero (word == 0)
  where
    by_zero : (t : Bool) → Step w (cond t (zero_front w) (word_front w ++ decimal word)) (cond t (zero_after w) (word_after w))
    by_zero true = zero_step w
    by_zero false = value_step w (decimal word) (number_value word small)

-- the label of a datum
name_continues : (name : List ℕ) → is_name name ≡ true → list_all continues_name name ≡ true
name_continues [] h = refl
name_continues (b ∷ bytes) h =
    let both = and_both (begins_name b) (list_all continues_name bytes) h in
    continued b bytes both.0 both.1
  where
    either : (x y : Bool) → x ≡ true → (x || y) ≡ true
    either true y k = refl
    either false y k = cc

    continued : (b : ℕ) (bytes : List ℕ) → begins_name b ≡ true → list_all continues_name bytes ≡ true → list_all continues_name (b ∷ bytes) ≡ true
    continued b bytes k j = ap (λ t. t && list_all continues_name bytes) (either (begins_name b) (is_digit b 10) k) ∙ j

object_stays : (p : Program) (object : Object) → is_name (symbol_text p.symbols.list.items object.symbol) ≡ true → Stays (object_label p object)
object_stays p object h = by_place (is_descriptor p object)
  where
    name : List ℕ
    name = symbol_text p.symbols.list.items object.symbol

    by_place : (t : Bool) → Stays (cond t (codes "d.") [] ++ name ++ codes ":\n")
    by_place true = label_stays (codes "d." ++ name) (name_goes_on (codes "d.") name refl (name_continues name h))
    by_place false = label_stays name h

datum_stays : (p : Program) (o : Option Object) → ObjectFits p o → Stays (unwrap_or (option_map (object_label p) o) [])
datum_stays p None h = nothing_stays
datum_stays p (Some object) h = object_stays p object h

begin_step : (p : Program) (w : Writing) (begins : Option ℕ) → BeginFits p begins → Step w (begin_text p w begins) (after_begin w begins)
begin_step p w None h line k = record { done = []; kept = line; cut = append-nil line; stays = nothing_stays; pending = k }
begin_step p w (Some number) h line k =
    two_steps w Nothing Nothing (ended w) (datum_label p number) (ended_step w)
    (whole_step (datum_label p number) (datum_stays p (slice_get p.objects.items number) h)) line k

-- bytes make a word
abbrev Bytes : List ℕ → Type 0
Bytes bytes = All (λ b. b < 256) bytes

byte_small : (bytes : List ℕ) (at : ℕ) → Bytes bytes → byte_at bytes at < 256
byte_small [] at h = omega arith
byte_small (b ∷ bytes) zero h = All-head (λ b. b < 256) b bytes h
byte_small (b ∷ bytes) (suc at) h = byte_small bytes at (All-tail (λ b. b < 256) b bytes h)

word_small : (bytes : List ℕ) → Bytes bytes → first_word bytes < 2 ^ 32
word_small bytes h = four (byte_at bytes 0) (byte_at bytes 1) (byte_at bytes 2) (byte_at bytes 3) (byte_small bytes 0 h) (byte_small bytes 1 h)
    (byte_small bytes 2 h) (byte_small bytes 3 h)
  where
    four : (a b c d : ℕ) → a < 256 → b < 256 → c < 256 → d < 256 → (a * 256 + b) * 65536 + (c * 256 + d) < 2 ^ 32
    four a b c d h i j k = omega arith

said_step : (p : Program) (w : Writing) (said : Said) (word : ℕ) → SaidFits p said → word < 2 ^ 32
    → Step w (said_text p w said word) (after_said p w said word)
said_step p w said word h small =
    two_steps w (after_begin w said.begins) (after_said p w said word) (begin_text p w said.begins) (word_text p (after_begin w said.begins) said.place word)
    (begin_step p w said.begins h.1) (word_step p (after_begin w said.begins) said.place word h.0 small)

image_step : (p : Program) (said : List Said) (bytes : List ℕ) (w : Writing) → All (SaidFits p) said → Bytes bytes
    → Step w (image_text p bytes w said) Nothing
image_step p [] bytes w fits small = ended_step w
image_step p (one ∷ said) bytes w fits small =
    let word = first_word bytes in
    let next = after_said p w one word in
    two_steps w next Nothing (said_text p w one word) (image_text p (drop 4 bytes) next said)
    (said_step p w one word (All-head (SaidFits p) one said fits) (word_small bytes small))
    (image_step p said (drop 4 bytes) next (All-tail (SaidFits p) one said fits) (All-drop (λ b. b < 256) 4 bytes small))

pub words_stay : (p : Program) (image : DataImage) → All (SaidFits p) image.said → All (λ b. b < 256) image.bytes → Stays (words_text p image)
words_stay p image fits small =
    let moved = image_step p image.said image.bytes Nothing fits small [] refl in
    let same = moved.cut ∙ ap (λ t. moved.done ++ t) moved.pending ∙ append-nil moved.done in
    subst (λ t. Stays t) (sym same) moved.stays
