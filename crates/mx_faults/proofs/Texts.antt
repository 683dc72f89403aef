-- The faulty lines of a text, as a walk over its lines finds them.
use Rattle.std.proofs.Common.{◌≡◌, ℕ, zero, suc, ◌+◌, ◌≤◌, ◌<◌, List, [], ◌∷◌, ◌++◌, length, take, get_or, Option, Some, None, refl, ap, sym, ◌∙◌, arith, append_assoc, length-append}
use Rattle.std.specs.Prelude.{filter_map}
use Rattle.std.specs.List.{range_with_len, cons_option}
use Rattle.std.proofs.Math.Seq.{take-append_seam, get_or-append_seam}
use Rattle.mx_lex.specs.Lines.{lines_of}
use Rattle.mx_lines.specs.declared.fault.Fault.{Fault}
use Rattle.mx_asm.specs.declared.position.Position.{Position}
use Rattle.mx_lines.specs.Instructions.{Labels}
use Rattle.mx_asm.specs.Positions.{after, with_labels, line_words, start, position_at_end, labels_from}
use Rattle.mx_asm.specs.Faults.{line_fault, first_fault, found_or}
use Rattle.mx_asm.specs.Texts.{text_labels, text_fault}
use Rattle.mx_faults.specs.Holding.{least_of, line_at}
use Rattle.mx_faults.specs.Found.{faulty_at, faults_in, first}
use Rattle.mx_faults.specs.Walking.{with_number, walked}
use Rattle.mx_faults.proofs.Lines.{line_is}

first_or : (number : ℕ) (o : Option Fault) (later : List (ℕ × Fault)) → first (cons_option (with_number number o) later) ≡ found_or number o (first later)
first_or number None later = refl
first_or number (Some fault) later = refl

pub first_walked : (labels : Labels) (end : ℕ) (p : Position) (earlier : Labels) (number : ℕ) (lines : List (List ℕ))
    → first_fault labels end p earlier number lines ≡ first (walked labels end p earlier number lines)
first_walked labels end p earlier number [] = refl
first_walked labels end p earlier number (line ∷ lines) =
    ap (found_or number (line_fault labels end p earlier line))
    (first_walked labels end (after p (line_words line)) (with_labels p earlier (line_words line)) (number + 1) lines)
    ∙ sym (first_or number (line_fault labels end p earlier line)
    (walked labels end (after p (line_words line)) (with_labels p earlier (line_words line)) (number + 1) lines))

pub position_more : (lines : List (List ℕ)) (line : List ℕ) (p : Position)
    → position_at_end p (lines ++ line ∷ []) ≡ after (position_at_end p lines) (line_words line)
position_more [] line p = refl
position_more (first ∷ lines) line p = position_more lines line (after p (line_words first))

pub labels_more : (lines : List (List ℕ)) (line : List ℕ) (p : Position) (labels : Labels)
    → labels_from p labels (lines ++ line ∷ []) ≡ with_labels (position_at_end p lines) (labels_from p labels lines) (line_words line)
labels_more [] line p labels = refl
labels_more (first ∷ lines) line p labels = labels_more lines line (after p (line_words first)) (with_labels p labels (line_words first))

take_front : (front rest : List (List ℕ)) → take (length front) (front ++ rest) ≡ front
take_front front rest = take-append_seam front rest

at_front : (front : List (List ℕ)) (line : List ℕ) (rest : List (List ℕ)) → get_or (front ++ line ∷ rest) (length front) [] ≡ line
at_front front line rest = get_or-append_seam front line rest []

module _ (low end : ℕ) (all : List (List ℕ)) (little : low ≤ 65537) (within : end ≤ 65536) where
  abbrev labels : Labels
  labels = labels_from (start low) [] all

  own : (front : List (List ℕ)) (line : List ℕ) (rest : List (List ℕ)) → all ≡ front ++ line ∷ rest
      → line_fault labels end (position_at_end (start low) front) (labels_from (start low) [] front) line ≡ least_of (line_at low end all (length front))
  own front line rest e =
      line_is low end all front line little within
      ∙ ap (λ (q : List (List ℕ)). least_of (record { low = low; end = end; all = all; before = q; line = line }))
      (sym (take_front front (line ∷ rest)) ∙ ap (take (length front)) (sym e))
      ∙ ap (λ (q : List ℕ). least_of (record { low = low; end = end; all = all; before = take (length front) all; line = q }))
      (sym (at_front front line rest) ∙ ap (λ (ls : List (List ℕ)). get_or ls (length front) []) (sym e))

  pub walk_is : (rest front : List (List ℕ)) → all ≡ front ++ rest
      → walked labels end (position_at_end (start low) front) (labels_from (start low) [] front) (length front + 1) rest ≡ filter_map (faulty_at low end all)
      (range_with_len (length front) (length rest))
  walk_is [] front e = refl
  walk_is (line ∷ rest) front e =
      let p = position_at_end (start low) front in
      let earlier = labels_from (start low) [] front in
      let more = walk_is rest (front ++ line ∷ []) (e ∙ sym (append_assoc front (line ∷ []) rest)) in
      let longer : length (front ++ line ∷ []) ≡ length front + 1 = length-append front (line ∷ []) in
      ap (λ o. cons_option (with_number (length front + 1) o)
      (walked labels end (after p (line_words line)) (with_labels p earlier (line_words line)) (length front + 1 + 1) rest)) (own front line rest e)
      ∙ ap (cons_option (faulty_at low end all (length front)))
      (ap (λ q. walked labels end q (with_labels p earlier (line_words line)) (length front + 1 + 1) rest) (sym (position_more front line (start low)))
      ∙ ap (λ q. walked labels end (position_at_end (start low) (front ++ line ∷ [])) q (length front + 1 + 1) rest)
      (sym (labels_more front line (start low) []))
      ∙ ap (λ n. walked labels end (position_at_end (start low) (front ++ line ∷ [])) (labels_from (start low) [] (front ++ line ∷ [])) (n + 1) rest)
      (sym longer)
      ∙ more
      ∙ ap (λ n. filter_map (faulty_at low end all) (range_with_len n (length rest))) longer)

-- all lines that the walk over a text finds
pub walk_finds : (low end : ℕ) (text : List ℕ) → low ≤ 65537 → end ≤ 65536
    → walked (text_labels low text) end (start low) [] 1 (lines_of text) ≡ faults_in low end text
unfolding text_labels
walk_finds low end text little within = walk_is low end (lines_of text) little within (lines_of text) [] refl

-- the first faulty line of a text
pub first_is : (low end : ℕ) (text : List ℕ) → low ≤ 65537 → end ≤ 65536 → text_fault low end text ≡ first (faults_in low end text)
unfolding text_fault
first_is low end text little within =
    first_walked (text_labels low text) end (start low) [] 1 (lines_of text) ∙ ap first (walk_finds low end text little within)

-- the faulty lines of the lines of a text, by its labels
pub found_is : (low end : ℕ) (text : List ℕ) (labels : Labels) (lines : List (List ℕ)) → low ≤ 65537 → end ≤ 65536
    → labels ≡ labels_from (start low) [] (lines_of text) → lines ≡ lines_of text
    → walked labels end (start low) [] 1 lines ≡ faults_in low end text
found_is low end text own lines little within defined same =
    ap (λ q. walked q end (start low) [] 1 lines) defined
    ∙ ap (λ ls. walked (labels_from (start low) [] (lines_of text)) end (start low) [] 1 ls) same
    ∙ walk_is low end (lines_of text) little within (lines_of text) [] refl

pub first_take : (n : ℕ) (xs : List (ℕ × Fault)) → 0 < n → first (take n xs) ≡ first xs
first_take zero xs h = absurd (omega arith)
first_take (suc n) [] h = refl
first_take (suc n) (x ∷ xs) h = refl
