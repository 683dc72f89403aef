-- The fault of a line by the one that it has alone.
use Rattle.std.proofs.Common.{◌≡◌, ℕ, ◌+◌, ◌≤◌, ◌<◌, ◌||◌, List, [], ◌∷◌, ◌++◌, length, take, drop, get_or, Bor, cond, Bool, true, false, Option, Some, None, refl, ap, sym, ◌∙◌, subst, append_assoc}
use Rattle.std.specs.Prelude.{is_err, nat_lt}
use Rattle.std.specs.List.{list_any, cons_option}
use Rattle.std.proofs.lemmas.Bool.{false≢true}
use Rattle.std.proofs.lemmas.List.{append-nil, at_drop_more, take_all}
use Rattle.std.proofs.Math.Seq.{take-append_seam}
use Rattle.mx_lex.specs.Tokens.{tokens_of}
use Rattle.mx_lines.specs.declared.fault.Fault.{Fault}
use Rattle.mx_lines.specs.declared.fault.Fault.TheVariants as f
use Rattle.mx_asm.specs.declared.position.Position.{Position}
use Rattle.mx_lines.specs.Words.{Word, texts, has_bad_byte as has_bad}
use Rattle.mx_lines.specs.Instructions.{Labels}
use Rattle.mx_asm.specs.Positions.{front_names, has_dotted_label, after, with_labels, label_here, line_words}
use Rattle.mx_asm.specs.Faults.{place_fault, repeats, line_fault, found_or}
use Rattle.mx_faults.specs.Forms.{form, operands, is_no_register, is_outside, is_undefined, is_wrong_kind, moves_chain}
use Rattle.mx_faults.specs.Before.{statement, has_twice}
use Rattle.mx_faults.specs.Holding.{is_unknown, is_misshapen, is_system, is_misplaced}
use Rattle.mx_faults.specs.Walking.{kind_by, with_number, walked, settled, at_front}
use Rattle.mx_faults.proofs.Walks.{known, undotted, repeats_is}
use Rattle.mx_faults.proofs.Lines.{least_of_twelve, parts_are, many, full}

abbrev fourteen : (b1 b2 b3 b4 b5 b6 b7 b8 b9 b10 b11 b12 b13 b14 : Bool) → Option Fault
fourteen b1 b2 b3 b4 b5 b6 b7 b8 b9 b10 b11 b12 b13 b14 =
    cond b1 (Some f.BadByte) (cond b2 (Some f.BadToken) (least_of_twelve b3 b4 b5 b6 b7 b8 b9 b10 b11 b12 b13 b14))

abbrev last_three : (b12 b13 b14 : Bool) → Option Fault
last_three b12 b13 b14 = cond b12 (Some f.TooManyInstructions) (cond b13 (Some f.DataFull) (cond b14 (Some f.LineTooLong) None))

-- a line's fault elsewhere differs only by the label that is defined again and by what its position gives
elsewhere : (b1 b2 b3 b4 b5 b6 a7 b7 b8 b9 b10 b11 a12 a13 a14 b12 b13 b14 : Bool) → (a7 ≡ true → b7 ≡ true)
    → settled (fourteen b1 b2 b3 b4 b5 b6 a7 b8 b9 b10 b11 a12 a13 a14) b7 (last_three b12 b13 b14) ≡ fourteen b1 b2 b3 b4 b5 b6 b7 b8 b9 b10 b11 b12 b13 b14
elsewhere true b2 b3 b4 b5 b6 a7 b7 b8 b9 b10 b11 a12 a13 a14 b12 b13 b14 h = refl
elsewhere false true b3 b4 b5 b6 a7 b7 b8 b9 b10 b11 a12 a13 a14 b12 b13 b14 h = refl
elsewhere false false true b4 b5 b6 a7 b7 b8 b9 b10 b11 a12 a13 a14 b12 b13 b14 h = refl
elsewhere false false false true b5 b6 a7 b7 b8 b9 b10 b11 a12 a13 a14 b12 b13 b14 h = refl
elsewhere false false false false true b6 a7 b7 b8 b9 b10 b11 a12 a13 a14 b12 b13 b14 h = refl
elsewhere false false false false false true a7 b7 b8 b9 b10 b11 a12 a13 a14 b12 b13 b14 h = refl
elsewhere false false false false false false true true b8 b9 b10 b11 a12 a13 a14 b12 b13 b14 h = refl
elsewhere false false false false false false true false b8 b9 b10 b11 a12 a13 a14 b12 b13 b14 h = absurd (false≢true (h refl))
elsewhere false false false false false false false b7 true b9 b10 b11 a12 a13 a14 b12 b13 b14 h = refl
elsewhere false false false false false false false b7 false true b10 b11 a12 a13 a14 b12 b13 b14 h = refl
elsewhere false false false false false false false b7 false false true b11 a12 a13 a14 b12 b13 b14 h = refl
elsewhere false false false false false false false b7 false false false true a12 a13 a14 b12 b13 b14 h = refl
elsewhere false false false false false false false b7 false false false false true a13 a14 b12 b13 b14 h = refl
elsewhere false false false false false false false b7 false false false false false true a14 b12 b13 b14 h = refl
elsewhere false false false false false false false b7 false false false false false false true b12 b13 b14 h = refl
elsewhere false false false false false false false b7 false false false false false false false b12 b13 b14 h = refl

none_known : (names : List (List ℕ)) → list_any (known []) names ≡ false
none_known [] = refl
none_known (n ∷ names) = none_known names

or_later : (a b c : Bool) → a ≡ false → a || c ≡ true → b || c ≡ true
or_later true b c e h = absurd (false≢true (sym e))
or_later false true c e h = refl
or_later false false c e h = h

-- what repeats alone repeats anywhere
repeats_more : (q p : Position) (earlier : Labels) (words : List Word) → repeats q [] words ≡ true → repeats p earlier words ≡ true
repeats_more q p earlier words h =
    let names = undotted (front_names words) in
    repeats_is earlier (label_here p) words
    ∙ or_later (list_any (known []) names) (list_any (known earlier) names) (has_twice names) (none_known names)
    (sym (repeats_is [] (label_here q) words) ∙ h)

pub settled_is : (labels : Labels) (low end : ℕ) (p : Position) (earlier : Labels) (line : List ℕ)
    → settled (line_fault labels end (at_front p.section low) [] line) (repeats p earlier (line_words line))
    (place_fault end p (length line) (line_words line)) ≡ line_fault labels end p earlier line
settled_is labels low end p earlier line =
    let q = at_front p.section low in
    let of = form (statement line) in
    ap (λ o. settled o (repeats p earlier (line_words line)) (place_fault end p (length line) (line_words line))) (parts_are labels end q [] line)
    ∙ elsewhere (has_bad line) (is_err (tokens_of line)) (is_unknown of) (is_misshapen of) (list_any is_no_register (operands of))
    (list_any is_outside (operands of))
    (repeats q [] (line_words line)) (repeats p earlier (line_words line))
    (list_any (is_undefined (kind_by labels)) (operands of)) (list_any (is_wrong_kind (kind_by labels)) (operands of))
    (is_system of || list_any moves_chain (operands of))
    (is_misplaced p.section of || has_dotted_label (line_words line))
    (many labels end q [] line) (full labels end q [] line) (nat_lt 255 (length line)) (many labels end p earlier line) (full labels end p earlier line)
    (nat_lt 255 (length line))
    (repeats_more q p earlier (line_words line))
    ∙ sym (parts_are labels end p earlier line)

pub settled_by : (labels : Labels) (low end : ℕ) (p : Position) (earlier : Labels) (line : List ℕ) (result alone placed : Option Fault) (repeated : Bool)
    → result ≡ settled alone repeated placed
    → alone ≡ line_fault labels end (at_front p.section low) [] line → repeated ≡ repeats p earlier (line_words line)
    → placed ≡ place_fault end p (length line) (line_words line)
    → result ≡ line_fault labels end p earlier line
settled_by labels low end p earlier line result alone placed repeated e a r q =
    let first = line_fault labels end (at_front p.section low) [] line in
    let again = repeats p earlier (line_words line) in
    e
    ∙ ap (λ o. settled o repeated placed) a
    ∙ ap (λ b. settled first b placed) r
    ∙ ap (λ o. settled first again o) q
    ∙ settled_is labels low end p earlier line

-- the fault of the only line
pub only_none : (o : Option Fault) → found_or 1 o None ≡ None → o ≡ None
only_none None h = refl
only_none (Some fault) h = cc

pub only_some : (o : Option Fault) (line : ℕ) (fault : Fault) → found_or 1 o None ≡ Some (line, fault) → o ≡ Some fault
only_some None line fault h = cc
only_some (Some x) line fault h = let e : (1, x) ≡ (line, fault) = cc in ap (λ (p : ℕ × Fault). Some p.1) e

pub walked_step : (labels : Labels) (end : ℕ) (p : Position) (earlier : Labels) (number : ℕ) (lines : List (Bor (List ℕ))) (i : ℕ) (d : Bor (List ℕ))
    → i < length lines
    → walked labels end p earlier number (texts (drop i lines))
    ≡ cons_option (with_number number (line_fault labels end p earlier (get_or lines i d).now))
    (walked labels end (after p (line_words (get_or lines i d).now)) (with_labels p earlier (line_words (get_or lines i d).now)) (number + 1)
    (texts (drop (i + 1) lines)))
walked_step labels end p earlier number lines i d lt = at_drop_more (λ ls. walked labels end p earlier number (texts ls)) lines i d lt

pub push_option : (xs : List (ℕ × Fault)) (o : Option (ℕ × Fault)) (ys : List (ℕ × Fault)) → (xs ++ cons_option o []) ++ ys ≡ xs ++ cons_option o ys
push_option xs None ys = append_assoc xs [] ys
push_option xs (Some x) ys = append_assoc xs (x ∷ []) ys

-- a front of the right length
pub front_is : {A : Type 0} (xs ys zs : List A) (n : ℕ) → xs ++ ys ≡ zs → length xs ≡ n → xs ≡ take n zs
front_is xs ys zs n e h = sym (ap (λ l. take n l) (sym e) ∙ ap (λ k. take k (xs ++ ys)) (sym h) ∙ take-append_seam xs ys)

-- all that was found, where it is not too many
pub all_is : {A : Type 0} (xs zs : List A) (n : ℕ) → xs ++ [] ≡ zs → length xs ≤ n → xs ≡ take n zs
all_is xs zs n e h =
    let same = sym (append-nil xs) ∙ e in
    same ∙ sym (take_all n zs (subst (λ l. length l ≤ n) same h))
