-- The first bytes of a line, and the lines that are shown.
use Rattle.std.proofs.Common.{◌≡◌, ℕ, ◌+◌, ◌-◌, ◌≤◌, ◌<◌, List, [], ◌∷◌, ◌++◌, length, take, drop, map, get_or, inl, inr, refl, ap, sym, ◌∙◌, arith}
use Rattle.std.specs.Prelude.{min, All}
use Rattle.std.proofs.lemmas.Bool.{cases_lt}
use Rattle.std.proofs.lemmas.List.{take_all, take-take, take-map, length-map, at_drop_more, append_assoc, get_or-map}
use Rattle.std.proofs.lemmas.List.Elements.{All-head, All-tail, All-take}
use Rattle.std.specs.Borrow.{Bor}
use Rattle.std.proofs.Math.ListN.{drop_of_length-le, get_or-eq_default}
use Rattle.mx_lines.specs.Words.{texts}
use Rattle.mx_lex.specs.Lines.{lines_of}
use Rattle.mx_faults.specs.declared.line_fault.LineFault.{LineFault}
use Rattle.mx_faults.specs.Found.{HasSpan, faults_in, numbered}
use Rattle.lab_faults.specs.Checked.{Shown, under, caret, marks, marks_to, shown_among, shown_in, shown_lines}

module _ {A : Type 0} (xs : List A) where
  pub take_within : (n k : ℕ) → k ≡ min n (length xs) → take k xs ≡ take n xs
  take_within n k e =
      elim (cases_lt n (length xs)) [
        | inl lt ↦ let same : k ≡ n = omega (arith, e, lt) in ap (λ m. take m xs) same
        | inr le ↦ let same : k ≡ length xs = omega (arith, e, le) in ap (λ m. take m xs) same ∙ take_all (length xs) xs (omega arith) ∙ sym (take_all n xs le)
      ]

  pub drop_within : (n k : ℕ) → k ≡ min n (length xs) → drop k xs ≡ drop n xs
  drop_within n k e =
      elim (cases_lt n (length xs)) [
        | inl lt ↦ let same : k ≡ n = omega (arith, e, lt) in ap (λ m. drop m xs) same
        | inr le ↦ let same : k ≡ length xs = omega (arith, e, le) in drop_of_length-le xs (omega (arith, same)) ∙ sym (drop_of_length-le xs le)
      ]

-- one more in a loop that puts down what a list gives
pub push_more : {A B : Type 0} (f : A → B) (out out' : List B) (xs : List A) (i : ℕ) (d : A) (y : B)
    → i < length xs → out' ≡ out ++ y ∷ [] → y ≡ f (get_or xs i d)
    → out' ++ map f (drop (i + 1) xs) ≡ out ++ map f (drop i xs)
push_more f out out' xs i d y lt e is =
    ap (λ m. m ++ map f (drop (i + 1) xs)) e
    ∙ append_assoc out (y ∷ []) (map f (drop (i + 1) xs))
    ∙ ap (λ z. out ++ z ∷ map f (drop (i + 1) xs)) is
    ∙ ap (λ zs. out ++ zs) (sym (at_drop_more (map f) xs i d lt))

-- the marks, where the bytes before the token and the token are told
pub marks_are : (start k : ℕ) (bytes before token first all : List ℕ) → k ≡ min start (length bytes) → before ≡ take k bytes → token ≡ drop k bytes
    → first ≡ map under before → all ≡ first ++ map caret token → all ≡ marks_to start bytes
marks_are start k bytes before token first all at front back e f =
    f
    ∙ ap (λ m. m ++ map caret token) (e ∙ ap (map under) (front ∙ take_within bytes start k at))
    ∙ ap (λ t. map under (take start bytes) ++ map caret t) (back ∙ drop_within bytes start k at)

-- lines that were found are shown as those of the text
shown_same : (text : List ℕ) (found : List LineFault) → All (HasSpan 256 65536 text) found
    → map (shown_among (lines_of text)) found ≡ map (shown_in text) (map numbered found)
shown_same text [] all = refl
shown_same text (f ∷ found) all =
    let line = get_or (lines_of text) (f.line - 1) [] in
    ap (λ s. (record { line = f.line; fault = f.fault; text = line; marks = marks line s }) ∷ map (shown_among (lines_of text)) found)
    (All-head (HasSpan 256 65536 text) f found all)
    ∙ ap (λ (ss : List Shown). shown_in text (numbered f) ∷ ss) (shown_same text found (All-tail (HasSpan 256 65536 text) f found all))

pub shown_are : (n : ℕ) (text : List ℕ) (lines : List (List ℕ)) (found first : List LineFault) (shown : List Shown) → n ≤ 4194304 → lines ≡ lines_of text
    → map numbered found ≡ take 4194304 (faults_in 256 65536 text) → All (HasSpan 256 65536 text) found → first ≡ take n found
    → shown ≡ map (shown_among lines) first → shown ≡ shown_lines n text
shown_are n text lines found first shown le same numbers spans front e =
    e
    ∙ ap (λ (ls : List (List ℕ)). map (shown_among ls) first) same
    ∙ ap (map (shown_among (lines_of text))) front
    ∙ shown_same text (take n found) (All-take (HasSpan 256 65536 text) n found spans)
    ∙ ap (map (shown_in text)) (sym (take-map numbered n found) ∙ ap (take n) numbers ∙ take-take n 4194304 (faults_in 256 65536 text) le)

pub count_is : (text : List ℕ) (found : List LineFault)
    → map numbered found ≡ take 4194304 (faults_in 256 65536 text) → length found ≡ length (take 4194304 (faults_in 256 65536 text))
count_is text found numbers = sym (length-map found numbered) ∙ ap length numbers

-- the line with a number
pub line_there : (lines : List (Bor (List ℕ))) (number place : ℕ) (d : Bor (List ℕ))
    → place ≡ number - 1 → place < length lines → (get_or lines place d).now ≡ get_or (texts lines) (number - 1) []
line_there lines number place d e lt = sym (get_or-map (λ (line : Bor (List ℕ)). line.now) lines place d [] lt) ∙ ap (λ k. get_or (texts lines) k []) e

pub line_beyond : (lines : List (Bor (List ℕ))) (number place : ℕ) → place ≡ number - 1 → length lines ≤ place → [] ≡ get_or (texts lines) (number - 1) []
line_beyond lines number place e le =
    sym (get_or-eq_default (texts lines) [] (omega (arith, e, le, length-map lines (λ (line : Bor (List ℕ)). line.now))))
