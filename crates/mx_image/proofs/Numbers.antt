-- Numbers of bytes, and the bytes of numbers.
use Rattle.std.proofs.Common.{◌≡◌, ℕ, zero, suc, ◌+◌, ◌*◌, ◌/◌, ◌%◌, ◌^◌, ◌<◌, List, [], ◌∷◌, ◌++◌, length, take, drop, get_or, refl, sym, ap, ◌∙◌, arith, All}
use Rattle.std.proofs.lemmas.List.{take_more, drop-drop, drop_at, append-nil}
use Rattle.std.proofs.lemmas.Grind.{flat_map-append}
use Rattle.mx_image.specs.Bytes.{word_bytes, words_bytes, number_in, numbers}

-- one more word
pub words_bytes-take : (ws : List ℕ) (i : ℕ) → i < length ws → words_bytes (take (i + 1) ws) ≡ words_bytes (take i ws) ++ word_bytes (get_or ws i 0)
words_bytes-take ws i h = rw (take_more ws i 0 h, flat_map-append, append-nil) refl

-- one more number
pub numbers-more : (k : ℕ) (bs : List ℕ) → numbers (k + 1) bs ≡ numbers k bs ++ number_in (drop (4 * k) bs) ∷ []
numbers-more zero bs = refl
numbers-more (suc k) bs =
    let e : suc k + 1 ≡ suc (k + 1) = omega arith in
    let d : drop (4 * k) (drop 4 bs) ≡ drop (4 * suc k) bs = drop-drop (4 * k) 4 bs ∙ ap (λ m. drop m bs) (let s : 4 + 4 * k ≡ 4 * suc k = omega arith in s) in
    ap (λ m. numbers m bs) e ∙ ap (λ xs. number_in bs ∷ xs) (numbers-more k (drop 4 bs) ∙ ap (λ xs. numbers k (drop 4 bs) ++ number_in xs ∷ []) d)

pub length-numbers : (k : ℕ) (bs : List ℕ) → length (numbers k bs) ≡ k
length-numbers zero bs = refl
length-numbers (suc k) bs = let h = length-numbers k (drop 4 bs) in omega (arith, h)

-- a word from its bytes
pub number-word : (w : ℕ) (rest : List ℕ) → w < 2 ^ 32 → number_in (word_bytes w ++ rest) ≡ w
number-word w rest h = omega arith

-- words from their bytes
pub numbers-words : (ws rest : List ℕ) → All (λ w. w < 2 ^ 32) ws → numbers (length ws) (words_bytes ws ++ rest) ≡ ws
numbers-words [] rest h = refl
numbers-words (w ∷ ws) rest h =
    ap (λ x. x ∷ numbers (length ws) (words_bytes ws ++ rest)) (number-word w (words_bytes ws ++ rest) (h 0 0 (omega arith)))
    ∙ ap (λ xs. w ∷ xs) (numbers-words ws rest (λ k d lt. h (suc k) d (omega arith)))

pub length-words : (ws : List ℕ) → length (words_bytes ws) ≡ 4 * length ws
length-words [] = refl
length-words (w ∷ ws) = let h = length-words ws in omega (arith, h)

-- the words after the first ones
pub drop-words : (ws us : List ℕ) (n : ℕ) → n ≡ length ws → drop (4 * n) (words_bytes (ws ++ us)) ≡ words_bytes us
drop-words ws us n e =
    ap (drop (4 * n)) (flat_map-append word_bytes ws us)
    ∙ drop_at (words_bytes ws) (words_bytes us) (4 * n) (length-words ws ∙ ap (λ m. 4 * m) (sym e))

-- a list of bytes
abbrev pub AreBytes : List ℕ → Type 0
AreBytes bs = (k : ℕ) → get_or bs k 0 < 256

-- four bytes from their number
word_of_four : (a b c d : ℕ) → a < 256 → b < 256 → c < 256 → d < 256 → word_bytes (a * 2 ^ 24 + b * 2 ^ 16 + c * 2 ^ 8 + d) ≡ a ∷ b ∷ c ∷ d ∷ []
word_of_four a b c d p q r s =
    let n : ℕ = a * 2 ^ 24 + b * 2 ^ 16 + c * 2 ^ 8 + d in
    let e : n / 2 ^ 24 % 256 ≡ a = omega arith in
    let f : n / 2 ^ 16 % 256 ≡ b = omega arith in
    let g : n / 2 ^ 8 % 256 ≡ c = omega arith in
    let h : n % 256 ≡ d = omega arith in
    cc

none_left : (bs : List ℕ) → length bs ≡ 0 → bs ≡ []
none_left [] h = refl
none_left (b ∷ bs) h = absurd (omega arith)

-- bytes from their numbers
pub words-numbers : (k : ℕ) (bs : List ℕ) → AreBytes bs → length bs ≡ 4 * k → words_bytes (numbers k bs) ≡ bs
words-numbers zero bs a h = sym (none_left bs (omega arith))
words-numbers (suc k) (b ∷ c ∷ d ∷ e ∷ bs) a h =
    ap (λ xs. xs ++ words_bytes (numbers k bs)) (word_of_four b c d e (a 0) (a 1) (a 2) (a 3))
    ∙ ap (λ xs. b ∷ c ∷ d ∷ e ∷ xs) (words-numbers k bs (λ i. a (suc (suc (suc (suc i))))) (omega arith))
words-numbers (suc k) [] a h = absurd (omega arith)
words-numbers (suc k) (b ∷ []) a h = absurd (omega arith)
words-numbers (suc k) (b ∷ c ∷ []) a h = absurd (omega arith)
words-numbers (suc k) (b ∷ c ∷ d ∷ []) a h = absurd (omega arith)

-- numbers in two parts
pub numbers-plus : (m n : ℕ) (bs : List ℕ) → numbers (m + n) bs ≡ numbers m bs ++ numbers n (drop (4 * m) bs)
numbers-plus zero n bs = ap (λ k. numbers k bs) (let e : 0 + n ≡ n = omega arith in e)
numbers-plus (suc m) n bs =
    let e : suc m + n ≡ suc (m + n) = omega arith in
    let d : drop (4 * m) (drop 4 bs) ≡ drop (4 * suc m) bs = drop-drop (4 * m) 4 bs ∙ ap (λ k. drop k bs) (let s : 4 + 4 * m ≡ 4 * suc m = omega arith in s) in
    ap (λ k. numbers k bs) e ∙ ap (λ xs. number_in bs ∷ xs) (numbers-plus m n (drop 4 bs) ∙ ap (λ xs. numbers m (drop 4 bs) ++ numbers n xs) d)

-- a number is a word
pub number-small : (bs : List ℕ) → AreBytes bs → number_in bs < 2 ^ 32
number-small bs a = omega (arith, a 0, a 1, a 2, a 3)
