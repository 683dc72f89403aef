-- One more piece of a text.
use Rattle.std.proofs.Common.{◌≡◌, ℕ, ◌+◌, ◌<◌, List, ◌++◌, length, take, Some, sym, ap, ◌∙◌, append_assoc}
use Rattle.std.specs.List.{flat_map, slice_get}
use Rattle.std.proofs.lemmas.List.{flat_map_more, take_more}
use Rattle.std.proofs.lemmas.Option.{slice_get-get_or}
use Rattle.std.proofs.Math.ListN.{get_or}
use Rattle.std.proofs.Math.Seq.{take-length}

-- what is written of the number at a place
pub number_more : (f : ℕ → List ℕ) (xs : List ℕ) (i : ℕ) (before now after : List ℕ) → i < length xs → now ≡ before ++ flat_map f (take i xs)
    → ((n : ℕ) → slice_get xs i ≡ Some n → after ≡ now ++ f n) → after ≡ before ++ flat_map f (take (i + 1) xs)
number_more f xs i before now after h e more =
    let n = get_or xs i 0 in
    more n (slice_get-get_or xs i 0 h) ∙ (ap (λ t. t ++ f n) e ∙ (flat_map_more f before (take i xs) n
    ∙ ap (λ ys. before ++ flat_map f ys) (sym (take_more xs i 0 h))))

pub all_written : (f : ℕ → List ℕ) (xs : List ℕ) (i : ℕ) (before now : List ℕ) → i ≡ length xs → now ≡ before ++ flat_map f (take i xs)
    → now ≡ before ++ flat_map f xs
all_written f xs i before now e h = h ∙ ap (λ ys. before ++ flat_map f ys) (ap (λ n. take n xs) e ∙ take-length xs)

-- two pieces, and three
pub two_more : (a l m b c : List ℕ) → b ≡ a ++ l → c ≡ b ++ m → c ≡ a ++ (l ++ m)
two_more a l m b c e h = h ∙ (ap (λ t. t ++ m) e ∙ append_assoc a l m)

pub three_more : (a l m n b c d : List ℕ) → b ≡ a ++ l → c ≡ b ++ m → d ≡ c ++ n → d ≡ a ++ (l ++ (m ++ n))
three_more a l m n b c d e h k = two_more a l (m ++ n) b d e (two_more b m n c d h k)

-- four, from the left
pub four_more : (a l m n o b c d e : List ℕ) → b ≡ a ++ l → c ≡ b ++ m → d ≡ c ++ n → e ≡ d ++ o → e ≡ a ++ (((l ++ m) ++ n) ++ o)
four_more a l m n o b c d e h k i j = two_more a ((l ++ m) ++ n) o d e (two_more a (l ++ m) n c d (two_more a l m b c h k) i) j

-- what is written of the element at a place
pub item_more : {X : Type 0} (f : X → List ℕ) (xs : List X) (i : ℕ) (d : X) (before now after : List ℕ) → i < length xs
    → now ≡ before ++ flat_map f (take i xs) → after ≡ now ++ f (get_or xs i d) → after ≡ before ++ flat_map f (take (i + 1) xs)
item_more f xs i d before now after h e more =
    more ∙ (ap (λ t. t ++ f (get_or xs i d)) e ∙ (flat_map_more f before (take i xs) (get_or xs i d)
    ∙ ap (λ ys. before ++ flat_map f ys) (sym (take_more xs i d h))))

-- the text of a source: its code, its data, and its size
pub whole_text : (code more size b c e text : List ℕ) → b ≡ code → c ≡ b ++ more → e ≡ c ++ size → text ≡ e
    → text ≡ code ++ (more ++ size)
whole_text code more size b c e text h k i j = j ∙ (two_more b more size c e k i ∙ ap (λ t. t ++ (more ++ size)) h)

-- the data: their beginning, the image, and the words that the translation adds
pub whole_data : (front words image added a b c d : List ℕ) → b ≡ a ++ front → c ≡ b ++ words → words ≡ image → d ≡ c ++ added
    → d ≡ a ++ (front ++ image ++ added)
whole_data front words image added a b c d h k e i =
    two_more a (front ++ image) added c d (two_more a front image b c h (k ∙ ap (λ t. b ++ t) e)) i
