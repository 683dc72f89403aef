-- Words that have some bytes of one word and some of another.
use Rattle.std.proofs.Common.{◌≡◌, ◌≤◌, ◌<◌, ◌^◌, ℕ, ◌+◌, ◌-◌, ◌*◌, ◌/◌, ◌%◌, Result, Ok, Err, refl, sym, ap, ap₂, ◌∙◌, arith, subst, pow_pos}
use Rattle.std.specs.Prelude.{bit_and, bit_or, slice_index_or}
use Rattle.std.specs.Int.Bits.{or_shifted_r}
use Rattle.std.proofs.lemmas.Nat.{and_mask, or_comm, mod_below}
use Rattle.std.proofs.lemmas.Nat.Bits.{and_high_mask}
use Rattle.cc_emit.specs.declared.line.Mask.TheVariants.{LoadLeft, LoadRight, StoreLeft, StoreRight}
use Rattle.cc_emit.specs.declared.line.Mask.{Mask}
use Rattle.cc_emit.specs.Labels.{mask_words}
use Rattle.cc_meaning.specs.declared.value.Bytes.{Bytes}
use Rattle.cc_meaning.specs.declared.value.Value.{Value}
use Rattle.cc_meaning.specs.declared.value.Why.{Why}
use Rattle.cc_meaning.specs.Values.{and_then, bytes_of, known_bytes, value_of}
use Rattle.cc_meaning.specs.Memory.{select, left_loaded, right_loaded, left_stored, right_stored}
use Rattle.law_operations.specs.Runs.{ShowsValue}
use Rattle.law_accesses.specs.Memories.{ShowsData}
use Rattle.law_accesses.proofs.Parts.{four_cases, turned, turned_by, ShowsBytes, bytes_shown}
use Rattle.law_accesses.proofs.Insertions.{same, value_shown, known_shown}

-- ---- masks

-- a word of a table of masks
abbrev pub mask_at : Mask → ℕ → ℕ
mask_at mask k = slice_index_or (mask_words mask) k 0

-- the bits of a mask of one word, and the others of another
abbrev pub joined : ℕ → ℕ → ℕ → ℕ
joined m x y = bit_or (bit_and x m) (bit_and y (2 ^ 32 - 1 - m))

low_joined : (j x y m c : ℕ) → j ≤ 32 → y < 2 ^ 32 → m ≡ 2 ^ j - 1 → c ≡ 2 ^ 32 - 2 ^ j
    → bit_or (bit_and x m) (bit_and y c) ≡ y / 2 ^ j * 2 ^ j + x % 2 ^ j
low_joined j x y m c l h e f =
    ap₂ bit_or (ap (bit_and x) e ∙ and_mask x j) (ap (bit_and y) f ∙ and_high_mask 32 j l y h)
    ∙ or_shifted_r (y / 2 ^ j) j (x % 2 ^ j) (mod_below x (2 ^ j) (pow_pos j))

high_joined : (j x y m c : ℕ) → j ≤ 32 → x < 2 ^ 32 → m ≡ 2 ^ 32 - 2 ^ j → c ≡ 2 ^ j - 1
    → bit_or (bit_and x m) (bit_and y c) ≡ x / 2 ^ j * 2 ^ j + y % 2 ^ j
high_joined j x y m c l h e f = or_comm (bit_and x m) (bit_and y c) ∙ low_joined j y x c m l h f e

-- ---- the words that loads and stores leave

-- the bytes of a word from byte k on, and then the last ones of another
abbrev pub left_put : ℕ → ℕ → ℕ → ℕ
left_put w k r =
    select k w ((w % 2 ^ 24) * 2 ^ 8 + r % 2 ^ 8) ((w % 2 ^ 16) * 2 ^ 16 + r % 2 ^ 16) ((w % 2 ^ 8) * 2 ^ 24 + r % 2 ^ 24)

-- the first bytes of another word, and then those of a word up to byte k
abbrev pub right_put : ℕ → ℕ → ℕ → ℕ
right_put w k r =
    select k (r / 2 ^ 8 * 2 ^ 8 + w / 2 ^ 24) (r / 2 ^ 16 * 2 ^ 16 + w / 2 ^ 16) (r / 2 ^ 24 * 2 ^ 24 + w / 2 ^ 8) w

pub left_in : (w r k : ℕ) → w < 2 ^ 32 → k < 4 → joined (mask_at LoadLeft k) r (turned w k) ≡ left_put w k r
left_in w r k h small =
    let t = turned_by w h in
    four_cases (λ k. joined (mask_at LoadLeft k) r (turned w k) ≡ left_put w k r)
    (ap (joined 0 r) t.0 ∙ low_joined 0 r w 0 (2 ^ 32 - 1) (omega arith) h refl refl ∙ zero)
    (ap (joined 255 r) t.1.0 ∙ low_joined 8 r _ 255 (2 ^ 32 - 1 - 255) (omega arith) (omega arith) refl refl ∙ one)
    (ap (joined 65535 r) t.1.1.0 ∙ low_joined 16 r _ 65535 (2 ^ 32 - 1 - 65535) (omega arith) (omega arith) refl refl ∙ two)
    (ap (joined 16777215 r) t.1.1.1 ∙ low_joined 24 r _ 16777215 (2 ^ 32 - 1 - 16777215) (omega arith) (omega arith) refl refl ∙ three)
    k small
  where
    zero : w / 2 ^ 0 * 2 ^ 0 + r % 2 ^ 0 ≡ w
    zero = omega arith

    one : ((w % 2 ^ 24) * 2 ^ 8 + w / 2 ^ 24) / 2 ^ 8 * 2 ^ 8 + r % 2 ^ 8 ≡ (w % 2 ^ 24) * 2 ^ 8 + r % 2 ^ 8
    one = omega arith

    two : ((w % 2 ^ 16) * 2 ^ 16 + w / 2 ^ 16) / 2 ^ 16 * 2 ^ 16 + r % 2 ^ 16 ≡ (w % 2 ^ 16) * 2 ^ 16 + r % 2 ^ 16
    two = omega arith

    three : ((w % 2 ^ 8) * 2 ^ 24 + w / 2 ^ 8) / 2 ^ 24 * 2 ^ 24 + r % 2 ^ 24 ≡ (w % 2 ^ 8) * 2 ^ 24 + r % 2 ^ 24
    three = omega arith

pub right_in : (w r k : ℕ) → w < 2 ^ 32 → r < 2 ^ 32 → k < 4 → joined (mask_at LoadRight k) r (turned w ((k + 1) % 4)) ≡ right_put w k r
right_in w r k h fits small =
    let t = turned_by w h in
    four_cases (λ k. joined (mask_at LoadRight k) r (turned w ((k + 1) % 4)) ≡ right_put w k r)
    (ap (joined 4294967040 r) t.1.0 ∙ high_joined 8 r _ 4294967040 255 (omega arith) fits refl refl ∙ one)
    (ap (joined 4294901760 r) t.1.1.0 ∙ high_joined 16 r _ 4294901760 65535 (omega arith) fits refl refl ∙ two)
    (ap (joined 4278190080 r) t.1.1.1 ∙ high_joined 24 r _ 4278190080 16777215 (omega arith) fits refl refl ∙ three)
    (ap (joined 0 r) t.0 ∙ low_joined 0 r w 0 (2 ^ 32 - 1) (omega arith) h refl refl ∙ zero) k small
  where
    zero : w / 2 ^ 0 * 2 ^ 0 + r % 2 ^ 0 ≡ w
    zero = omega arith

    one : r / 2 ^ 8 * 2 ^ 8 + ((w % 2 ^ 24) * 2 ^ 8 + w / 2 ^ 24) % 2 ^ 8 ≡ r / 2 ^ 8 * 2 ^ 8 + w / 2 ^ 24
    one = omega arith

    two : r / 2 ^ 16 * 2 ^ 16 + ((w % 2 ^ 16) * 2 ^ 16 + w / 2 ^ 16) % 2 ^ 16 ≡ r / 2 ^ 16 * 2 ^ 16 + w / 2 ^ 16
    two = omega arith

    three : r / 2 ^ 24 * 2 ^ 24 + ((w % 2 ^ 8) * 2 ^ 24 + w / 2 ^ 8) % 2 ^ 24 ≡ r / 2 ^ 24 * 2 ^ 24 + w / 2 ^ 8
    three = omega arith

-- a store to byte k moves what a load from byte 3 - k would, the other way
pub left_out : (w r k : ℕ) → w < 2 ^ 32 → r < 2 ^ 32 → k < 4
    → joined (mask_at StoreLeft k) (turned r ((4 - k) % 4)) w ≡ right_put r (3 - k) w
left_out w r k h fits small =
    let t = turned_by r fits in
    four_cases (λ k. joined (mask_at StoreLeft k) (turned r ((4 - k) % 4)) w ≡ right_put r (3 - k) w)
    (ap (λ y. joined 4294967295 y w) t.0 ∙ low_joined 32 r w 4294967295 0 (omega arith) h refl refl ∙ zero)
    (ap (λ y. joined 16777215 y w) t.1.1.1 ∙ low_joined 24 _ w 16777215 (2 ^ 32 - 1 - 16777215) (omega arith) h refl refl ∙ one)
    (ap (λ y. joined 65535 y w) t.1.1.0 ∙ low_joined 16 _ w 65535 (2 ^ 32 - 1 - 65535) (omega arith) h refl refl ∙ two)
    (ap (λ y. joined 255 y w) t.1.0 ∙ low_joined 8 _ w 255 (2 ^ 32 - 1 - 255) (omega arith) h refl refl ∙ three) k small
  where
    zero : w / 2 ^ 32 * 2 ^ 32 + r % 2 ^ 32 ≡ r
    zero = omega arith

    one : w / 2 ^ 24 * 2 ^ 24 + ((r % 2 ^ 8) * 2 ^ 24 + r / 2 ^ 8) % 2 ^ 24 ≡ w / 2 ^ 24 * 2 ^ 24 + r / 2 ^ 8
    one = omega arith

    two : w / 2 ^ 16 * 2 ^ 16 + ((r % 2 ^ 16) * 2 ^ 16 + r / 2 ^ 16) % 2 ^ 16 ≡ w / 2 ^ 16 * 2 ^ 16 + r / 2 ^ 16
    two = omega arith

    three : w / 2 ^ 8 * 2 ^ 8 + ((r % 2 ^ 24) * 2 ^ 8 + r / 2 ^ 24) % 2 ^ 8 ≡ w / 2 ^ 8 * 2 ^ 8 + r / 2 ^ 24
    three = omega arith

pub right_out : (w r k : ℕ) → w < 2 ^ 32 → r < 2 ^ 32 → k < 4
    → joined (mask_at StoreRight k) (turned r (3 - k)) w ≡ left_put r (3 - k) w
right_out w r k h fits small =
    let t = turned_by r fits in
    four_cases (λ k. joined (mask_at StoreRight k) (turned r (3 - k)) w ≡ left_put r (3 - k) w)
    (ap (λ y. joined 4278190080 y w) t.1.1.1 ∙ high_joined 24 _ w 4278190080 16777215 (omega arith) (omega arith) refl refl ∙ three)
    (ap (λ y. joined 4294901760 y w) t.1.1.0 ∙ high_joined 16 _ w 4294901760 65535 (omega arith) (omega arith) refl refl ∙ two)
    (ap (λ y. joined 4294967040 y w) t.1.0 ∙ high_joined 8 _ w 4294967040 255 (omega arith) (omega arith) refl refl ∙ one)
    (ap (λ y. joined 4294967295 y w) t.0 ∙ low_joined 32 r w 4294967295 0 (omega arith) h refl refl ∙ zero) k small
  where
    zero : w / 2 ^ 32 * 2 ^ 32 + r % 2 ^ 32 ≡ r
    zero = omega arith

    one : ((r % 2 ^ 24) * 2 ^ 8 + r / 2 ^ 24) / 2 ^ 8 * 2 ^ 8 + w % 2 ^ 8 ≡ (r % 2 ^ 24) * 2 ^ 8 + w % 2 ^ 8
    one = omega arith

    two : ((r % 2 ^ 16) * 2 ^ 16 + r / 2 ^ 16) / 2 ^ 16 * 2 ^ 16 + w % 2 ^ 16 ≡ (r % 2 ^ 16) * 2 ^ 16 + w % 2 ^ 16
    two = omega arith

    three : ((r % 2 ^ 8) * 2 ^ 24 + r / 2 ^ 8) / 2 ^ 24 * 2 ^ 24 + w % 2 ^ 24 ≡ (r % 2 ^ 8) * 2 ^ 24 + w % 2 ^ 24
    three = omega arith

-- ---- what they show

left_shows : (b d : Bytes) (w r k : ℕ) → w < 2 ^ 32 → k < 4 → ShowsBytes b w → ShowsBytes d r
    → ShowsBytes (left_loaded b k d) (left_put w k r)
left_shows b d w r k h small s n =
    four_cases (λ k. ShowsBytes (left_loaded b k d) (left_put w k r))
    s
    (same _ _ _ (omega arith) s.1, same _ _ _ (omega arith) s.2, same _ _ _ (omega arith) s.3, same _ _ _ (omega arith) n.3)
    (same _ _ _ (omega arith) s.2, same _ _ _ (omega arith) s.3, same _ _ _ (omega arith) n.2, same _ _ _ (omega arith) n.3)
    (same _ _ _ (omega arith) s.3, same _ _ _ (omega arith) n.1, same _ _ _ (omega arith) n.2, same _ _ _ (omega arith) n.3) k small

right_shows : (b d : Bytes) (w r k : ℕ) → w < 2 ^ 32 → k < 4 → ShowsBytes b w → ShowsBytes d r
    → ShowsBytes (right_loaded b k d) (right_put w k r)
right_shows b d w r k h small s n =
    four_cases (λ k. ShowsBytes (right_loaded b k d) (right_put w k r))
    (same _ _ _ (omega arith) n.0, same _ _ _ (omega arith) n.1, same _ _ _ (omega arith) n.2, same _ _ _ (omega arith) s.0)
    (same _ _ _ (omega arith) n.0, same _ _ _ (omega arith) n.1, same _ _ _ (omega arith) s.0, same _ _ _ (omega arith) s.1)
    (same _ _ _ (omega arith) n.0, same _ _ _ (omega arith) s.0, same _ _ _ (omega arith) s.1, same _ _ _ (omega arith) s.2)
    s k small

left_small : (w r k : ℕ) → w < 2 ^ 32 → k < 4 → left_put w k r < 2 ^ 32
left_small w r k h small = four_cases (λ k. left_put w k r < 2 ^ 32) h (omega arith) (omega arith) (omega arith) k small

right_small : (w r k : ℕ) → w < 2 ^ 32 → r < 2 ^ 32 → k < 4 → right_put w k r < 2 ^ 32
right_small w r k h fits small = four_cases (λ k. right_put w k r < 2 ^ 32) (omega arith) (omega arith) (omega arith) h k small

-- what is made of the bytes of a value is shown where these are
value_made : (word v : Value) (f : Bytes → Bytes) (r : Result Bytes Why) (w z : ℕ) → bytes_of word ≡ r
    → and_then r (λ b. Ok (value_of (f b))) ≡ Ok v → ShowsData word w → z < 2 ^ 32
    → ((b : Bytes) → ShowsBytes b w → ShowsBytes (f b) z) → ShowsValue v z
value_made word v f (Ok b) w z e q h small g =
    let c = f b in
    let is : value_of c ≡ v = cc in
    subst (λ x. ShowsValue x z) is (value_shown c.first c.second c.third c.fourth z small (g b (bytes_shown word b w e h)))
value_made word v f (Err why) w z e q h small g = absurd (cc)

pub left_value : (word old v : Value) (w r k : ℕ) → w < 2 ^ 32 → k < 4
    → and_then (bytes_of word) (λ b. Ok (value_of (left_loaded b k (known_bytes old)))) ≡ Ok v → ShowsData word w → ShowsData old r
    → ShowsValue v (left_put w k r)
left_value word old v w r k h small e s n =
    value_made word v (λ b. left_loaded b k (known_bytes old)) _ w (left_put w k r) refl e s (left_small w r k h small)
    (λ b i. left_shows b (known_bytes old) w r k h small i (known_shown old r n))

pub right_value : (word old v : Value) (w r k : ℕ) → w < 2 ^ 32 → r < 2 ^ 32 → k < 4
    → and_then (bytes_of word) (λ b. Ok (value_of (right_loaded b k (known_bytes old)))) ≡ Ok v → ShowsData word w → ShowsData old r
    → ShowsValue v (right_put w k r)
right_value word old v w r k h fits small e s n =
    value_made word v (λ b. right_loaded b k (known_bytes old)) _ w (right_put w k r) refl e s (right_small w r k h fits small)
    (λ b i. right_shows b (known_bytes old) w r k h small i (known_shown old r n))

-- ---- stores

left_stored_is : (b d : Bytes) (k : ℕ) → k < 4 → left_stored b k d ≡ right_loaded d (3 - k) b
left_stored_is b d k small = four_cases (λ k. left_stored b k d ≡ right_loaded d (3 - k) b) refl refl refl refl k small

right_stored_is : (b d : Bytes) (k : ℕ) → k < 4 → right_stored b k d ≡ left_loaded d (3 - k) b
right_stored_is b d k small = four_cases (λ k. right_stored b k d ≡ left_loaded d (3 - k) b) refl refl refl refl k small

other_byte : (k : ℕ) → k < 4 → 3 - k < 4
other_byte k small = omega arith

pub left_value_out : (word from v : Value) (w r k : ℕ) → w < 2 ^ 32 → r < 2 ^ 32 → k < 4
    → and_then (bytes_of from) (λ b. Ok (value_of (left_stored (known_bytes word) k b))) ≡ Ok v → ShowsData word w → ShowsData from r
    → ShowsValue v (right_put r (3 - k) w)
left_value_out word from v w r k h fits small e s n =
    let l = other_byte k small in
    value_made from v (λ b. left_stored (known_bytes word) k b) _ r (right_put r (3 - k) w) refl e n (right_small r w (3 - k) fits h l)
    (λ b i. subst (λ c. ShowsBytes c (right_put r (3 - k) w)) (sym (left_stored_is (known_bytes word) b k small))
    (right_shows b (known_bytes word) r w (3 - k) fits l i (known_shown word w s)))

pub right_value_out : (word from v : Value) (w r k : ℕ) → w < 2 ^ 32 → r < 2 ^ 32 → k < 4
    → and_then (bytes_of from) (λ b. Ok (value_of (right_stored (known_bytes word) k b))) ≡ Ok v → ShowsData word w → ShowsData from r
    → ShowsValue v (left_put r (3 - k) w)
right_value_out word from v w r k h fits small e s n =
    let l = other_byte k small in
    value_made from v (λ b. right_stored (known_bytes word) k b) _ r (left_put r (3 - k) w) refl e n (left_small r w (3 - k) fits l)
    (λ b i. subst (λ c. ShowsBytes c (left_put r (3 - k) w)) (sym (right_stored_is (known_bytes word) b k small))
    (left_shows b (known_bytes word) r w (3 - k) fits l i (known_shown word w s)))
