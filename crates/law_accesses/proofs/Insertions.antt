-- Words with a byte or a half replaced.
use Rattle.std.proofs.Common.{◌≡◌, ◌<◌, ◌^◌, ℕ, ◌+◌, ◌-◌, ◌*◌, ◌/◌, ◌%◌, cond, ◌==◌, Option, Some, None, Result, Ok, Err, refl, sym, ap, ◌∙◌, arith, subst}
use Rattle.std.specs.Int.{w32, rotate_left}
use Rattle.mx_isa.specs.Arithmetic.{funnel}
use Rattle.cc_meaning.specs.declared.value.Bytes.{Bytes}
use Rattle.cc_meaning.specs.declared.value.Value.{Value}
use Rattle.cc_meaning.specs.declared.value.Value.TheVariants.{Number, Code, Partial}
use Rattle.cc_meaning.specs.declared.value.Why.{Why}
use Rattle.cc_meaning.specs.Values.{and_then, bytes_of, known_bytes, value_of, value_with, word_of}
use Rattle.cc_meaning.specs.Memory.{select, four, with_byte, with_half}
use Rattle.cc_accesses.specs.Stores.{bits_before}
use Rattle.law_operations.specs.Runs.{ShowsByte, ShowsValue}
use Rattle.law_accesses.specs.Memories.{ShowsData}
use Rattle.law_accesses.proofs.Parts.{four_cases, two_cases, turned, turned_by, ShowsBytes, bytes_shown}

-- a word with byte k replaced, and with the half from byte k on
abbrev pub byte_put : ℕ → ℕ → ℕ → ℕ
byte_put w k c =
    select k (c * 2 ^ 24 + w % 2 ^ 24) (w / 2 ^ 24 * 2 ^ 24 + c * 2 ^ 16 + w % 2 ^ 16) (w / 2 ^ 16 * 2 ^ 16 + c * 2 ^ 8 + w % 2 ^ 8)
    (w / 2 ^ 8 * 2 ^ 8 + c)

abbrev pub half_put : ℕ → ℕ → ℕ → ℕ
half_put w k c = cond (k == 0) (c * 2 ^ 16 + w % 2 ^ 16) (w / 2 ^ 16 * 2 ^ 16 + c)

-- ---- the replaced part at the top of a turned word

-- the other bytes of a word, as they follow byte k round, and the other half
abbrev pub others : ℕ → ℕ → ℕ
others w k = select k (w % 2 ^ 24) ((w % 2 ^ 16) * 2 ^ 8 + w / 2 ^ 24) ((w % 2 ^ 8) * 2 ^ 16 + w / 2 ^ 16) (w / 2 ^ 8)

abbrev pub other_half : ℕ → ℕ → ℕ
other_half w k = cond (k == 0) (w % 2 ^ 16) (w / 2 ^ 16)

abbrev pub with_others : ℕ → ℕ → ℕ → ℕ
with_others w k c = c * 2 ^ 24 + others w k

abbrev pub with_other_half : ℕ → ℕ → ℕ → ℕ
with_other_half w k c = c * 2 ^ 16 + other_half w k

pub known_byte_in : (w k r : ℕ) → w < 2 ^ 32 → k < 4
    → funnel 8 (rotate_left w32 w ((8 + bits_before k) % 32)) r ≡ with_others w k (r % 2 ^ 8)
known_byte_in w k r h small =
    let t = turned_by w h in
    four_cases (λ k. funnel 8 (rotate_left w32 w ((8 + bits_before k) % 32)) r ≡ with_others w k (r % 2 ^ 8))
    (ap (λ x. r % 2 ^ 8 * 2 ^ 24 + x / 2 ^ 8) t.1.0 ∙ ap (λ x. r % 2 ^ 8 * 2 ^ 24 + x) zero)
    (ap (λ x. r % 2 ^ 8 * 2 ^ 24 + x / 2 ^ 8) t.1.1.0 ∙ ap (λ x. r % 2 ^ 8 * 2 ^ 24 + x) one)
    (ap (λ x. r % 2 ^ 8 * 2 ^ 24 + x / 2 ^ 8) t.1.1.1 ∙ ap (λ x. r % 2 ^ 8 * 2 ^ 24 + x) two)
    (ap (λ x. r % 2 ^ 8 * 2 ^ 24 + x / 2 ^ 8) t.0) k small
  where
    zero : ((w % 2 ^ 24) * 2 ^ 8 + w / 2 ^ 24) / 2 ^ 8 ≡ w % 2 ^ 24
    zero = omega arith

    one : ((w % 2 ^ 16) * 2 ^ 16 + w / 2 ^ 16) / 2 ^ 8 ≡ (w % 2 ^ 16) * 2 ^ 8 + w / 2 ^ 24
    one = omega arith

    two : ((w % 2 ^ 8) * 2 ^ 24 + w / 2 ^ 8) / 2 ^ 8 ≡ (w % 2 ^ 8) * 2 ^ 16 + w / 2 ^ 16
    two = omega arith

top_out : (x r : ℕ) → funnel 8 (funnel 24 0 x) r ≡ r % 2 ^ 8 * 2 ^ 24 + x % 2 ^ 24
top_out x r = ap (λ y. r % 2 ^ 8 * 2 ^ 24 + y) down
  where
    down : ((x % 2 ^ 24) * 2 ^ 8 + 0 / 2 ^ 24) / 2 ^ 8 ≡ x % 2 ^ 24
    down = omega arith

pub told_byte_in : (w k r : ℕ) → w < 2 ^ 32 → k < 4 → funnel 8 (funnel 24 0 (turned w k)) r ≡ with_others w k (r % 2 ^ 8)
told_byte_in w k r h small =
    let t = turned_by w h in
    top_out (turned w k) r
    ∙ four_cases (λ k. r % 2 ^ 8 * 2 ^ 24 + turned w k % 2 ^ 24 ≡ with_others w k (r % 2 ^ 8))
    (ap (λ x. r % 2 ^ 8 * 2 ^ 24 + x % 2 ^ 24) t.0)
    (ap (λ x. r % 2 ^ 8 * 2 ^ 24 + x % 2 ^ 24) t.1.0 ∙ ap (λ x. r % 2 ^ 8 * 2 ^ 24 + x) one)
    (ap (λ x. r % 2 ^ 8 * 2 ^ 24 + x % 2 ^ 24) t.1.1.0 ∙ ap (λ x. r % 2 ^ 8 * 2 ^ 24 + x) two)
    (ap (λ x. r % 2 ^ 8 * 2 ^ 24 + x % 2 ^ 24) t.1.1.1 ∙ ap (λ x. r % 2 ^ 8 * 2 ^ 24 + x) three) k small
  where
    one : ((w % 2 ^ 24) * 2 ^ 8 + w / 2 ^ 24) % 2 ^ 24 ≡ (w % 2 ^ 16) * 2 ^ 8 + w / 2 ^ 24
    one = omega arith

    two : ((w % 2 ^ 16) * 2 ^ 16 + w / 2 ^ 16) % 2 ^ 24 ≡ (w % 2 ^ 8) * 2 ^ 16 + w / 2 ^ 16
    two = omega arith

    three : ((w % 2 ^ 8) * 2 ^ 24 + w / 2 ^ 8) % 2 ^ 24 ≡ w / 2 ^ 8
    three = omega arith

others_small : (w k c : ℕ) → w < 2 ^ 32 → k < 4 → c < 2 ^ 8 → with_others w k c < 2 ^ 32
others_small w k c h small l =
    four_cases (λ k. with_others w k c < 2 ^ 32) (omega arith) (omega arith) (omega arith) (omega arith) k small

-- and the word is turned back
pub byte_back : (w k c : ℕ) → w < 2 ^ 32 → k < 4 → c < 2 ^ 8 → turned (with_others w k c) ((4 - k) % 4) ≡ byte_put w k c
byte_back w k c h small l =
    four_cases (λ k. with_others w k c < 2 ^ 32 → turned (with_others w k c) ((4 - k) % 4) ≡ byte_put w k c)
    (λ m. (turned_by (with_others w 0 c) m).0)
    (λ m. (turned_by (with_others w 1 c) m).1.1.1 ∙ one)
    (λ m. (turned_by (with_others w 2 c) m).1.1.0 ∙ two)
    (λ m. (turned_by (with_others w 3 c) m).1.0 ∙ three) k small (others_small w k c h small l)
  where
    one : ((c * 2 ^ 24 + ((w % 2 ^ 16) * 2 ^ 8 + w / 2 ^ 24)) % 2 ^ 8) * 2 ^ 24 + (c * 2 ^ 24 + ((w % 2 ^ 16) * 2 ^ 8 + w / 2 ^ 24)) / 2 ^ 8
        ≡ w / 2 ^ 24 * 2 ^ 24 + c * 2 ^ 16 + w % 2 ^ 16
    one = omega arith

    two : ((c * 2 ^ 24 + ((w % 2 ^ 8) * 2 ^ 16 + w / 2 ^ 16)) % 2 ^ 16) * 2 ^ 16 + (c * 2 ^ 24 + ((w % 2 ^ 8) * 2 ^ 16 + w / 2 ^ 16)) / 2 ^ 16
        ≡ w / 2 ^ 16 * 2 ^ 16 + c * 2 ^ 8 + w % 2 ^ 8
    two = omega arith

    three : ((c * 2 ^ 24 + w / 2 ^ 8) % 2 ^ 24) * 2 ^ 8 + (c * 2 ^ 24 + w / 2 ^ 8) / 2 ^ 24 ≡ w / 2 ^ 8 * 2 ^ 8 + c
    three = omega arith

-- the count of the turn back, where the byte is known
pub back_by : (x k : ℕ) → k < 4 → rotate_left w32 x ((32 - bits_before k) % 32) ≡ turned x ((4 - k) % 4)
back_by x k small = four_cases (λ k. rotate_left w32 x ((32 - bits_before k) % 32) ≡ turned x ((4 - k) % 4)) refl refl refl refl k small

-- ---- halves

pub known_half_in : (w k r : ℕ) → w < 2 ^ 32 → k < 4 → k % 2 ≡ 0
    → funnel 16 (rotate_left w32 w ((16 + bits_before k) % 32)) r ≡ with_other_half w k (r % 2 ^ 16)
known_half_in w k r h small even =
    let t = turned_by w h in
    two_cases (λ k. funnel 16 (rotate_left w32 w ((16 + bits_before k) % 32)) r ≡ with_other_half w k (r % 2 ^ 16))
    (ap (λ x. r % 2 ^ 16 * 2 ^ 16 + x / 2 ^ 16) t.1.1.0 ∙ ap (λ x. r % 2 ^ 16 * 2 ^ 16 + x) zero)
    (ap (λ x. r % 2 ^ 16 * 2 ^ 16 + x / 2 ^ 16) t.0) k small even
  where
    zero : ((w % 2 ^ 16) * 2 ^ 16 + w / 2 ^ 16) / 2 ^ 16 ≡ w % 2 ^ 16
    zero = omega arith

half_out : (x r : ℕ) → funnel 16 (funnel 16 0 x) r ≡ r % 2 ^ 16 * 2 ^ 16 + x % 2 ^ 16
half_out x r = ap (λ y. r % 2 ^ 16 * 2 ^ 16 + y) down
  where
    down : ((x % 2 ^ 16) * 2 ^ 16 + 0 / 2 ^ 16) / 2 ^ 16 ≡ x % 2 ^ 16
    down = omega arith

pub told_half_in : (w k r : ℕ) → w < 2 ^ 32 → k < 4 → k % 2 ≡ 0
    → funnel 16 (funnel 16 0 (turned w k)) r ≡ with_other_half w k (r % 2 ^ 16)
told_half_in w k r h small even =
    let t = turned_by w h in
    half_out (turned w k) r
    ∙ two_cases (λ k. r % 2 ^ 16 * 2 ^ 16 + turned w k % 2 ^ 16 ≡ with_other_half w k (r % 2 ^ 16))
    (ap (λ x. r % 2 ^ 16 * 2 ^ 16 + x % 2 ^ 16) t.0)
    (ap (λ x. r % 2 ^ 16 * 2 ^ 16 + x % 2 ^ 16) t.1.1.0 ∙ ap (λ x. r % 2 ^ 16 * 2 ^ 16 + x) two) k small even
  where
    two : ((w % 2 ^ 16) * 2 ^ 16 + w / 2 ^ 16) % 2 ^ 16 ≡ w / 2 ^ 16
    two = omega arith

pub half_back : (w k c : ℕ) → w < 2 ^ 32 → k < 4 → k % 2 ≡ 0 → c < 2 ^ 16 → turned (with_other_half w k c) k ≡ half_put w k c
half_back w k c h small even l =
    two_cases (λ k. with_other_half w k c < 2 ^ 32 → turned (with_other_half w k c) k ≡ half_put w k c)
    (λ m. (turned_by (with_other_half w 0 c) m).0) (λ m. (turned_by (with_other_half w 2 c) m).1.1.0 ∙ two) k small even
    (two_cases (λ k. with_other_half w k c < 2 ^ 32) (omega arith) (omega arith) k small even)
  where
    two : ((c * 2 ^ 16 + w / 2 ^ 16) % 2 ^ 16) * 2 ^ 16 + (c * 2 ^ 16 + w / 2 ^ 16) / 2 ^ 16 ≡ w / 2 ^ 16 * 2 ^ 16 + c
    two = omega arith

pub half_back_by : (x k : ℕ) → k < 4 → k % 2 ≡ 0 → rotate_left w32 x ((32 - bits_before k) % 32) ≡ turned x k
half_back_by x k small even = two_cases (λ k. rotate_left w32 x ((32 - bits_before k) % 32) ≡ turned x k) refl refl k small even

-- ---- what they show

pub same : (o : Option ℕ) (x y : ℕ) → x ≡ y → ShowsByte o y → ShowsByte o x
same o x y e h = subst (ShowsByte o) (sym e) h

byte_put_shows : (b : Bytes) (o : Option ℕ) (w k c : ℕ) → w < 2 ^ 32 → k < 4 → c < 2 ^ 8 → ShowsBytes b w → ShowsByte o c
    → ShowsBytes (with_byte b k o) (byte_put w k c)
byte_put_shows b o w k c h small l s n =
    four_cases (λ k. ShowsBytes (with_byte b k o) (byte_put w k c))
    (same _ _ _ (omega arith) n, same _ _ _ (omega arith) s.1, same _ _ _ (omega arith) s.2, same _ _ _ (omega arith) s.3)
    (same _ _ _ (omega arith) s.0, same _ _ _ (omega arith) n, same _ _ _ (omega arith) s.2, same _ _ _ (omega arith) s.3)
    (same _ _ _ (omega arith) s.0, same _ _ _ (omega arith) s.1, same _ _ _ (omega arith) n, same _ _ _ (omega arith) s.3)
    (same _ _ _ (omega arith) s.0, same _ _ _ (omega arith) s.1, same _ _ _ (omega arith) s.2, same _ _ _ (omega arith) n) k small

half_put_shows : (b d : Bytes) (w r k : ℕ) → w < 2 ^ 32 → k < 4 → k % 2 ≡ 0 → ShowsBytes b w → ShowsBytes d r
    → ShowsBytes (with_half b k d) (half_put w k (r % 2 ^ 16))
half_put_shows b d w r k h small even s n =
    two_cases (λ k. ShowsBytes (with_half b k d) (half_put w k (r % 2 ^ 16)))
    (same _ _ _ (omega arith) n.2, same _ _ _ (omega arith) n.3, same _ _ _ (omega arith) s.2, same _ _ _ (omega arith) s.3)
    (same _ _ _ (omega arith) s.0, same _ _ _ (omega arith) s.1, same _ _ _ (omega arith) n.2, same _ _ _ (omega arith) n.3) k small even

pub value_shown : (p q r s : Option ℕ) (z : ℕ) → z < 2 ^ 32 → ShowsBytes (four p q r s) z
    → ShowsValue (value_with (word_of p q r s) (four p q r s)) z
value_shown (Some a) (Some b) (Some c) (Some d) z l h =
    let e0 = h.0 in
    let e1 = h.1 in
    let e2 = h.2 in
    let e3 = h.3 in
    parts z a b c d l e0 e1 e2 e3
  where
    parts : (z a b c d : ℕ) → z < 2 ^ 32 → z / 2 ^ 24 % 256 ≡ a → z / 2 ^ 16 % 256 ≡ b → z / 2 ^ 8 % 256 ≡ c → z % 256 ≡ d
        → z ≡ (a * 256 + b) * 65536 + (c * 256 + d)
    parts z a b c d l e0 e1 e2 e3 = omega arith
value_shown None q r s z l h = h
value_shown (Some a) None r s z l h = h
value_shown (Some a) (Some b) None s z l h = h
value_shown (Some a) (Some b) (Some c) None z l h = h

-- a word shows what is known of the bytes of its value
pub known_shown : (v : Value) (w : ℕ) → ShowsData v w → ShowsBytes (known_bytes v) w
known_shown (Number n) w h = bytes_shown (Number n) _ w refl h
known_shown (Code item) w h = (tt, tt, tt, tt)
known_shown (Partial bytes) w h = h refl

byte_put_small : (w k c : ℕ) → w < 2 ^ 32 → k < 4 → c < 2 ^ 8 → byte_put w k c < 2 ^ 32
byte_put_small w k c h small l = four_cases (λ k. byte_put w k c < 2 ^ 32) (omega arith) (omega arith) (omega arith) (omega arith) k small

half_put_small : (w k c : ℕ) → w < 2 ^ 32 → k < 4 → k % 2 ≡ 0 → c < 2 ^ 16 → half_put w k c < 2 ^ 32
half_put_small w k c h small even l = two_cases (λ k. half_put w k c < 2 ^ 32) (omega arith) (omega arith) k small even

-- the low byte, and the low half
pub low_byte : (r : ℕ) → r % 2 ^ 8 < 2 ^ 8
low_byte r = omega arith

pub low_half : (r : ℕ) → r % 2 ^ 16 < 2 ^ 16
low_half r = omega arith

pub byte_stored : (word from v : Value) (b : Result Bytes Why) (w r k : ℕ) → w < 2 ^ 32 → k < 4 → bytes_of from ≡ b
    → and_then b (λ b. Ok (value_of (with_byte (known_bytes word) k b.fourth))) ≡ Ok v → ShowsData word w → ShowsData from r
    → ShowsData v (byte_put w k (r % 2 ^ 8))
byte_stored word from v (Ok b) w r k h small e q s n =
    let c = with_byte (known_bytes word) k b.fourth in
    let z = byte_put w k (r % 2 ^ 8) in
    let is : value_of c ≡ v = cc in
    subst (λ x. ShowsData x z) is
    (λ i. value_shown c.first c.second c.third c.fourth z (byte_put_small w k _ h small (low_byte r))
    (byte_put_shows (known_bytes word) b.fourth w k _ h small (low_byte r) (known_shown word w s) (bytes_shown from b r e n).3))
byte_stored word from v (Err why) w r k h small e q s n = absurd (cc)

pub half_stored : (word from v : Value) (b : Result Bytes Why) (w r k : ℕ) → w < 2 ^ 32 → k < 4 → k % 2 ≡ 0 → bytes_of from ≡ b
    → and_then b (λ b. Ok (value_of (with_half (known_bytes word) k b))) ≡ Ok v → ShowsData word w → ShowsData from r
    → ShowsData v (half_put w k (r % 2 ^ 16))
half_stored word from v (Ok b) w r k h small even e q s n =
    let c = with_half (known_bytes word) k b in
    let z = half_put w k (r % 2 ^ 16) in
    let is : value_of c ≡ v = cc in
    subst (λ x. ShowsData x z) is
    (λ i. value_shown c.first c.second c.third c.fourth z (half_put_small w k _ h small even (low_half r))
    (half_put_shows (known_bytes word) b w r k h small even (known_shown word w s) (bytes_shown from b r e n)))
half_stored word from v (Err why) w r k h small even e q s n = absurd (cc)
