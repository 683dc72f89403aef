-- Bytes and halves of words, by the numbers of their first bytes.
use Rattle.std.proofs.Common.{◌≡◌, ◌≤◌, ◌<◌, ◌^◌, ℕ, ◌+◌, ◌-◌, ◌*◌, ◌/◌, ◌%◌, Bool, true, false, cond, ◌==◌, Option, Some, None, Ok, refl, sym, ap, ◌∙◌, arith, subst, ⊎_elim}
use Rattle.std.specs.Int.{w32, rotate_left}
use Rattle.std.proofs.lemmas.Bool.{cases_eq}
use Rattle.std.proofs.lemmas.Bool.Decides.{nat_tests}
use Rattle.mx_isa.specs.Arithmetic.{funnel}
use Rattle.cc_lines.specs.declared.instruction.Shift.TheVariants.{Rotate}
use Rattle.cc_meaning.specs.Arithmetic.{shifted_by}
use Rattle.cc_meaning.specs.declared.value.Bytes.{Bytes}
use Rattle.cc_meaning.specs.declared.value.Value.{Value}
use Rattle.cc_meaning.specs.declared.value.Value.TheVariants.{Number, Code, Partial}
use Rattle.cc_meaning.specs.Values.{bytes_of, word_bytes}
use Rattle.cc_meaning.specs.Memory.{select, byte_at, extended, byte_value, half_value, half_at}
use Rattle.cc_accesses.specs.Loads.{down}
use Rattle.law_operations.specs.Runs.{ShowsByte, ShowsValue}
use Rattle.law_operations.proofs.Bits.{rotate_is, shift_none}
use Rattle.law_accesses.specs.Memories.{ShowsData}

-- one of the four bytes of a word
pub four_cases : (P : ℕ → Type 0) → P 0 → P 1 → P 2 → P 3 → (k : ℕ) → k < 4 → P k
four_cases P a b c d k small =
    ⊎_elim (λ (e : k ≡ 0). subst P (sym e) a)
    (λ n0. ⊎_elim (λ (e : k ≡ 1). subst P (sym e) b)
    (λ n1. ⊎_elim (λ (e : k ≡ 2). subst P (sym e) c) (λ n2. let e : k ≡ 3 = omega arith in subst P (sym e) d) (cases_eq k 2)) (cases_eq k 1))
    (cases_eq k 0)

-- one of the two halves
pub two_cases : (P : ℕ → Type 0) → P 0 → P 2 → (k : ℕ) → k < 4 → k % 2 ≡ 0 → P k
two_cases P a c k small even =
    ⊎_elim (λ (e : k ≡ 0). subst P (sym e) a) (λ ne. let e : k ≡ 2 = omega arith in subst P (sym e) c) (cases_eq k 0)

-- byte k of a word, and the half from byte k on
abbrev pub byte_of : ℕ → ℕ → ℕ
byte_of w k = select k (w / 2 ^ 24 % 256) (w / 2 ^ 16 % 256) (w / 2 ^ 8 % 256) (w % 256)

abbrev pub half_of : ℕ → ℕ → ℕ
half_of w k = cond (k == 0) (w / 2 ^ 16) (w % 2 ^ 16)

-- ---- a part at the top of a word

-- a word shifted to the left
abbrev pub raised : ℕ → ℕ → ℕ
raised w k = (w * 2 ^ (k * 8 % 32)) % 2 ^ 32

-- a word rotated
abbrev pub turned : ℕ → ℕ → ℕ
turned w k = rotate_left w32 w (8 * k)

pub raised_byte : (w k : ℕ) → w < 2 ^ 32 → k < 4 → raised w k / 2 ^ 24 ≡ byte_of w k
raised_byte w k h small = four_cases (λ k. raised w k / 2 ^ 24 ≡ byte_of w k) (omega arith) (omega arith) (omega arith) (omega arith) k small

pub raised_half : (w k : ℕ) → w < 2 ^ 32 → k < 4 → k % 2 ≡ 0 → raised w k / 2 ^ 16 ≡ half_of w k
raised_half w k h small even = two_cases (λ k. raised w k / 2 ^ 16 ≡ half_of w k) (omega arith) (omega arith) k small even

turned_is : (w n : ℕ) → w < 2 ^ 32 → n ≤ 31 → 1 ≤ n → rotate_left w32 w n ≡ funnel (32 - n) w w
turned_is w n h l m = sym (rotate_is w n h l m)

pub turned_by : (w : ℕ) → w < 2 ^ 32
    → (turned w 0 ≡ w) × ((turned w 1 ≡ (w % 2 ^ 24) * 2 ^ 8 + w / 2 ^ 24) × ((turned w 2 ≡ (w % 2 ^ 16) * 2 ^ 16 + w / 2 ^ 16)
    × (turned w 3 ≡ (w % 2 ^ 8) * 2 ^ 24 + w / 2 ^ 8)))
turned_by w h = (
  shift_none Rotate w h,
  (turned_is w 8 h (omega arith) (omega arith), (turned_is w 16 h (omega arith) (omega arith), turned_is w 24 h (omega arith) (omega arith))),
)

pub turned_byte : (w k : ℕ) → w < 2 ^ 32 → k < 4 → turned w k / 2 ^ 24 ≡ byte_of w k
turned_byte w k h small =
    let t = turned_by w h in
    let e0 = t.0 in
    let e1 = t.1.0 in
    let e2 = t.1.1.0 in
    let e3 = t.1.1.1 in
    four_cases (λ k. turned w k / 2 ^ 24 ≡ byte_of w k) (ap (λ x. x / 2 ^ 24) e0 ∙ first) (ap (λ x. x / 2 ^ 24) e1 ∙ second)
    (ap (λ x. x / 2 ^ 24) e2 ∙ third) (ap (λ x. x / 2 ^ 24) e3 ∙ fourth) k small
  where
    first : w / 2 ^ 24 ≡ w / 2 ^ 24 % 256
    first = omega arith

    second : ((w % 2 ^ 24) * 2 ^ 8 + w / 2 ^ 24) / 2 ^ 24 ≡ w / 2 ^ 16 % 256
    second = omega arith

    third : ((w % 2 ^ 16) * 2 ^ 16 + w / 2 ^ 16) / 2 ^ 24 ≡ w / 2 ^ 8 % 256
    third = omega arith

    fourth : ((w % 2 ^ 8) * 2 ^ 24 + w / 2 ^ 8) / 2 ^ 24 ≡ w % 256
    fourth = omega arith

pub turned_half : (w k : ℕ) → w < 2 ^ 32 → k < 4 → k % 2 ≡ 0 → turned w k / 2 ^ 16 ≡ half_of w k
turned_half w k h small even =
    let t = turned_by w h in
    two_cases (λ k. turned w k / 2 ^ 16 ≡ half_of w k) (ap (λ x. x / 2 ^ 16) t.0) (ap (λ x. x / 2 ^ 16) t.1.1.0 ∙ low) k small even
  where
    low : ((w % 2 ^ 16) * 2 ^ 16 + w / 2 ^ 16) / 2 ^ 16 ≡ w % 2 ^ 16
    low = omega arith

-- ---- the part at the top goes down

pub byte_down : (signed : Bool) (y : ℕ) → y < 2 ^ 32 → shifted_by (down signed) y (24 % 32) ≡ extended signed 8 (y / 2 ^ 24)
byte_down true y h = grind (arith, nat_tests)
byte_down false y h = refl

pub half_down : (signed : Bool) (y : ℕ) → y < 2 ^ 32 → shifted_by (down signed) y (16 % 32) ≡ extended signed 16 (y / 2 ^ 16)
half_down true y h = grind (arith, nat_tests)
half_down false y h = refl

-- ---- what a part shows

-- each byte of a word is that of these, where it is specified
abbrev pub ShowsBytes : Bytes → ℕ → Type 0
ShowsBytes b w =
    ShowsByte b.first (w / 2 ^ 24 % 256) × ShowsByte b.second (w / 2 ^ 16 % 256) × ShowsByte b.third (w / 2 ^ 8 % 256)
    × ShowsByte b.fourth (w % 256)

number_bytes : (n w : ℕ) → w ≡ n → ShowsBytes (word_bytes n) w
number_bytes n w e =
    (ap (λ x. x / 2 ^ 24 % 256) e, ap (λ x. x / 2 ^ 16 % 256) e, ap (λ x. x / 2 ^ 8 % 256) e, ap (λ x. x % 256) e)

pub bytes_shown : (v : Value) (b : Bytes) (w : ℕ) → bytes_of v ≡ Ok b → ShowsData v w → ShowsBytes b w
bytes_shown (Number n) b w e h = let q : word_bytes n ≡ b = cc in subst (λ x. ShowsBytes x w) q (number_bytes n w (h refl))
bytes_shown (Code item) b w e h = absurd (cc)
bytes_shown (Partial bytes) b w e h = let q : bytes ≡ b = cc in subst (λ x. ShowsBytes x w) q (h refl)

pub byte_shown : (b : Bytes) (w k : ℕ) → k < 4 → ShowsBytes b w → ShowsByte (byte_at b k) (byte_of w k)
byte_shown b w k small h = four_cases (λ k. ShowsByte (byte_at b k) (byte_of w k)) h.0 h.1 h.2 h.3 k small

pub byte_value_shown : (signed : Bool) (o : Option ℕ) (x : ℕ) → ShowsByte o x → ShowsValue (byte_value signed o) (extended signed 8 x)
byte_value_shown signed (Some b) x h = ap (extended signed 8) h
byte_value_shown signed None x h = (tt, tt, tt, tt)

half_value_shown : (signed : Bool) (o p : Option ℕ) (x y z : ℕ) → x * 256 + y ≡ z → ShowsByte o x → ShowsByte p y
    → ShowsValue (half_value signed o p) (extended signed 16 z)
half_value_shown signed (Some a) (Some b) x y z e h k =
    ap (extended signed 16) (sym e ∙ ap (λ i. i * 256 + y) h ∙ ap (λ i. a * 256 + i) k)
half_value_shown signed (Some a) None x y z e h k = (tt, tt, tt, tt)
half_value_shown signed None p x y z e h k = (tt, tt, tt, tt)

pub half_shown : (signed : Bool) (b : Bytes) (w k : ℕ) → w < 2 ^ 32 → k < 4 → k % 2 ≡ 0 → ShowsBytes b w
    → ShowsValue (half_at signed b k) (extended signed 16 (half_of w k))
half_shown signed b w k fits small even h =
    two_cases (λ k. ShowsValue (half_at signed b k) (extended signed 16 (half_of w k)))
    (half_value_shown signed b.first b.second (w / 2 ^ 24 % 256) (w / 2 ^ 16 % 256) (w / 2 ^ 16) high h.0 h.1)
    (half_value_shown signed b.third b.fourth (w / 2 ^ 8 % 256) (w % 256) (w % 2 ^ 16) low h.2 h.3) k small even
  where
    high : (w / 2 ^ 24 % 256) * 256 + w / 2 ^ 16 % 256 ≡ w / 2 ^ 16
    high = omega arith

    low : (w / 2 ^ 8 % 256) * 256 + w % 256 ≡ w % 2 ^ 16
    low = omega arith
