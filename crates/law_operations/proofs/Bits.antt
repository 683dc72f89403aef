-- What the operations of the machine give, as numbers of the assembly's semantics.
use Rattle.std.proofs.Common.{◌≡◌, ◌≢◌, ◌≤◌, ◌<◌, ◌^◌, ℕ, ◌+◌, ◌-◌, ◌*◌, ◌/◌, ◌%◌, Bool, true, false, ◌⊎◌, refl, sym, ap, ◌∙◌, arith, subst, ⊎_elim, inl, inr, pow_pos}
use Rattle.std.specs.Prelude.{◌==◌, nat_lt, not, max}
use Rattle.std.specs.Int.{w32, rotate_left, bit_at}
use Rattle.std.specs.Int.RustNames.{bit_and, bit_or, bit_xor}
use Rattle.std.proofs.lemmas.Bool.{cases_eq, cases_Bool}
use Rattle.std.proofs.lemmas.Bool.Decides.{nat_tests}
use Rattle.std.proofs.lemmas.Int.{ints}
use Rattle.std.proofs.lemmas.Nat.Bits.{same_from_bits, bit_at_or}
use Rattle.std.proofs.lemmas.Nat.{and_shr, or_shr, and_comm, or_comm, xor_comm, mod-pow-add, or_shifted, shr_below, shr_high, mod_low}
use Rattle.mx_isa.specs.Arithmetic.{funnel}
use Rattle.cc_lines.specs.declared.instruction.Shift.{Shift}
use Rattle.cc_lines.specs.declared.instruction.Shift.TheVariants.{Left, Right, Arithmetic, Rotate}
use Rattle.cc_lines.specs.Conditions.{is_less}
use Rattle.cc_meaning.specs.Arithmetic.{truth, shifted_by}

under_or_not : (a b : ℕ) → (a < b) ⊎ (b ≤ a)
under_or_not a b = ⊎_elim (λ e. inl (lt_from a b e)) (λ e. inr (ge_from a b e)) (cases_Bool (nat_lt a b))
  where
    lt_from : (a b : ℕ) → nat_lt a b ≡ true → a < b
    lt_from a b e = grind (arith, nat_tests)

    ge_from : (a b : ℕ) → nat_lt a b ≡ false → b ≤ a
    ge_from a b e = grind (arith, nat_tests)

-- the highest bit of a word is 0 or 1
pub high : (n : ℕ) → 2 ^ 31 ≤ n → n < 2 ^ 32 → n / 2 ^ 31 ≡ 1
high n h k = omega arith

pub low : (n : ℕ) → n < 2 ^ 31 → n / 2 ^ 31 ≡ 0
low n h = omega arith

pub and_top : (x y p q : ℕ) → x / 2 ^ 31 ≡ p → y / 2 ^ 31 ≡ q → bit_and x y / 2 ^ 31 ≡ bit_and p q
and_top x y p q h k = and_shr x y 31 ∙ ap (λ m. bit_and m (y / 2 ^ 31)) h ∙ ap (bit_and p) k

pub or_top : (x y p q : ℕ) → x / 2 ^ 31 ≡ p → y / 2 ^ 31 ≡ q → bit_or x y / 2 ^ 31 ≡ bit_or p q
or_top x y p q h k = or_shr x y 31 ∙ ap (λ m. bit_or m (y / 2 ^ 31)) h ∙ ap (bit_or p) k

pub right_is : (x n : ℕ) → funnel n x 0 ≡ x / 2 ^ n
right_is x n = ap (λ m. m * 2 ^ (32 - n) + x / 2 ^ n) (zero_mod (2 ^ n)) ∙ none (2 ^ (32 - n)) (x / 2 ^ n)
  where
    zero_mod : (m : ℕ) → 0 % m ≡ 0
    zero_mod m = omega arith

    none : (m n : ℕ) → 0 * m + n ≡ n
    none m n = omega arith

pub or_zero : (a : ℕ) → bit_or a 0 ≡ a
or_zero a = or_comm a 0

pub xor_zero : (a : ℕ) → bit_xor a 0 ≡ a
xor_zero a = xor_comm a 0

or_self : (a : ℕ) → bit_or a a ≡ a
or_self a = same_from_bits (bit_or a a) a (λ i. bit_at_or a a i ∙ most (bit_at a i))
  where
    most : (n : ℕ) → max n n ≡ n
    most n = omega arith

zero_div : (m : ℕ) → 0 / m ≡ 0
zero_div m = omega arith

parts : (x n j : ℕ) → (x * 2 ^ n) % 2 ^ (j + n) ≡ (x % 2 ^ j) * 2 ^ n + 0
parts x n j =
    let e : x * 2 ^ n ≡ x * 2 ^ n + 0 = omega arith in
    ap (λ m. m % 2 ^ (j + n)) e
    ∙ mod-pow-add (x * 2 ^ n + 0) j n
    ∙ ap (λ m. m % 2 ^ j * 2 ^ n + (x * 2 ^ n + 0) % 2 ^ n) (shr_high x n 0 (pow_pos n))
    ∙ ap (λ m. x % 2 ^ j * 2 ^ n + m) (mod_low x n 0 (pow_pos n))

-- a shift to the left is the low part of a double word shifted right
pub left_is : (x n : ℕ) → n ≤ 31 → 1 ≤ n → funnel (32 - n) 0 x ≡ (x * 2 ^ n) % 2 ^ 32
left_is x n h k =
    let e : 32 - (32 - n) ≡ n = omega arith in
    let f : (32 - n) + n ≡ 32 = omega arith in
    ap (λ m. (x % 2 ^ (32 - n)) * 2 ^ m + 0 / 2 ^ (32 - n)) e
    ∙ ap (λ m. (x % 2 ^ (32 - n)) * 2 ^ n + m) (zero_div (2 ^ (32 - n)))
    ∙ sym (parts x n (32 - n))
    ∙ ap (λ m. (x * 2 ^ n) % 2 ^ m) f

-- r26 has bit 31 where r is 0, and where it is not
pub zero_top : (a : ℕ) → a < 2 ^ 32 → bit_and ((a + (2 ^ 32 - 1)) % 2 ^ 32) (2 ^ 32 - 1 - a) / 2 ^ 31 ≡ truth (a == 0)
zero_top a h =
    ⊎_elim (λ e. ap (λ n. bit_and ((n + (2 ^ 32 - 1)) % 2 ^ 32) (2 ^ 32 - 1 - n) / 2 ^ 31) e ∙ sym (ap (λ n. truth (n == 0)) e))
    (λ ne. other ne ∙ sym (ne_eqb' ne)) (cases_eq a 0)
  where
    ne_eqb' : a ≢ 0 → truth (a == 0) ≡ 0
    ne_eqb' ne = grind (arith, nat_tests)

    other : a ≢ 0 → bit_and ((a + (2 ^ 32 - 1)) % 2 ^ 32) (2 ^ 32 - 1 - a) / 2 ^ 31 ≡ 0
    other ne = ⊎_elim
        (λ k. let e : (a + (2 ^ 32 - 1)) % 2 ^ 32 / 2 ^ 31 ≡ 0 = omega arith in and_top _ _ 0 ((2 ^ 32 - 1 - a) / 2 ^ 31) e refl)
        (λ k. let e : (2 ^ 32 - 1 - a) / 2 ^ 31 ≡ 0 = omega arith in and_top _ _ ((a + (2 ^ 32 - 1)) % 2 ^ 32 / 2 ^ 31) 0 refl e ∙ and_comm _ 0)
        (under_or_not a (2 ^ 31))

pub not_zero_top : (a : ℕ) → a < 2 ^ 32 → bit_or ((0 + (2 ^ 32 - a)) % 2 ^ 32) a / 2 ^ 31 ≡ truth (not (a == 0))
not_zero_top a h =
    ⊎_elim (λ e. ap (λ n. bit_or ((0 + (2 ^ 32 - n)) % 2 ^ 32) n / 2 ^ 31) e ∙ sym (ap (λ n. truth (not (n == 0))) e))
    (λ ne. other ne ∙ sym (ne_eqb' ne)) (cases_eq a 0)
  where
    ne_eqb' : a ≢ 0 → truth (not (a == 0)) ≡ 1
    ne_eqb' ne = grind (arith, nat_tests)

    other : a ≢ 0 → bit_or ((0 + (2 ^ 32 - a)) % 2 ^ 32) a / 2 ^ 31 ≡ 1
    other ne = ⊎_elim
        (λ k. let e : (0 + (2 ^ 32 - a)) % 2 ^ 32 / 2 ^ 31 ≡ 1 = omega arith in let f : a / 2 ^ 31 ≡ 0 = omega arith in or_top _ _ 1 0 e f)
        (λ k. ⊎_elim
        (λ q. let e : (0 + (2 ^ 32 - a)) % 2 ^ 32 / 2 ^ 31 ≡ 1 = omega arith in let f : a / 2 ^ 31 ≡ 1 = omega arith in or_top _ _ 1 1 e f)
        (λ q. let e : (0 + (2 ^ 32 - a)) % 2 ^ 32 / 2 ^ 31 ≡ 0 = omega arith in let f : a / 2 ^ 31 ≡ 1 = omega arith in or_top _ _ 0 1 e f)
        (cases_eq a (2 ^ 31)))
        (under_or_not a (2 ^ 31))

-- a register is negative
pub negative_top : (a : ℕ) → a < 2 ^ 32 → a / 2 ^ 31 ≡ truth (is_less a 0)
negative_top a h = grind (arith, ints, nat_tests)

-- the difference of a register and a number, and what corrects its bit 31
abbrev pub difference : ℕ → ℕ → ℕ
difference a v = (a + (2 ^ 32 - v) % 2 ^ 32) % 2 ^ 32

-- two numbers below 2 ^ 31, or two from 2 ^ 31 on
pub same_side : (a v : ℕ) → a < 2 ^ 32 → v < 2 ^ 32 → a / 2 ^ 31 ≡ v / 2 ^ 31 → difference a v / 2 ^ 31 ≡ truth (nat_lt a v)
same_side a v h k e = ⊎_elim
    (λ l. let f : (a + (2 ^ 32 - v) % 2 ^ 32) % 2 ^ 32 / 2 ^ 31 ≡ 1 = omega arith in f ∙ sym (ap truth (lt_to a v l)))
    (λ g. let f : (a + (2 ^ 32 - v) % 2 ^ 32) % 2 ^ 32 / 2 ^ 31 ≡ 0 = omega arith in f ∙ sym (ap truth (ge_to a v g)))
    (under_or_not a v)
  where
    lt_to : (a b : ℕ) → a < b → nat_lt a b ≡ true
    lt_to a b e = grind (arith, nat_tests)

    ge_to : (a b : ℕ) → b ≤ a → nat_lt a b ≡ false
    ge_to a b e = grind (arith, nat_tests)

pub lower_top : (a v : ℕ) → a < 2 ^ 32 → v < 2 ^ 31 → bit_and (difference a v) (2 ^ 32 - 1 - a) / 2 ^ 31 ≡ truth (nat_lt a v)
lower_top a v h k = ⊎_elim
    (λ l. let e : (2 ^ 32 - 1 - a) / 2 ^ 31 ≡ 1 = omega arith in let d : a / 2 ^ 31 ≡ v / 2 ^ 31 = omega arith in let v' : v < 2 ^ 32 = omega arith in
    and_top _ _ (truth (nat_lt a v)) 1 (same_side a v h v' d) e ∙ kept (nat_lt a v))
    (λ g. let e : (2 ^ 32 - 1 - a) / 2 ^ 31 ≡ 0 = omega arith in
    and_top _ _ (difference a v / 2 ^ 31) 0 refl e ∙ and_comm _ 0 ∙ sym (ap truth (ge_to a v g k)))
    (under_or_not a (2 ^ 31))
  where
    kept : (b : Bool) → bit_and (truth b) 1 ≡ truth b
    kept true = refl
    kept false = refl

    ge_to : (a b : ℕ) → 2 ^ 31 ≤ a → b < 2 ^ 31 → nat_lt a b ≡ false
    ge_to a b e f = grind (arith, nat_tests)

signed_alike : (a v : ℕ) → a < 2 ^ 32 → v < 2 ^ 32 → a / 2 ^ 31 ≡ v / 2 ^ 31 → is_less a v ≡ nat_lt a v
signed_alike a v h k e = grind (arith, ints, nat_tests)

-- a number that is not negative
pub less_top : (a v : ℕ) → a < 2 ^ 32 → v < 2 ^ 31 → bit_or (difference a v) a / 2 ^ 31 ≡ truth (is_less a v)
less_top a v h k = ⊎_elim
    (λ l. let e : a / 2 ^ 31 ≡ 0 = omega arith in let d : a / 2 ^ 31 ≡ v / 2 ^ 31 = omega arith in let v' : v < 2 ^ 32 = omega arith in
    or_top _ _ (truth (nat_lt a v)) 0 (same_side a v h v' d) e ∙ or_zero _ ∙ sym (ap truth (signed_alike a v h v' d)))
    (λ g. let e : a / 2 ^ 31 ≡ 1 = omega arith in
    or_top _ _ (difference a v / 2 ^ 31) 1 refl e ∙ full (difference a v / 2 ^ 31) (top_small a v) ∙ sym (ap truth (is_under a v g h k)))
    (under_or_not a (2 ^ 31))
  where
    top_small : (a v : ℕ) → difference a v / 2 ^ 31 ≤ 1
    top_small a v = omega arith

    full : (n : ℕ) → n ≤ 1 → bit_or n 1 ≡ 1
    full n h = ⊎_elim (λ e. ap (λ m. bit_or m 1) e) (λ ne. let e : n ≡ 1 = omega arith in ap (λ m. bit_or m 1) e) (cases_eq n 0)

    is_under : (a v : ℕ) → 2 ^ 31 ≤ a → a < 2 ^ 32 → v < 2 ^ 31 → is_less a v ≡ true
    is_under a v g h k = grind (arith, ints, nat_tests)

-- a negative number
pub less_negative_top : (a v : ℕ) → a < 2 ^ 32 → 2 ^ 31 ≤ v → v < 2 ^ 32 → bit_and (difference a v) a / 2 ^ 31 ≡ truth (is_less a v)
less_negative_top a v h j k = ⊎_elim
    (λ l. let e : a / 2 ^ 31 ≡ 0 = omega arith in
    and_top _ _ (difference a v / 2 ^ 31) 0 refl e ∙ and_comm _ 0 ∙ sym (ap truth (not_under a v l j k)))
    (λ g. let e : a / 2 ^ 31 ≡ 1 = omega arith in let d : a / 2 ^ 31 ≡ v / 2 ^ 31 = omega arith in
    and_top _ _ (truth (nat_lt a v)) 1 (same_side a v h k d) e ∙ kept (nat_lt a v) ∙ sym (ap truth (signed_alike a v h k d)))
    (under_or_not a (2 ^ 31))
  where
    kept : (b : Bool) → bit_and (truth b) 1 ≡ truth b
    kept true = refl
    kept false = refl

    not_under : (a v : ℕ) → a < 2 ^ 31 → 2 ^ 31 ≤ v → v < 2 ^ 32 → is_less a v ≡ false
    not_under a v g h k = grind (arith, ints, nat_tests)

-- a rotation is a double word with the same halves shifted right
pub rotate_is : (x n : ℕ) → x < 2 ^ 32 → n ≤ 31 → 1 ≤ n → funnel (32 - n) x x ≡ rotate_left w32 x n
rotate_is x n small h k =
    let c : n % 32 ≡ n = omega arith in
    let d : (32 - n) % 32 ≡ 32 - n = omega arith in
    let e : 32 - (32 - n) ≡ n = omega arith in
    let f : (32 - n) + n ≡ 32 = omega arith in
    let g : n + (32 - n) ≡ 32 = omega arith in
    let below : x / 2 ^ (32 - n) < 2 ^ n = shr_below x n (32 - n) (subst (λ m. x < 2 ^ m) (sym g) small) in
    let none : x % 2 ^ (32 - n) * 2 ^ n + 0 ≡ x % 2 ^ (32 - n) * 2 ^ n = omega arith in
    ap (λ m. x % 2 ^ (32 - n) * 2 ^ m + x / 2 ^ (32 - n)) e
    ∙ sym (or_shifted (x % 2 ^ (32 - n)) n (x / 2 ^ (32 - n)) below)
    ∙ ap (λ m. bit_or m (x / 2 ^ (32 - n))) (sym (parts x n (32 - n) ∙ none) ∙ ap (λ m. (x * 2 ^ n) % 2 ^ m) f)
    ∙ sym (ap (λ m. bit_or ((x * 2 ^ n) % 2 ^ 32) (x / 2 ^ m)) d)
    ∙ sym (ap (λ m. bit_or ((x * 2 ^ m) % 2 ^ 32) (x / 2 ^ ((32 - m) % 32))) c)

-- a shift by 0
pub shift_none : (o : Shift) (x : ℕ) → x < 2 ^ 32 → shifted_by o x 0 ≡ x
shift_none Left x h = omega arith
shift_none Right x h = omega arith
shift_none Arithmetic x h = grind (arith, nat_tests)
shift_none Rotate x h =
    let e : (x * 2 ^ 0) % 2 ^ 32 ≡ x = omega arith in
    let f : x / 2 ^ 0 ≡ x = omega arith in
    ap (λ m. bit_or m (x / 2 ^ 0)) e ∙ ap (bit_or x) f ∙ or_self x
