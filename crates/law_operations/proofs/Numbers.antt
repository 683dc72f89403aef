-- Numbers that are put into registers, and sums with numbers.
use Rattle.std.proofs.Common.{◌≡◌, ◌≢◌, ◌<◌, ◌^◌, ℕ, ◌+◌, ◌%◌, Bool, true, false, cond, ◌&&◌, ◌||◌, ◌==◌, List, [], ◌∷◌, ◌++◌, Option, Some, None, ◌⊎◌, refl, sym, ap, ◌∙◌, arith, ⊎_elim, inl, inr, subst}
use Rattle.std.specs.Int.{w32, cast_signed, cast_unsigned}
use Rattle.std.proofs.lemmas.Bool.Decides.{nat_tests}
use Rattle.std.proofs.lemmas.Int.{of_z-to_z}
use Rattle.mx_isa.specs.Arithmetic.{word_of}
use Rattle.mx_isa.specs.Words.{Words, reg, write}
use Rattle.mx_isa.specs.Effect.{Core, Bus}
use Rattle.mx_isa.specs.declared.inst.Op.TheVariants as machine
use Rattle.mx_isa.proofs.Frame.{reg_write}
use Rattle.cc_emit.specs.declared.line.Computed.TheVariants.{Add}
use Rattle.cc_emit.specs.declared.line.Line.{Line}
use Rattle.cc_emit.specs.declared.line.Line.TheVariants.{Constant}
use Rattle.cc_emit.specs.declared.line.Plain.TheVariants.{Compute, Addi}
use Rattle.cc_emit.specs.Lines.{is_short}
use Rattle.cc_meaning.specs.declared.value.Value.TheVariants.{Number}
use Rattle.cc_operations.specs.Operations.{lines}
use Rattle.cc_operations.specs.Numbers.{Put, instructions, is_held, constant, addend, long_sum, sum, added}
use Rattle.law_operations.specs.Runs.{ran, ran_from, ran_lines, HoldsWords, HoldsFirst, Gives, Leaves}
use Rattle.law_operations.proofs.Steps.{written, gives_as, computes}
use Rattle.law_operations.proofs.Rest.{Sets, gives_set, leaves_by, known_after}

-- lines of a number, by whether it is there already
abbrev pub held_lines : Bool → ℕ → ℕ → List Line
held_lines t value rd = cond t [] (Constant value rd ∷ [])

pub sets_held : (t : Bool) (value rd : ℕ) (bus : Bus) (s : Core) → HoldsWords s.regs → value < 2 ^ 32 → (t ≡ true → reg s.regs rd ≡ value)
    → Sets rd value s (ran_from bus None (held_lines t value rd) s)
sets_held true value rd bus s h small there =
    record { given = λ ne. there refl; kept = λ n k. refl; md = refl; mem = refl; taken = refl; words = h }
sets_held false value rd bus s h small there =
    let g = written rd value s h small in
    record { given = g.given; kept = λ n k. reg_write s.regs rd value n k; md = refl; mem = refl; taken = refl; words = g.words }

is_first : (first : Option ℕ) (value rd : ℕ) → is_held first value rd ≡ true → (rd ≡ 1) × (first ≡ Some value)
is_first None value rd e = absurd (both_false (rd == 1) e)
  where
    both_false : (b : Bool) → (b && false) ≡ true → ⊥
    both_false true h = absurd (cc)
    both_false false h = absurd (cc)
is_first (Some n) value rd e =
    let p : rd ≡ 1 = grind (arith, nat_tests) in
    let q : n ≡ value = grind (arith, nat_tests) in
    (p, ap Some q)

pub is_there : (first : Option ℕ) (value rd : ℕ) (r : Words) → HoldsFirst first r → is_held first value rd ≡ true → reg r rd ≡ value
is_there first value rd r h e = let f = is_first first value rd e in ap (reg r) f.0 ∙ h value f.1

pub constant_sets : (first : Option ℕ) (value rd : ℕ) (bus : Bus) (s : Core) → HoldsWords s.regs → HoldsFirst first s.regs → value < 2 ^ 32
    → Sets rd value s (ran_lines bus (constant first value rd).lines s)
constant_sets first value rd bus s h k small = sets_held (is_held first value rd) value rd bus s h small (is_there first value rd s.regs k)

some_is : (x y : ℕ) → Some x ≡ Some y → x ≡ y
some_is x y e = cc

-- what is known of r1 after a number is put into a register
known_by : (t : Bool) (first : Option ℕ) (value rd : ℕ) (s u : Core) → HoldsFirst first s.regs → Sets rd value s u
    → (t ≡ true → rd ≡ 1) → (t ≡ false → rd ≢ 1) → HoldsFirst (cond t (Some value) first) u.regs
known_by true first value rd s u h g is not n e =
    let at : rd ≡ 1 = is refl in
    let ne : rd ≢ 0 = omega arith in
    ap (reg u.regs) (sym at) ∙ g.given ne ∙ some_is value n e
known_by false first value rd s u h g is not n e = g.kept 1 (λ q. absurd (not refl (sym q))) ∙ h n e

is_one : (n : ℕ) → (n == 1) ≡ true → n ≡ 1
is_one n h = grind (arith, nat_tests)

not_one : (n : ℕ) → (n == 1) ≡ false → n ≢ 1
not_one n h = grind (arith, nat_tests)

pub constant_known : (first : Option ℕ) (value rd : ℕ) (s u : Core) → HoldsFirst first s.regs → Sets rd value s u
    → HoldsFirst (constant first value rd).first u.regs
constant_known first value rd s u h g = known_by (rd == 1) first value rd s u h g (is_one rd) (not_one rd)

pub constant_leaves : (first : Option ℕ) (value rd : ℕ) (bus : Bus) (s : Core) → HoldsWords s.regs → HoldsFirst first s.regs → value < 2 ^ 32
    → Leaves rd (Number value) (constant first value rd).first s (ran_lines bus (constant first value rd).lines s)
constant_leaves first value rd bus s h k small =
    let g = constant_sets first value rd bus s h k small in
    leaves_by _ rd _ s _ (constant_known first value rd s _ k g) (gives_set rd value s _ g)

-- ---- sums

-- the number of an `addi`
pub addi_sum : (a value : ℕ) → value < 2 ^ 32 → word_of (a + cast_unsigned w32 (cast_signed w32 value)) ≡ (a + value) % 2 ^ 32
addi_sum a value small = ap (λ m. word_of (a + m)) (of_z-to_z w32 value small)

-- the sum in r1 is no known number
sum_known : (t : Bool) (first : Option ℕ) (u : Core) → (t ≡ false → HoldsFirst first u.regs) → HoldsFirst (cond t None first) u.regs
sum_known true first u h n e = absurd (cc)
sum_known false first u h n e = h refl n e

abbrev Sum : ℕ → ℕ → ℕ → Core → Put → Bus → Type 0
Sum rs value rd s put bus =
    Leaves rd (Number ((reg s.regs rs + value) % 2 ^ 32)) (cond (rd == 1) None put.first) s (ran_lines bus put.lines s)

short_sum : (first : Option ℕ) (rs value rd : ℕ) (bus : Bus) (s : Core) → HoldsWords s.regs → HoldsFirst first s.regs → value < 2 ^ 32
    → Sum rs value rd s (instructions first (Addi rs (cast_signed w32 value) rd ∷ [])) bus
short_sum first rs value rd bus s h k small =
    let v = word_of (reg s.regs rs + cast_unsigned w32 (cast_signed w32 value)) in
    let fits : v < 2 ^ 32 = omega arith in
    let u : Core = record s { regs = write s.regs rd v } in
    let w = (reg s.regs rs + value) % 2 ^ 32 in
    let g : Gives rd (Number w) s u = gives_as rd v w s u (λ ne. addi_sum (reg s.regs rs) value small) (written rd v s h fits) in
    leaves_by (cond (rd == 1) None first) rd (Number w) s u
    (sum_known (rd == 1) first u (λ e. known_after first rd (Number w) s u (not_one rd e) k g)) g

-- the register that takes the number is another than rs and r0
addend_is : (t : Bool) (rs rd : ℕ) → rs ≢ 1 → (t ≡ false → (rd ≢ rs) × (rd ≢ 0))
    → let w = cond t 1 rd in (rs ≢ w) × ((w ≢ 0) × ((w ≡ 1) ⊎ (w ≡ rd)))
addend_is true rs rd ne other = let z : 1 ≢ 0 = omega arith in (ne, (z, inl refl))
addend_is false rs rd ne other = (λ e. (other refl).0 (sym e), ((other refl).1, inr refl))

not_either : (rs rd : ℕ) → (rd == rs || rd == 0) ≡ false → (rd ≢ rs) × (rd ≢ 0)
not_either rs rd e = (let p : rd ≢ rs = grind (arith, nat_tests) in p, let q : rd ≢ 0 = grind (arith, nat_tests) in q)

-- a number in w, and then the sum
summed : (first : Option ℕ) (rs value rd w : ℕ) (bus : Bus) (s t : Core) → rs ≢ w → w ≢ 0 → (w ≡ 1) ⊎ (w ≡ rd)
    → Sets w value s t → HoldsFirst first t.regs
    → Leaves rd (Number ((reg s.regs rs + value) % 2 ^ 32)) (cond (rd == 1) None first) s (ran bus (Compute Add rs w rd ∷ []) t)
summed first rs value rd w bus s t ne nz where_is g k =
    let u = ran bus (Compute Add rs w rd ∷ []) t in
    let seen : word_of (reg t.regs rs + reg t.regs w) ≡ (reg s.regs rs + value) % 2 ^ 32 =
    ap (λ m. word_of (m + reg t.regs w)) (g.kept rs (λ e. absurd (ne e))) ∙ ap (λ m. word_of (reg s.regs rs + m)) (g.given nz) in
    let c = gives_as rd _ _ t u (λ q. seen) (computes bus rs rd w machine.Add t g.words tt refl) in
    record {
      given = c.given;
      known = sum_known (rd == 1) first u (λ e. known_after first rd _ t u (not_one rd e) k c);
      kept = λ n d l m. c.kept n d m ∙ g.kept n (λ e. ⊎_elim (λ q. absurd (l (e ∙ q))) (λ q. d (e ∙ q)) where_is);
      md = c.md ∙ g.md;
      mem = c.mem ∙ g.mem;
      taken = c.taken ∙ g.taken;
      words = c.words;
    }

-- what follows the lines of a number
pub held_then : (t : Bool) (value w : ℕ) (rest : List Line) (bus : Bus) (s : Core)
    → ran_from bus None (held_lines t value w ++ rest) s ≡ ran_from bus None rest (ran_from bus None (held_lines t value w) s)
held_then true value w rest bus s = refl
held_then false value w rest bus s = refl

long_leaves : (first : Option ℕ) (rs value rd : ℕ) (bus : Bus) (s : Core) → HoldsWords s.regs → HoldsFirst first s.regs → value < 2 ^ 32 → rs ≢ 1
    → Sum rs value rd s (long_sum first rs value rd) bus
long_leaves first rs value rd bus s h k small ne =
    let w = addend rs rd in
    let a = addend_is (rd == rs || rd == 0) rs rd ne (not_either rs rd) in
    let g = constant_sets first value w bus s h k small in
    subst (Leaves rd (Number ((reg s.regs rs + value) % 2 ^ 32)) (cond (rd == 1) None (constant first value w).first) s)
    (sym (held_then (is_held first value w) value w (lines (Compute Add rs w rd ∷ [])) bus s))
    (summed _ rs value rd w bus s _ a.0 a.1.0 a.1.1 g (constant_known first value w s _ k g))

sum_by : (t : Bool) (first : Option ℕ) (rs value rd : ℕ) (bus : Bus) (s : Core) → HoldsWords s.regs → HoldsFirst first s.regs → value < 2 ^ 32 → rs ≢ 1
    → Sum rs value rd s (cond t (instructions first (Addi rs (cast_signed w32 value) rd ∷ [])) (long_sum first rs value rd)) bus
sum_by true first rs value rd bus s h k small ne = short_sum first rs value rd bus s h k small
sum_by false first rs value rd bus s h k small ne = long_leaves first rs value rd bus s h k small ne

added_by : (t : Bool) (first : Option ℕ) (rs value rd : ℕ) (bus : Bus) (s : Core) → HoldsWords s.regs → HoldsFirst first s.regs → value < 2 ^ 32 → rs ≢ 1
    → (t ≡ true → reg s.regs rs ≡ 0)
    → let put = cond t (constant first value rd)
    (record { lines = (sum first rs value rd).lines; first = cond (rd == 1) None (sum first rs value rd).first }) in
    Leaves rd (Number ((reg s.regs rs + value) % 2 ^ 32)) put.first s (ran_lines bus put.lines s)
added_by true first rs value rd bus s h k small ne z =
    let none = z refl in
    let e : value ≡ (reg s.regs rs + value) % 2 ^ 32 = omega arith in
    subst (λ v. Leaves rd (Number v) (constant first value rd).first s (ran_lines bus (constant first value rd).lines s)) e
    (constant_leaves first value rd bus s h k small)
added_by false first rs value rd bus s h k small ne z = sum_by (is_short (cast_signed w32 value)) first rs value rd bus s h k small ne

zero_reg : (r : Words) (n : ℕ) → (n == 0) ≡ true → reg r n ≡ 0
zero_reg r n h = grind (arith, nat_tests)

pub added_leaves : (first : Option ℕ) (rs value rd : ℕ) (bus : Bus) (s : Core) → HoldsWords s.regs → HoldsFirst first s.regs → value < 2 ^ 32 → rs ≢ 1
    → Leaves rd (Number ((reg s.regs rs + value) % 2 ^ 32)) (added first rs value rd).first s (ran_lines bus (added first rs value rd).lines s)
added_leaves first rs value rd bus s h k small ne = added_by (rs == 0) first rs value rd bus s h k small ne (zero_reg s.regs rs)
