-- Every instruction has one word, and every word at most one instruction.
use Rattle.std.proofs.Common.{◌≡◌, ◌↔◌, ℕ, ◌+◌, ◌-◌, ◌*◌, ◌/◌, ◌%◌, ◌≤◌, ◌<◌, ◌^◌, Bool, true, false, suc, arith, refl, sym, ◌∙◌, ap, cond, nat_lt, nat_eq, Some, None, Option, IfSome, subst, ⊎_elim}
use Rattle.std.specs.Prelude.{ℤ, pos, negsuc, nat_le, ◌==◌, ◌&&◌}
use Rattle.std.proofs.lemmas.Bool.{cases_Bool}
use Rattle.std.proofs.lemmas.Bool.Decides.{nat_tests}
use Rattle.mx_isa.specs.Fields.{InstFits, IsSignedField, OpFits}
use Rattle.mx_isa.specs.declared.inst.Cond.{Cond}
use Rattle.mx_isa.specs.declared.inst.Cond.TheVariants.{Eq}
use Rattle.mx_isa.specs.declared.inst.Special.{Special}
use Rattle.mx_isa.specs.declared.inst.Special.TheVariants.{Md}
use Rattle.mx_isa.specs.declared.inst.Op.{Op}
use Rattle.mx_isa.specs.declared.inst.Op.TheVariants.{Not, Mstart, Asr, Sh}
use Rattle.mx_isa.specs.declared.inst.Inst.{Inst}
use Rattle.mx_isa.specs.declared.inst.Inst.TheVariants.{Load, Store, Branch, Compute, Addi, MoveFrom, MoveTo, Jspci, Jpc, Jpcrs, Halt}
use Rattle.mx_code.specs.Codes.{Codes, HasRegisters, word_of_row, assembled, signed_bits, number_of_cond, number_of_special, opcode_of, function_of, squash_bit}
use Rattle.mx_code.specs.Decoding.{field, signed_of, memory_row, immediate_row, cond_row, special_row, plain_op_row, shift_row, branch_row, compute_row, row_of, branch_with, compute_with, from_with, to_with, inst_of}

-- an opcode, two registers and a rest within their widths
pub record AreFields (o f s r : ℕ) : Type 0 where
  pub op : o < 8
  pub first : f < 32
  pub second : s < 32
  pub rest : r < 2 ^ 17

alone : (o : ℕ) → o < 8 → AreFields o 0 0 0
alone o op = record { op = op; first = omega arith; second = omega arith; rest = omega arith }

-- a word is assembled from its fields
pub assembled_fields : (w : ℕ) → assembled (w / 2 ^ 30) (field 27 3 w) (field 22 5 w) (field 17 5 w) (field 0 17 w) ≡ w
assembled_fields w = omega arith

-- and its instruction is that of the fields from which it is assembled
pub by_fields : (k o f s r w : ℕ) → AreFields o f s r → w ≡ assembled k o f s r → inst_of w ≡ row_of k o f s r
by_fields k o f s r w b e =
    let p : w / 2 ^ 30 ≡ k = omega arith in
    let q : field 27 3 w ≡ o = omega arith in
    let t : field 22 5 w ≡ f = omega arith in
    let u : field 17 5 w ≡ s = omega arith in
    let v : field 0 17 w ≡ r = omega arith in
    ap (λ x. row_of x (field 27 3 w) (field 22 5 w) (field 17 5 w) (field 0 17 w)) p
    ∙ ap (λ x. row_of k x (field 22 5 w) (field 17 5 w) (field 0 17 w)) q
    ∙ ap (λ x. row_of k o x (field 17 5 w) (field 0 17 w)) t
    ∙ ap (λ x. row_of k o f x (field 0 17 w)) u
    ∙ ap (λ x. row_of k o f s x) v

-- the type and the opcode are the five bits at the top
pub by_top : (w : ℕ) → row_of (w / 2 ^ 27 / 8) (w / 2 ^ 27 % 8) (field 22 5 w) (field 17 5 w) (field 0 17 w) ≡ inst_of w
by_top w =
    let type : w / 2 ^ 27 / 8 ≡ w / 2 ^ 30 = omega arith in
    ap (λ k. row_of k (field 27 3 w) (field 22 5 w) (field 17 5 w) (field 0 17 w)) type

pub signed_again : (z : ℤ) → IsSignedField 16 z → signed_of 17 (signed_bits 17 z) ≡ z
signed_again (pos n) h = grind arith
signed_again (negsuc n) h = grind arith

pub signed_again_16 : (z : ℤ) → IsSignedField 15 z → signed_of 16 (signed_bits 16 z) ≡ z
signed_again_16 (pos n) h = grind arith
signed_again_16 (negsuc n) h = grind arith

pub signed_within : (z : ℤ) → IsSignedField 16 z → signed_bits 17 z < 2 ^ 17
signed_within (pos n) h = omega arith
signed_within (negsuc n) h = omega arith

squash_within : (squash : Bool) (n : ℕ) → n < 2 ^ 16 → squash_bit squash * 2 ^ 16 + n < 2 ^ 17
squash_within true n h = omega arith
squash_within false n h = omega arith

squash_again : (squash : Bool) (n : ℕ) → n < 2 ^ 16 → nat_le (2 ^ 16) (squash_bit squash * 2 ^ 16 + n) ≡ squash
squash_again true n h = grind (arith, nat_tests)
squash_again false n h = grind (arith, nat_tests)

low_again : (squash : Bool) (n : ℕ) → n < 2 ^ 16 → (squash_bit squash * 2 ^ 16 + n) % 2 ^ 16 ≡ n
low_again true n h = omega arith
low_again false n h = omega arith

cond_again : (condition : Cond) → cond_row (number_of_cond condition) ≡ Some condition
cond_again Eq = refl
cond_again _ = refl

cond_within : (condition : Cond) → number_of_cond condition < 8
cond_within Eq = omega arith
cond_within _ = omega arith

signed_within_16 : (z : ℤ) → IsSignedField 15 z → signed_bits 16 z < 2 ^ 16
signed_within_16 (pos n) h = omega arith
signed_within_16 (negsuc n) h = omega arith

special_again : (special : Special) → special_row (number_of_special special) ≡ Some special
special_again Md = refl
special_again _ = refl

special_within : (special : Special) → number_of_special special < 4
special_within Md = omega arith
special_within _ = omega arith

function_within : (op : Op) (a b : ℕ) → OpFits op a b → function_of op < 2 ^ 12
function_within (Asr n) a b h = omega (arith, h.0)
function_within (Sh n) a b h = omega (arith, h)
function_within _ a b h = omega arith

opcode_within : (op : Op) → opcode_of op < 8
opcode_within (Asr n) = omega arith
opcode_within (Sh n) = omega arith
opcode_within _ = omega arith

asr_again : (n : ℕ) → n ≤ 31 → shift_row n 0 ≡ Some (Asr n)
asr_again n h = grind (arith, nat_tests)

sh_again : (n b : ℕ) → n ≤ 31 → shift_row (256 + n) b ≡ Some (Sh n)
sh_again n b h = grind (arith, nat_tests)

abbrev op_row : ℕ → ℕ → ℕ → ℕ → Option Op
op_row opcode function a b = cond (nat_eq opcode 0) (plain_op_row function a b) (shift_row function b)

op_again : (op : Op) (a b : ℕ) → OpFits op a b → op_row (opcode_of op) (function_of op) a b ≡ Some op
op_again Not a b h = ap (λ x. plain_op_row 7 a x) h
op_again Mstart a b h = ap (λ x. plain_op_row 9 x b) h
op_again (Asr n) a b h = ap (λ x. shift_row n x) h.1 ∙ asr_again n h.0
op_again (Sh n) a b h = sh_again n b h
op_again _ a b h = refl

-- a compute row by its operation
compute_by_op : (op : Op) (a b rest : ℕ) → compute_row (opcode_of op) a b rest ≡ compute_with a b rest (op_row (opcode_of op) (rest % 2 ^ 12) a b)
compute_by_op (Asr n) a b rest = refl
compute_by_op (Sh n) a b rest = refl
compute_by_op _ a b rest = refl

compute_again : (op : Op) (a b dest : ℕ) → OpFits op a b → compute_row (opcode_of op) a b (dest * 2 ^ 12 + function_of op) ≡ Some (Compute a dest b op)
compute_again op a b dest h =
    let small = function_within op a b h in
    let low : (dest * 2 ^ 12 + function_of op) % 2 ^ 12 ≡ function_of op = omega arith in
    let high : (dest * 2 ^ 12 + function_of op) / 2 ^ 12 ≡ dest = omega arith in
    compute_by_op op a b (dest * 2 ^ 12 + function_of op)
    ∙ ap (λ x. compute_with a b (dest * 2 ^ 12 + function_of op) (op_row (opcode_of op) x a b)) low
    ∙ ap (compute_with a b (dest * 2 ^ 12 + function_of op)) (op_again op a b h)
    ∙ ap (λ d. Some (Compute a d b op)) high

from_again : (special : Special) (dest : ℕ) → compute_row 2 0 0 (dest * 2 ^ 12 + number_of_special special) ≡ Some (MoveFrom dest special)
from_again special dest =
    let small = special_within special in
    let low : (dest * 2 ^ 12 + number_of_special special) % 2 ^ 12 ≡ number_of_special special = omega arith in
    let high : (dest * 2 ^ 12 + number_of_special special) / 2 ^ 12 ≡ dest = omega arith in
    ap (λ x. from_with 0 0 (dest * 2 ^ 12 + number_of_special special) (special_row x)) low
    ∙ ap (from_with 0 0 (dest * 2 ^ 12 + number_of_special special)) (special_again special)
    ∙ ap (λ d. Some (MoveFrom d special)) high

branch_again : (condition : Cond) (a b : ℕ) (squash : Bool) (by : ℤ) → IsSignedField 15 by
    → branch_row (number_of_cond condition) a b (squash_bit squash * 2 ^ 16 + signed_bits 16 by) ≡ Some (Branch a b condition squash by)
branch_again condition a b squash by h =
    let rest : ℕ = squash_bit squash * 2 ^ 16 + signed_bits 16 by in
    let small = signed_within_16 by h in
    ap (branch_with a b rest) (cond_again condition)
    ∙ ap (λ x. Some (Branch a b condition x (signed_of 16 (rest % 2 ^ 16)))) (squash_again squash (signed_bits 16 by) small)
    ∙ ap (λ x. Some (Branch a b condition squash (signed_of 16 x))) (low_again squash (signed_bits 16 by) small)
    ∙ ap (λ x. Some (Branch a b condition squash x)) (signed_again_16 by h)

-- two registers and a signed number of 17 bits
by_number : (k o f s : ℕ) (z : ℤ) (w : ℕ) → o < 8 → (f ≤ 31) × (s ≤ 31) → IsSignedField 16 z → w ≡ assembled k o f s (signed_bits 17 z)
    → (i : ℤ → Inst) → row_of k o f s (signed_bits 17 z) ≡ Some (i (signed_of 17 (signed_bits 17 z))) → inst_of w ≡ Some (i z)
by_number k o f s z w op registers fits is i row =
    let first : f < 32 = omega (arith, registers.0) in
    let second : s < 32 = omega (arith, registers.1) in
    by_fields k o f s (signed_bits 17 z) w (record { op = op; first = first; second = second; rest = signed_within z fits }) is
    ∙ row
    ∙ ap (λ x. Some (i x)) (signed_again z fits)

-- a word that spells an instruction is decoded to it
pub spelled : (i : Inst) (w : ℕ) → Codes i w → inst_of w ≡ Some i
spelled (Load base dest offset) w c = by_number 2 0 base dest offset w (omega arith) c.registers c.fits c.word_is (λ z. Load base dest z) refl
spelled (Store base value offset) w c = by_number 2 1 base value offset w (omega arith) c.registers c.fits c.word_is (λ z. Store base value z) refl
spelled (Addi a dest imm) w c = by_number 3 0 a dest imm w (omega arith) c.registers c.fits c.word_is (λ z. Addi a dest z) refl
spelled (Jspci a dest imm) w c = by_number 3 1 a dest imm w (omega arith) c.registers c.fits c.word_is (λ z. Jspci a dest z) refl
spelled Jpc w c = by_fields 3 2 0 0 0 w (alone 2 (omega arith)) c.word_is
spelled Jpcrs w c = by_fields 3 3 0 0 0 w (alone 3 (omega arith)) c.word_is
spelled Halt w c = by_fields 3 4 0 0 0 w (alone 4 (omega arith)) c.word_is
spelled (Branch a b condition squash by) w c =
    by_fields 0 (number_of_cond condition) a b (squash_bit squash * 2 ^ 16 + signed_bits 16 by) w (record {
      op = cond_within condition;
      first =
          omega (arith, c.registers.0);
      second = omega (arith, c.registers.1);
      rest =
          squash_within squash (signed_bits 16 by) (signed_within_16 by c.fits);
    }) c.word_is
    ∙ branch_again condition a b squash by c.fits
spelled (Compute a dest b op) w c =
    let small = function_within op a b c.fits in
    by_fields 1 (opcode_of op) a b (dest * 2 ^ 12 + function_of op) w (record {
      op = opcode_within op;
      first = omega (arith, c.registers.0);
      second =
          omega (arith, c.registers.1);
      rest = omega (arith, c.registers.2);
    }) c.word_is
    ∙ compute_again op a b dest c.fits
spelled (MoveFrom dest special) w c =
    let small = special_within special in
    by_fields 1 2 0 0 (dest * 2 ^ 12 + number_of_special special) w (record {
      op = omega arith;
      first = omega arith;
      second = omega arith;
      rest =
          omega (arith, c.registers);
    }) c.word_is
    ∙ from_again special dest
spelled (MoveTo a special) w c =
    let small = special_within special in
    by_fields 1 3 a 0 (number_of_special special) w (record {
      op = omega arith;
      first = omega (arith, c.registers);
      second = omega arith;
      rest =
          omega arith;
    }) c.word_is
    ∙ ap (to_with a 0) (special_again special)

-- by cases on a test, with what it tells
pick : {A : Type 0} (b : Bool) (x y : Option A) (P : A → Type 0) → (b ≡ true → IfSome x P) → (b ≡ false → IfSome y P) → IfSome (cond b x y) P
pick true x y P h k = h refl
pick false x y P h k = k refl

either : {A : Type 0} (P : A → Type 0) (b : Bool) (x y : A) → (b ≡ true → P x) → (b ≡ false → P y) → P (cond b x y)
either P true x y h k = h refl
either P false x y h k = k refl

-- a test that holds
same : (a b : ℕ) → (a == b) ≡ true → a ≡ b
same a b t = grind (arith, nat_tests)

all_zero : (a b c : ℕ) → (a == 0 && (b == 0 && c == 0)) ≡ true → (a ≡ 0) × (b ≡ 0) × (c ≡ 0)
all_zero a b c t = (grind (arith, nat_tests), grind (arith, nat_tests), grind (arith, nat_tests))

signed_fits : (r : ℕ) → r < 2 ^ 17 → IsSignedField 16 (signed_of 17 r)
signed_fits r h = either (IsSignedField 16) (nat_lt r (2 ^ 16)) (pos r) (negsuc (2 ^ 17 - suc r)) (λ t. grind (arith, nat_tests))
    (λ t. grind (arith, nat_tests))

signed_fits_16 : (r : ℕ) → r < 2 ^ 16 → IsSignedField 15 (signed_of 16 r)
signed_fits_16 r h = either (IsSignedField 15) (nat_lt r (2 ^ 15)) (pos r) (negsuc (2 ^ 16 - suc r)) (λ t. grind (arith, nat_tests))
    (λ t. grind (arith, nat_tests))

bits_of_signed : (r : ℕ) → r < 2 ^ 17 → signed_bits 17 (signed_of 17 r) ≡ r
bits_of_signed r h = either (λ z. signed_bits 17 z ≡ r) (nat_lt r (2 ^ 16)) (pos r) (negsuc (2 ^ 17 - suc r)) (λ t. refl) (λ t. omega arith)

bits_of_signed_16 : (r : ℕ) → r < 2 ^ 16 → signed_bits 16 (signed_of 16 r) ≡ r
bits_of_signed_16 r h = either (λ z. signed_bits 16 z ≡ r) (nat_lt r (2 ^ 15)) (pos r) (negsuc (2 ^ 16 - suc r)) (λ t. refl) (λ t. omega arith)

-- an instruction with two registers and a signed number is spelled by them
number_found : (i : Inst) (k o f s r : ℕ) → AreFields o f s r → (IsSignedField 16 (signed_of 17 r) → InstFits i)
    → ((f ≤ 31) × (s ≤ 31) → HasRegisters i) → assembled k o f s (signed_bits 17 (signed_of 17 r)) ≡ word_of_row i → Codes i (assembled k o f s r)
number_found i k o f s r b fits registers is = record {
  fits = fits (signed_fits r b.rest);
  registers = registers (omega (arith, b.first), omega (arith, b.second));
  word_is = ap (assembled k o f s) (sym (bits_of_signed r b.rest)) ∙ is;
}

memory_found : (k o f s r : ℕ) → k ≡ 2 → AreFields o f s r → IfSome (memory_row o f s r) (λ i. Codes i (assembled k o f s r))
memory_found k o f s r e b =
    pick (o == 0) _ _ _ (λ t. number_found (Load f s (signed_of 17 r)) k o f s r b (λ x. x) (λ x. x) (omega (arith, e, same o 0 t)))
    (λ u. pick (o == 1) _ _ _ (λ t. number_found (Store f s (signed_of 17 r)) k o f s r b (λ x. x) (λ x. x) (omega (arith, e, same o 1 t)))
    (λ u. tt))

immediate_found : (k o f s r : ℕ) → k ≡ 3 → AreFields o f s r → IfSome (immediate_row o f s r) (λ i. Codes i (assembled k o f s r))
immediate_found k o f s r e b =
    pick (o == 0) _ _ _ (λ t. number_found (Addi f s (signed_of 17 r)) k o f s r b (λ x. x) (λ x. x) (omega (arith, e, same o 0 t)))
    (λ u. pick (o == 1) _ _ _ (λ t. number_found (Jspci f s (signed_of 17 r)) k o f s r b (λ x. x) (λ x. x) (omega (arith, e, same o 1 t)))
    (λ u. pick (f == 0 && (s == 0 && r == 0)) _ _ _ (λ z.
    pick (o == 2) _ _ _ (λ t. record { fits = tt; registers = tt; word_is = omega (arith, e, same o 2 t, all_zero f s r z) })
    (λ u. pick (o == 3) _ _ _ (λ t. record { fits = tt; registers = tt; word_is = omega (arith, e, same o 3 t, all_zero f s r z) })
    (λ u. pick (o == 4) _ _ _ (λ t. record { fits = tt; registers = tt; word_is = omega (arith, e, same o 4 t, all_zero f s r z) })
    (λ u. tt))))
    (λ u. tt)))

-- an operation by its opcode and function
pub record IsOp (opcode function a b : ℕ) (op : Op) : Type 0 where
  pub opcode_is : opcode_of op ≡ opcode
  pub function_is : function_of op ≡ function
  pub fits : OpFits op a b

plain_found : (n a b : ℕ) → IfSome (plain_op_row n a b) (IsOp 0 n a b)
plain_found n a b =
    pick (n == 0) _ _ _ (λ t. record { opcode_is = refl; function_is = sym (same n 0 t); fits = tt })
    (λ u. pick (n == 1) _ _ _ (λ t. record { opcode_is = refl; function_is = sym (same n 1 t); fits = tt })
    (λ u. pick (n == 2) _ _ _ (λ t. record { opcode_is = refl; function_is = sym (same n 2 t); fits = tt })
    (λ u. pick (n == 3) _ _ _ (λ t. record { opcode_is = refl; function_is = sym (same n 3 t); fits = tt })
    (λ u. pick (n == 4) _ _ _ (λ t. record { opcode_is = refl; function_is = sym (same n 4 t); fits = tt })
    (λ u. pick (n == 5) _ _ _ (λ t. record { opcode_is = refl; function_is = sym (same n 5 t); fits = tt })
    (λ u. pick (n == 6) _ _ _ (λ t. record { opcode_is = refl; function_is = sym (same n 6 t); fits = tt })
    (λ u. pick (n == 7) _ _ _ (λ t. pick (b == 0) _ _ _ (λ z. record { opcode_is = refl; function_is = sym (same n 7 t); fits = same b 0 z }) (λ z. tt))
    (λ u. pick (n == 8) _ _ _ (λ t. record { opcode_is = refl; function_is = sym (same n 8 t); fits = tt })
    (λ u. pick (n == 9) _ _ _ (λ t. pick (a == 0) _ _ _ (λ z. record { opcode_is = refl; function_is = sym (same n 9 t); fits = same a 0 z }) (λ z. tt))
    (λ u. pick (n == 10) _ _ _ (λ t. record { opcode_is = refl; function_is = sym (same n 10 t); fits = tt })
    (λ u. pick (n == 11) _ _ _ (λ t. record { opcode_is = refl; function_is = sym (same n 11 t); fits = tt })
    (λ u. tt))))))))))))

sh_range : (n : ℕ) → (nat_le 256 n && nat_lt n 288) ≡ true → (256 ≤ n) × (n < 288)
sh_range n t = (grind (arith, nat_tests), grind (arith, nat_tests))

shift_found : (n a b : ℕ) → IfSome (shift_row n b) (IsOp 1 n a b)
shift_found n a b =
    pick (nat_lt n 32) _ _ _
    (λ t. pick (b == 0) _ _ _ (λ z. record { opcode_is = refl; function_is = refl; fits = (grind (arith, nat_tests), same b 0 z) }) (λ z. tt))
    (λ u. pick (nat_le 256 n && nat_lt n 288) _ _ _ (λ t. record {
      opcode_is = refl;
      function_is = omega (arith, sh_range n t);
      fits =
          omega (arith, sh_range n t);
    }) (λ u. tt))

special_found : (n : ℕ) → IfSome (special_row n) (λ x. number_of_special x ≡ n)
special_found n =
    pick (n == 0) _ _ _ (λ t. sym (same n 0 t))
    (λ u. pick (n == 1) _ _ _ (λ t. sym (same n 1 t))
    (λ u. pick (n == 2) _ _ _ (λ t. sym (same n 2 t))
    (λ u. pick (n == 3) _ _ _ (λ t. sym (same n 3 t)) (λ u. tt))))

cond_found : (n : ℕ) → IfSome (cond_row n) (λ x. number_of_cond x ≡ n)
cond_found n =
    pick (n == 0) _ _ _ (λ t. sym (same n 0 t))
    (λ u. pick (n == 1) _ _ _ (λ t. sym (same n 1 t))
    (λ u. pick (n == 2) _ _ _ (λ t. sym (same n 2 t))
    (λ u. pick (n == 3) _ _ _ (λ t. sym (same n 3 t))
    (λ u. pick (n == 4) _ _ _ (λ t. sym (same n 4 t))
    (λ u. pick (n == 5) _ _ _ (λ t. sym (same n 5 t)) (λ u. tt))))))

squash_found : (r : ℕ) → r < 2 ^ 17 → squash_bit (nat_le (2 ^ 16) r) * 2 ^ 16 + r % 2 ^ 16 ≡ r
squash_found r h = ⊎_elim (λ t. ap (λ q. squash_bit q * 2 ^ 16 + r % 2 ^ 16) t ∙ grind (arith, nat_tests))
    (λ t. ap (λ q. squash_bit q * 2 ^ 16 + r % 2 ^ 16) t ∙ grind (arith, nat_tests)) (cases_Bool (nat_le (2 ^ 16) r))

branch_found : (k o f s r : ℕ) → k ≡ 0 → AreFields o f s r → (c : Option Cond) → IfSome c (λ x. number_of_cond x ≡ o)
    → IfSome (branch_with f s r c) (λ i. Codes i (assembled k o f s r))
branch_found k o f s r e b None h = tt
branch_found k o f s r e b (Some condition) h = record {
  fits = signed_fits_16 (r % 2 ^ 16) (omega arith);
  registers = (omega (arith, b), omega (arith, b));
  word_is = omega (arith, e, h, squash_found r b.rest, bits_of_signed_16 (r % 2 ^ 16) (omega arith));
}

compute_found : (k o f s r : ℕ) → k ≡ 1 → AreFields o f s r → (p : ℕ) → o ≡ p → (c : Option Op) → IfSome c (IsOp p (r % 2 ^ 12) f s)
    → IfSome (compute_with f s r c) (λ i. Codes i (assembled k o f s r))
compute_found k o f s r e b p q None h = tt
compute_found k o f s r e b p q (Some op) h = record {
  fits = h.fits;
  registers = (omega (arith, b), omega (arith, b), omega (arith, b));
  word_is = omega (arith, e, q, h.opcode_is, h.function_is);
}

from_found : (k o f s r : ℕ) → k ≡ 1 → AreFields o f s r → o ≡ 2 → (c : Option Special) → IfSome c (λ x. number_of_special x ≡ r % 2 ^ 12)
    → IfSome (from_with f s r c) (λ i. Codes i (assembled k o f s r))
from_found k o f s r e b q None h = tt
from_found k o f s r e b q (Some special) h =
    pick (f == 0 && s == 0) _ _ _ (λ z. record {
      fits = tt;
      registers = omega (arith, b);
      word_is = omega (arith, e, q, h, both_zero f s z);
    }) (λ z. tt)
  where
    both_zero : (f s : ℕ) → (f == 0 && s == 0) ≡ true → (f ≡ 0) × (s ≡ 0)
    both_zero f s t = (grind (arith, nat_tests), grind (arith, nat_tests))

to_found : (k o f s r : ℕ) → k ≡ 1 → AreFields o f s r → o ≡ 3 → (c : Option Special) → IfSome c (λ x. number_of_special x ≡ r)
    → IfSome (to_with f s c) (λ i. Codes i (assembled k o f s r))
to_found k o f s r e b q None h = tt
to_found k o f s r e b q (Some special) h =
    pick (s == 0) _ _ _ (λ z. record { fits = tt; registers = omega (arith, b); word_is = omega (arith, e, q, h, same s 0 z) }) (λ z. tt)

compute_row_found : (k o f s r : ℕ) → k ≡ 1 → AreFields o f s r → IfSome (compute_row o f s r) (λ i. Codes i (assembled k o f s r))
compute_row_found k o f s r e b =
    pick (o == 0) _ _ _ (λ t. compute_found k o f s r e b 0 (same o 0 t) (plain_op_row (r % 2 ^ 12) f s) (plain_found (r % 2 ^ 12) f s))
    (λ u. pick (o == 1) _ _ _ (λ t. compute_found k o f s r e b 1 (same o 1 t) (shift_row (r % 2 ^ 12) s) (shift_found (r % 2 ^ 12) f s))
    (λ u. pick (o == 2) _ _ _ (λ t. from_found k o f s r e b (same o 2 t) (special_row (r % 2 ^ 12)) (special_found (r % 2 ^ 12)))
    (λ u. pick (o == 3) _ _ _ (λ t. to_found k o f s r e b (same o 3 t) (special_row r) (special_found r)) (λ u. tt))))

row_found : (k o f s r : ℕ) → AreFields o f s r → IfSome (row_of k o f s r) (λ i. Codes i (assembled k o f s r))
row_found k o f s r b =
    pick (k == 0) _ _ _ (λ t. branch_found k o f s r (same k 0 t) b (cond_row o) (cond_found o))
    (λ u. pick (k == 1) _ _ _ (λ t. compute_row_found k o f s r (same k 1 t) b)
    (λ u. pick (k == 2) _ _ _ (λ t. memory_found k o f s r (same k 2 t) b)
    (λ u. pick (k == 3) _ _ _ (λ t. immediate_found k o f s r (same k 3 t) b) (λ u. tt))))

-- what a word is decoded to, it spells
pub spells : (w : ℕ) → IfSome (inst_of w) (λ i. Codes i w)
spells w =
    subst (λ v. IfSome (inst_of w) (λ i. Codes i v)) (assembled_fields w)
    (row_found (w / 2 ^ 30) (field 27 3 w) (field 22 5 w) (field 17 5 w) (field 0 17 w) (record {
      op = omega arith;
      first = omega arith;
      second = omega arith;
      rest = omega arith;
    }))

-- a word codes exactly the instruction to which it is decoded
pub coded : (i : Inst) (w : ℕ) → Codes i w ↔ (inst_of w ≡ Some i)
coded i w = (spelled i w, λ e. subst (λ o. IfSome o (λ j. Codes j w)) e (spells w))

-- and the word of each instruction that fits is decoded to it
pub read_back : (i : Inst) → InstFits i → HasRegisters i → inst_of (word_of_row i) ≡ Some i
read_back i fits registers = spelled i (word_of_row i) (record { fits = fits; registers = registers; word_is = refl })
