-- What single instructions and several in a row give.
use Rattle.std.proofs.Common.{◌≡◌, ◌≢◌, ◌≤◌, ◌<◌, ◌^◌, ℕ, ◌+◌, ◌-◌, ◌/◌, ◌%◌, Bool, true, false, cond, Some, None, refl, sym, ap, ◌∙◌, arith, subst, ⊎_elim, pow_pos}
use Rattle.std.specs.Prelude.{◌*◌, if◌then◌else◌, nat_lt}
use Rattle.std.proofs.lemmas.Bool.{cases_eq}
use Rattle.std.proofs.lemmas.Nat.{and_le_l, or_of_32, xor_of_32, shr_le, shr_below, pow_below, pow-add, mod_below, mul-add-lt}
use Rattle.std.proofs.lemmas.Bool.Decides.{nat_tests}
use Rattle.mx_isa.specs.declared.inst.Op.{Op}
use Rattle.mx_isa.specs.declared.inst.Op.TheVariants.{Add, Sub, Subnc, And, Or, Xor, Bic, Not, Rotlb, Mstart, Mstep, Dstep, Asr, Sh}
use Rattle.mx_isa.specs.declared.inst.Inst.TheVariants.{Compute}
use Rattle.mx_isa.specs.Arithmetic.{result_of, md_after, funnel, CountFits}
use Rattle.mx_isa.specs.Words.{Words, reg, write}
use Rattle.mx_isa.specs.Effect.{Core, Bus, act, op_uses_md, or_kept}
use Rattle.mx_isa.proofs.Frame.{reg_write, reg_write_same}
use Rattle.cc_emit.specs.declared.line.Computed.{Computed}
use Rattle.cc_emit.specs.declared.line.Computed.TheVariants as computed
use Rattle.law_emit.specs.Statements.{operation}
use Rattle.cc_meaning.specs.declared.value.Value.TheVariants.{Number}
use Rattle.law_operations.specs.Runs.{Gives, HoldsWords}
use Rattle.law_operations.proofs.Bits.{right_is}

written_word : (r : Words) (d v n : ℕ) → reg r n < 2 ^ 32 → v < 2 ^ 32 → reg (write r d v) n < 2 ^ 32
written_word r d v n h k = grind (arith, nat_tests)

-- a register is written
pub written : (d v : ℕ) (s : Core) → HoldsWords s.regs → v < 2 ^ 32 → Gives d (Number v) s (record s { regs = write s.regs d v })
written d v s w small = record {
  given = λ h. reg_write_same s.regs d v h;
  kept = λ n h k. reg_write s.regs d v n h;
  md = refl;
  mem = refl;
  taken = refl;
  words = λ n. written_word s.regs d v n (w n) small;
}

pub gives_as : (d v w : ℕ) (s t : Core) → (d ≢ 0 → v ≡ w) → Gives d (Number v) s t → Gives d (Number w) s t
gives_as d v w s t e g = record { given = λ h. g.given h ∙ e h; kept = g.kept; md = g.md; mem = g.mem; taken = g.taken; words = g.words }

-- nothing changes, where the register has the word already or is r0
pub untouched : (d v : ℕ) (s : Core) → HoldsWords s.regs → (d ≢ 0 → reg s.regs d ≡ v) → Gives d (Number v) s s
untouched d v s w h = record { given = h; kept = λ n k l. refl; md = refl; mem = refl; taken = refl; words = w }

-- a register is written twice
pub twice : (d v w : ℕ) (s t u : Core) → Gives d (Number v) s t → Gives d (Number w) t u → Gives d (Number w) s u
twice d v w s t u g h = record {
  given = h.given;
  kept = λ n k l. h.kept n k l ∙ g.kept n k l;
  md = h.md ∙ g.md;
  mem = h.mem ∙ g.mem;
  taken = h.taken ∙ g.taken;
  words = h.words;
}

-- r26 is written first
pub after_between : (d v w : ℕ) (s t u : Core) → Gives 26 (Number v) s t → Gives d (Number w) t u → Gives d (Number w) s u
after_between d v w s t u g h = record {
  given = h.given;
  kept = λ n k l. h.kept n k l ∙ g.kept n (λ e. absurd (l e)) l;
  md = h.md ∙ g.md;
  mem = h.mem ∙ g.mem;
  taken = h.taken ∙ g.taken;
  words = h.words;
}

-- what an operation gives is a word
word_result : (c : Op) (a b md : ℕ) → op_uses_md c ≡ false → CountFits c → a < 2 ^ 32 → b < 2 ^ 32 → result_of c a b md < 2 ^ 32
word_result Add a b md m f h k = omega arith
word_result Sub a b md m f h k = omega arith
word_result Subnc a b md m f h k = omega arith
word_result And a b md m f h k = let e = and_le_l a b in omega arith
word_result Or a b md m f h k = or_of_32 a b h k
word_result Xor a b md m f h k = xor_of_32 a b h k
word_result Bic a b md m f h k = let e = and_le_l a (2 ^ 32 - 1 - b) in omega arith
word_result Not a b md m f h k = omega arith
word_result Rotlb a b md m f h k =
    let i = 8 * (b % 4) in
    let e : (a * 2 ^ (i % 32)) % 2 ^ 32 < 2 ^ 32 = omega arith in
    let g = shr_le a ((32 - i % 32) % 32) in
    let l : a / 2 ^ ((32 - i % 32) % 32) < 2 ^ 32 = omega arith in
    or_of_32 _ _ e l
word_result Mstart a b md m f h k = absurd (cc)
word_result Mstep a b md m f h k = absurd (cc)
word_result Dstep a b md m f h k = absurd (cc)
word_result (Asr n) a b md m f h k =
    let e : n + (32 - n) ≡ 32 = omega arith in
    let g : a / 2 ^ n < 2 ^ (32 - n) = shr_below a (32 - n) n (subst (λ j. a < 2 ^ j) (let q : 32 ≡ (32 - n) + n = omega arith in q) h) in
    let l = pow_le (32 - n) in
    signed_small (nat_lt a (2 ^ 31)) (a / 2 ^ n) (2 ^ (32 - n)) g (l (let q : 32 - n ≤ 32 = omega arith in q))
  where
    pow_le : (j : ℕ) → j ≤ 32 → 2 ^ j ≤ 2 ^ 32
    pow_le j h =
        ⊎_elim (λ e. let q : 2 ^ j ≡ 2 ^ 32 = ap (λ i. 2 ^ i) e in omega arith) (λ ne. let q = pow_below j 32 (omega arith) in omega arith)
        (cases_eq j 32)

    signed_small : (t : Bool) (x p : ℕ) → x < p → p ≤ 2 ^ 32 → (if t then x else x + (2 ^ 32 - p)) < 2 ^ 32
    signed_small true x p h k = omega arith
    signed_small false x p h k = omega arith
word_result (Sh n) a b md m f h k =
    let g : a / 2 ^ n < 2 ^ (32 - n) = shr_below a (32 - n) n (subst (λ j. a < 2 ^ j) (let q : 32 ≡ (32 - n) + n = omega arith in q) h) in
    let l = mod_below b (2 ^ n) (pow_pos n) in
    let e : (32 - n) + n ≡ 32 = omega arith in
    subst (λ p. b % 2 ^ n * 2 ^ (32 - n) + a / 2 ^ n < p) (sym (pow-add 2 (32 - n) n) ∙ ap (λ j. 2 ^ j) e)
    (mul-add-lt (b % 2 ^ n) (2 ^ (32 - n)) (a / 2 ^ n) (2 ^ n) l g)

-- an operation that leaves MD
pub computes : (bus : Bus) (a d b : ℕ) (c : Op) (s : Core) → HoldsWords s.regs → CountFits c → op_uses_md c ≡ false
    → Gives d (Number (result_of c (reg s.regs a) (reg s.regs b) s.md)) s (act bus (Compute a d b c) 0 s.regs s)
computes bus a d b c s w n h =
    let g = written d (result_of c (reg s.regs a) (reg s.regs b) s.md) s w (word_result c (reg s.regs a) (reg s.regs b) s.md h n (w a) (w b)) in
    record {
      given = g.given;
      kept = g.kept;
      md = ap (λ u. or_kept (cond u (Some (md_after c (reg s.regs a) (reg s.regs b) s.md)) None) s.md) h;
      mem = refl;
      taken = refl;
      words = g.words;
    }

-- r26 is corrected by register a, and its bit 31 is shifted to d
pub corrected : (bus : Bus) (a d x v : ℕ) (c : Op) (s t : Core) → CountFits c → op_uses_md c ≡ false → a ≢ 26 → Gives 26 (Number x) s t
    → result_of c x (reg s.regs a) t.md / 2 ^ 31 ≡ v
    → let u = act bus (Compute 26 26 a c) 0 t.regs t in Gives d (Number v) s (act bus (Compute 26 d 0 (Sh 31)) 0 u.regs u)
corrected bus a d x v c s t f h ne g e =
    let u = act bus (Compute 26 26 a c) 0 t.regs t in
    let k = computes bus 26 26 a c t g.words f h in
    let l = let fits : 31 ≤ 31 = omega arith in computes bus 26 d 0 (Sh 31) u k.words fits refl in
    let no : 26 ≢ 0 = omega arith in
    let seen : reg u.regs 26 ≡ result_of c x (reg s.regs a) t.md =
    k.given no ∙ ap (λ m. result_of c m (reg t.regs a) t.md) (g.given no)
    ∙ ap (λ m. result_of c x m t.md) (g.kept a (λ q. absurd (ne q)) ne) in
    let shown : funnel 31 (reg u.regs 26) 0 ≡ v = right_is _ 31 ∙ ap (λ m. m / 2 ^ 31) seen ∙ e in
    gives_as d _ v s _ (λ q. shown) (after_between d _ _ s u _ (twice 26 _ _ s t u g k) l)

pub count_fits : (c : Computed) → CountFits (operation c)
count_fits computed.Add = tt
count_fits computed.Sub = tt
count_fits computed.And = tt
count_fits computed.Or = tt
count_fits computed.Xor = tt
count_fits computed.Bic = tt
count_fits computed.Rotlb = tt
