-- Linked instructions that have a word.
use Rattle.std.proofs.Common.{◌≡◌, ℕ, ◌+◌, ◌-◌, ◌^◌, ◌<◌, ◌≤◌, true, cond, leb, pos, negsuc, refl, sym, ap, subst, ⊎_elim, arith}
use Rattle.std.proofs.lemmas.Bool.{cases_Bool}
use Rattle.std.proofs.lemmas.Bool.Decides.{nat_tests}
use Rattle.mx_isa.specs.declared.Cond.{Cond}
use Rattle.mx_isa.specs.Fields.{IsSignedField, InstFits}
use Rattle.mx_source.specs.declared.Statement.{Statement}
use Rattle.mx_source.specs.declared.Statement.TheVariants.{Plain, LaCode, Branch, Call, CallReg, JumpReg, Halt}
use Rattle.mx_source.specs.Statements.{StatementFits}
use Rattle.mx_squash.specs.declared.Copied.{Copied}
use Rattle.mx_squash.specs.Copies.{reaches}
use Rattle.mx_link.specs.Words.{displacement, linked_inst}

pub displacement_fits : (from to : ℕ) → reaches from to ≡ true → IsSignedField 15 (displacement from to)
displacement_fits from to h = ⊎_elim
    (λ t. subst (IsSignedField 15) (sym (ap (λ b. cond b (pos (to - from)) (negsuc (from - to - 1))) t)) (up from to h))
    (λ f. subst (IsSignedField 15) (sym (ap (λ b. cond b (pos (to - from)) (negsuc (from - to - 1))) f)) (down from to h))
    (cases_Bool (leb from to))
  where
    up : (a b : ℕ) → reaches a b ≡ true → b - a < 2 ^ 15
    up a b h = grind (arith, nat_tests)

    down : (a b : ℕ) → reaches a b ≡ true → a - b - 1 < 2 ^ 15
    down a b h = grind (arith, nat_tests)

-- a statement that fits has a word where the places that it names are at most 65535, a call's behind the copies, and a branch reaches its target behind the
-- copies
pub inst_fits : (P : ℕ → Type 0) (link : ℕ → ℕ) (c : Copied) (at : ℕ) (s : Statement) → StatementFits P s → ((i : ℕ) → link i ≤ 65535) →
    ((dest target : ℕ) → s ≡ Call dest target → link target + c.count ≤ 65535) →
    ((a b : ℕ) (k : Cond) (target : ℕ) → s ≡ Branch a b k target → reaches at (link target + c.count) ≡ true) → InstFits (linked_inst link c at s)
inst_fits P link c at (Plain inst) fits short call branch = fits.1
inst_fits P link c at (LaCode dest target) fits short call branch = let low = short target in omega arith
inst_fits P link c at (Branch a b k target) fits short call branch = displacement_fits at (link target + c.count) (branch a b k target refl)
inst_fits P link c at (Call dest target) fits short call branch = let low = call dest target refl in omega arith
inst_fits P link c at (CallReg a dest) fits short call branch = omega arith
inst_fits P link c at (JumpReg a) fits short call branch = omega arith
inst_fits P link c at Halt fits short call branch = tt
