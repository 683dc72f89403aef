-- Lines after others, and what they leave of r1.
use Rattle.std.proofs.Common.{◌≡◌, ◌≢◌, ℕ, List, [], ◌∷◌, Option, None, refl, sym, ◌∙◌, arith}
use Rattle.mx_isa.specs.Words.{reg}
use Rattle.mx_isa.specs.Effect.{Core, Bus, act}
use Rattle.cc_emit.specs.declared.line.Plain.{Plain}
use Rattle.cc_meaning.specs.declared.value.Value.{Value}
use Rattle.cc_meaning.specs.declared.value.Value.TheVariants.{Number}
use Rattle.cc_operations.specs.Operations.{lines}
use Rattle.law_emit.specs.Statements.{instruction}
use Rattle.law_operations.specs.Runs.{ran, ran_from, HoldsWords, HoldsFirst, Gives, Leaves}

-- instructions as lines
pub ran_only : (bus : Bus) (code : List Plain) (s : Core) → ran_from bus None (lines code) s ≡ ran bus code s
ran_only bus [] s = refl
ran_only bus (plain ∷ code) s = ran_only bus code (act bus (instruction plain) 0 s.regs s)

-- what is known of r1 still holds where it is not written
pub known_after : (first : Option ℕ) (d : ℕ) (v : Value) (s t : Core) → d ≢ 1 → HoldsFirst first s.regs → Gives d v s t → HoldsFirst first t.regs
known_after first d v s t ne h g n e =
    let other : 1 ≢ 26 = omega arith in
    g.kept 1 (λ q. absurd (ne (sym q))) other ∙ h n e

pub leaves_by : (first : Option ℕ) (d : ℕ) (v : Value) (s t : Core) → HoldsFirst first t.regs → Gives d v s t → Leaves d v first s t
leaves_by first d v s t h g = record {
  given = g.given;
  known = h;
  kept = λ n k l m. g.kept n k m;
  md = g.md;
  mem = g.mem;
  taken = g.taken;
  words = g.words;
}

pub leaves_of : (first : Option ℕ) (d : ℕ) (v : Value) (s t : Core) → d ≢ 1 → HoldsFirst first s.regs → Gives d v s t → Leaves d v first s t
leaves_of first d v s t ne h g = leaves_by first d v s t (known_after first d v s t ne h g) g

-- a register takes a number, unless it has it
pub record Sets (d v : ℕ) (before after : Core) : Type 0 where
  pub given : d ≢ 0 → reg after.regs d ≡ v
  pub kept : (n : ℕ) → (n ≡ d → n ≡ 0) → reg after.regs n ≡ reg before.regs n
  pub md : after.md ≡ before.md
  pub mem : after.mem ≡ before.mem
  pub taken : after.taken ≡ before.taken
  pub words : HoldsWords after.regs

pub gives_set : (d v : ℕ) (s t : Core) → Sets d v s t → Gives d (Number v) s t
gives_set d v s t g = record { given = g.given; kept = λ n k l. g.kept n k; md = g.md; mem = g.mem; taken = g.taken; words = g.words }

-- an operand is ready in r, with r1 written for it at most
pub record Ready (first : Option ℕ) (r x : ℕ) (before after : Core) : Type 0 where
  pub known : HoldsFirst first after.regs
  pub shown : reg after.regs r ≡ x
  pub kept : (n : ℕ) → n ≢ 1 → reg after.regs n ≡ reg before.regs n
  pub md : after.md ≡ before.md
  pub mem : after.mem ≡ before.mem
  pub taken : after.taken ≡ before.taken
  pub words : HoldsWords after.regs

pub ready_gives : (first : Option ℕ) (r x d : ℕ) (v : Value) (s t u : Core) → d ≢ 1 → Ready first r x s t → Gives d v t u → Leaves d v first s u
ready_gives first r x d v s t u ne g h = record {
  given = h.given;
  known = known_after first d v t u ne g.known h;
  kept = λ n k l m. h.kept n k m ∙ g.kept n l;
  md = h.md ∙ g.md;
  mem = h.mem ∙ g.mem;
  taken = h.taken ∙ g.taken;
  words = h.words;
}
