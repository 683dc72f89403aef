-- Where the word in ALU leads, in the pipeline.
use Rattle.std.proofs.Common.{◌≡◌, ℕ, ◌<◌, ◌+◌, ◌%◌, ◌^◌, Bool, true, false, cond, not, ◌&&◌, Some, None, refl, sym, ap, ◌∙◌, subst, arith}
use Rattle.std.specs.Prelude.{nat_lt}
use Rattle.std.specs.Int.{w32, cast_unsigned}
use Rattle.std.proofs.lemmas.Bool.{cond-true}
use Rattle.std.proofs.lemmas.Bool.Decides.{nat_tests}
use Rattle.mx_isa.specs.declared.inst.Inst.{Inst}
use Rattle.mx_isa.specs.declared.inst.Inst.TheVariants.{Branch, Jspci, Jpc, Jpcrs}
use Rattle.mx_isa.specs.Arithmetic.{condition_holds}
use Rattle.mx_isa.specs.Words.{Words, reg}
use Rattle.mx_isa.specs.Effect.{Decision, decides, offset_by}
use Rattle.mx_delay.specs.Delay.{Code, next_of}
use Rattle.mx_pcchain.specs.Fetch.{Fetch}
use Rattle.mx_pcchain.specs.Chain.{fetch_from, pop}
use Rattle.mx_pcchain.specs.Modes.{psw_restored}
use Rattle.mx_turn.specs.declared.alu_stage.Decided.{Decided}
use Rattle.mx_turn.specs.Counted.{Counted}
use Rattle.mx_turn.specs.Stages.{live, address_of, squash, fetch_of}
use Rattle.mx_turn.specs.System.{seen, pops, restores}
use Rattle.mx_turn.specs.Cycle.{MachineState, first, second, decision, decided}
use Rattle.mx_pipe.specs.declared.alu.Course.{Course}
use Rattle.mx_pipe.specs.declared.alu.Course.TheVariants.{To, Cancels}
use Rattle.mx_pipe.specs.declared.pipe.Pipe.{Pipe}
use Rattle.mx_pipe.specs.declared.pipe.Wait.TheVariants.{NotAsked}
use Rattle.mx_pipe.specs.Latched.{does, squashed_if}
use Rattle.mx_pipe.specs.Made.{allowed}
use Rattle.mx_pipe.specs.Courses.{told, course_of, target_of, course_aside}
use Rattle.mx_pipe.specs.Kept.{IsRead, Holds, Leads, LeadsTo}
use Rattle.mx_pipe.proofs.Makes.{allowed_kept, number_kept, cut_word, cut_read}
use Rattle.mx_pipe.proofs.Stands.{behind_alike}

-- as the definition decides it, the four parts: where the turn whose fetch was the last leads, and the others
abbrev IsTold : Decided → Inst → Decision → ℕ → Type 0
IsTold d i e last = (next_of d.target last ≡ next_of e.target last) × (d.cancels ≡ e.cancels) × (d.pops ≡ pops i) × (d.restores ≡ restores i)

branch_told : (i : Inst) → pops i ≡ false → restores i ≡ false → (goes squashes : Bool) (a last : ℕ)
    → IsTold (told (cond goes (To a) (cond squashes Cancels (To (next_of None last))))) i
    (cond goes (record { target = Some a; cancels = false }) (record { target = None; cancels = squashes })) last
branch_told i p r true squashes a last = (refl, refl, sym p, sym r)
branch_told i p r false true a last = (refl, refl, sym p, sym r)
branch_told i p r false false a last = (refl, refl, sym p, sym r)

pub is_told : (i : Inst) (at last : ℕ) (r : Words) → IsTold (told (course_of i at last r)) i (decides i at r) last
is_told (Branch a b condition s by) at last r =
    branch_told (Branch a b condition s by) refl refl (condition_holds condition (reg r a) (reg r b)) s ((at + cast_unsigned w32 by) % 2 ^ 31) last
is_told (Jspci a d imm) at last r = (refl, refl, refl, refl)
is_told Jpc at last r = (refl, refl, refl, refl)
is_told Jpcrs at last r = (refl, refl, refl, refl)
is_told _ at last r = (refl, refl, refl, refl)

-- a course that leads to a code address is known by it, the others by the instruction
to_anew : (x : ℕ) (other : Course) → cond (nat_lt (x % 2 ^ 31) (2 ^ 31)) (To (x % 2 ^ 31)) other ≡ To (x % 2 ^ 31)
to_anew x other =
    let below : nat_lt (x % 2 ^ 31) (2 ^ 31) ≡ true = grind (arith, nat_tests) in
    cond-true (nat_lt (x % 2 ^ 31) (2 ^ 31)) (To (x % 2 ^ 31)) other below

-- found again by where it leads at once
abbrev found : Course → Course → Course
found course other = cond (nat_lt (target_of course) (2 ^ 31)) (To (target_of course)) other

branch_anew : (goes squashes : Bool) (x last : ℕ)
    → (let c = cond goes (To (x % 2 ^ 31)) (cond squashes Cancels (To (next_of None last))) in found c Cancels ≡ c)
branch_anew true squashes x last = to_anew x Cancels
branch_anew false true x last = refl
branch_anew false false x last = to_anew (last + 1) Cancels

pub course_anew : (user : Bool) (i : Inst) (at last : ℕ) (r : Words)
    → (let c = course_of i at last r in found c (course_aside (allowed user i)) ≡ c)
course_anew user (Branch a b condition s by) at last r =
    branch_anew (condition_holds condition (reg r a) (reg r b)) s (at + cast_unsigned w32 by) last
course_anew user (Jspci a d imm) at last r = to_anew (offset_by r a imm) Cancels
course_anew user Jpc at last r = refl
course_anew user Jpcrs at last r = refl
course_anew user i at last r = to_anew (last + 1) (course_aside (allowed user i))

pub leads_anew : {C : Type 0} (code : Code) (p : Pipe C) (m : MachineState) → Holds code p m → (target : ℕ) → LeadsTo code m target → (course : Course)
    → course ≡ cond (nat_lt target (2 ^ 31)) (To target) (course_aside (does p.alu)) → Leads code m course
leads_anew code p m h target leads course is =
    is
    ∙ (λ k. cond (nat_lt (leads k) (2 ^ 31)) (To (leads k)) (course_aside (h.alu.inst k)))
    ∙ course_anew m.psw.current.user (live code m.alu) (address_of m.alu) m.next.address (seen m.slot m.core.regs)

pub leads_on : {C : Type 0} (code : Code) (p : Pipe C) (m : MachineState) → Holds code p m → (target : ℕ) → target < 2 ^ 31 → LeadsTo code m target
    → Leads code m (To target)
leads_on code p m h target below leads =
    let is : nat_lt target (2 ^ 31) ≡ true = grind (arith, nat_tests, below) in
    leads_anew code p m h target leads (To target) (sym (cond-true (nat_lt target (2 ^ 31)) (To target) (course_aside (does p.alu)) is))

pub tells_cancels : (code : Code) (m : MachineState) (course : Course) → Leads code m course → (told course).cancels ≡ (decision code m).cancels
tells_cancels code m course leads =
    ap (λ x. (told x).cancels) leads ∙ (is_told (live code m.alu) (address_of m.alu) m.next.address (seen m.slot m.core.regs)).1

module _ {C : Type 0} (code : Code) (p : Pipe C) (m : MachineState) (h : Holds code p m) (course : Course) (leads : Leads code m course) where
  abbrev i : Inst
  i = live code m.alu

  abbrev u : Bool
  u = m.psw.current.user

  abbrev d : Decided
  d = told course

  abbrev back : Bool
  back = d.pops && not p.psw.current.user

  so : IsTold d i (decision code m) m.next.address
  so = subst (λ x. IsTold (told x) i (decision code m) m.next.address) (sym leads) (is_told i (address_of m.alu) m.next.address (seen m.slot m.core.regs))

  back_is : back ≡ (pops i && not u)
  back_is = λ k. so.2 k && not (h.rest.psw k).current.user

  restores_is : (d.restores && back) ≡ (restores i && (pops i && not u))
  restores_is = λ k. so.3 k && back_is k

  -- the pipeline once it is decided
  abbrev pub after : Fetch → Counted → Pipe C
  after next counts = record p {
    next = next;
    fetch = squashed_if d.cancels p.fetch;
    rf = squashed_if d.cancels p.rf;
    chain = cond back (pop p.chain) p.chain;
    psw = cond (d.restores && back) (psw_restored p.psw) p.psw;
    wait = NotAsked;
    counts = counts;
  }

  pub decides_so : (next : Fetch) (counts : Counted) → next ≡ cond back (fetch_from p.chain.pc1) (fetch_of (next_of d.target p.next.address))
      → Holds code (after next counts) (decided code m)
  decides_so next counts is = record {
    fetch = ap (λ b. (squashed_if b p.fetch).word) so.1 ∙ cut_word (decision code m).cancels p.fetch m.fetch h.fetch;
    rf = subst (λ l. IsRead code l (squash (decision code m).cancels m.rf) m.core.regs) (sym (ap (λ b. squashed_if b p.rf) so.1))
        (cut_read code (decision code m).cancels p.rf m.rf m.core.regs h.rf);
    alu = record {
      word = h.alu.word;
      inst = h.alu.inst ∙ sym (allowed_kept i (pops i && not u) m.psw);
      a = h.alu.a;
      b = h.alu.b;
      result = h.alu.result ∙ sym (number_kept i (pops i && not u) (not u) m.psw m.chain (address_of m.alu) (first code m) (second code m) m.core.md);
      md = h.alu.md;
    };
    behind = behind_alike p m _ _ _ _ _ _ _ _ _ _ _ _ _ _ _ _ h.behind;
    rest = record {
      next =
          is
          ∙ (λ k. cond (back_is k) (fetch_from (h.rest.chain k).pc1) (fetch_of (next_of d.target (h.rest.next k).address)))
          ∙ (λ k. cond (pops i && not u) (fetch_from m.chain.pc1) (fetch_of (so.0 k)));
      md = h.rest.md;
      words = h.rest.words;
      taken = h.rest.taken;
      chain = λ k. cond (back_is k) (pop (h.rest.chain k)) (h.rest.chain k);
      psw = λ k. cond (restores_is k) (psw_restored (h.rest.psw k)) (h.rest.psw k);
      asked = h.rest.asked;
      halted = h.rest.halted;
      shown = h.rest.shown;
      short = h.rest.short;
    };
  }
