-- The registers before the word in MEM committed, from those behind it and the one that it replaced.
use Rattle.std.proofs.Common.{◌≡◌, ℕ, Bool, true, false, List, refl, sym, ap, ◌∙◌, arith}
use Rattle.std.specs.Prelude.{slice_index}
use Rattle.std.proofs.lemmas.Bool.Decides.{nat_tests}
use Rattle.mx_isa.specs.declared.inst.Special.TheVariants.{Md}
use Rattle.mx_isa.specs.declared.inst.Inst.{Inst}
use Rattle.mx_isa.specs.declared.inst.Inst.TheVariants.{Load, Compute, Addi, MoveFrom, MoveTo, Jspci}
use Rattle.mx_isa.specs.Words.{Words, reg, write}
use Rattle.mx_isa.specs.Effect.{Found, Change}
use Rattle.mx_isa.specs.Views.{dest}
use Rattle.mx_delay.specs.Delay.{Code}
use Rattle.mx_board.specs.Contents.{Contents}
use Rattle.mx_pcchain.specs.declared.chain.Chain.{Chain}
use Rattle.mx_turn.specs.Stages.{live}
use Rattle.mx_turn.specs.System.{system_change, slot_of}
use Rattle.mx_turn.specs.Cycle.{MachineState, shifted, mem_change}
use Rattle.mx_lane.specs.declared.lane.Lane.{Lane}
use Rattle.mx_lane.specs.Lanes.{InTurn, IsLeft}

put_back_at : (f : Words) (d v n : ℕ) → write (write f d v) d (reg f d) n ≡ f n
put_back_at f d v n = grind (arith, nat_tests)

put_back : (f : Words) (d v : ℕ) → write (write f d v) d (reg f d) ≡ f
put_back f d v = λ i n. put_back_at f d v n i

kept_at : (f : Words) (d n : ℕ) → write f d (reg f d) n ≡ f n
kept_at f d n = grind (arith, nat_tests)

kept : (f : Words) (d : ℕ) → write f d (reg f d) ≡ f
kept f d = λ i n. kept_at f d n i

again_at : (f : Words) (d v n : ℕ) → write f d (reg (write f d v) d) n ≡ write f d v n
again_at f d v n = grind (arith, nat_tests)

again : (f : Words) (d v : ℕ) → write f d (reg (write f d v) d) ≡ write f d v
again f d v = λ i n. again_at f d v n i

module _ (c : Chain) (at : ℕ) (r : Words) (md : ℕ) (find : ℕ → Found) (f : Words) where
  abbrev written : Bool → Inst → Words
  written user i = let x : Change = system_change user c i at r md find in write f x.dest x.value

  -- with the old value of its register the change is undone, and with the new one the file behind it is the changed one
  record GoesBack (user : Bool) (i : Inst) : Type 0 where
    pub undone : write (written user i) (dest i) (reg f (dest i)) ≡ f
    pub redone : write f (dest i) (reg (written user i) (dest i)) ≡ written user i

  goes_back : (user : Bool) (i : Inst) → GoesBack user i
  goes_back user (Load base d offset) = record { undone = put_back f d _; redone = again f d _ }
  goes_back user (Compute a d b op) = record { undone = put_back f d _; redone = again f d _ }
  goes_back user (Addi a d imm) = record { undone = put_back f d _; redone = again f d _ }
  goes_back user (Jspci a d imm) = record { undone = put_back f d _; redone = again f d _ }
  goes_back false (MoveFrom d Md) = record { undone = put_back f d _; redone = again f d _ }
  goes_back false (MoveFrom d _) = record { undone = put_back f d _; redone = again f d _ }
  goes_back true (MoveFrom d Md) = record { undone = put_back f d _; redone = again f d _ }
  goes_back true (MoveFrom d _) = record { undone = kept f d; redone = kept f d }
  goes_back user (MoveTo a Md) = record { undone = refl; redone = refl }
  goes_back user _ = record { undone = refl; redone = refl }

-- the lane may be left in any turn
pub may_leave : {C : Type 0} (holds : C → List ℕ → Type 0) (code : Code) (m : MachineState) (l : Lane) (b : Contents) (cache : C)
    → (h : InTurn holds code m l b cache) → IsLeft code l h.before
may_leave holds code m l b cache h =
    let i : Inst = live code m.alu in
    let s : MachineState = shifted m in
    let f : Words = m.core.regs in
    let x : Change = mem_change code b.input s in
    let mem : m.alu ≡ l.mem = ap (λ (y : MachineState). y.mem) h.state in
    let before : f ≡ h.before = ap (λ (y : MachineState). y.before) h.state in
    let file : write f x.dest x.value ≡ slice_index l.registers.file = ap (λ (y : MachineState). y.core.regs) h.state in
    let replaced : reg f (dest i) ≡ l.replaced = (λ k. reg (before k) (dest (live code (mem k)))) ∙ sym h.replaced in
    let back = goes_back m.chain _ _ m.core.md _ f m.psw.current.user i in
    record {
      file =
          sym (λ k. write (file k) (dest (live code (mem k))) (replaced k))
          ∙ back.undone
          ∙ before;
      regs =
          sym (λ k. write (before k) (dest (live code (mem k))) (reg (file k) (dest (live code (mem k)))))
          ∙ back.redone
          ∙ file;
      slot = sym (λ k. slot_of (live code (mem k)) (before k)) ∙ ap (λ (y : MachineState). y.slot) h.state;
    }
