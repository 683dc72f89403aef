-- What the stages make of an instruction is what the definition does.
use Rattle.std.proofs.Common.{◌≡◌, ℕ, Bool, true, false, cond, ◌&&◌, Option, Some, None, refl, ap, ◌∙◌, arith}
use Rattle.std.specs.Prelude.{slice_index}
use Rattle.std.proofs.lemmas.Bool.Decides.{nat_tests}
use Rattle.mx_isa.specs.declared.inst.Special.TheVariants.{Md}
use Rattle.mx_isa.specs.declared.inst.Op.{Op}
use Rattle.mx_isa.specs.declared.inst.Op.TheVariants.{Add}
use Rattle.mx_isa.specs.declared.inst.Inst.{Inst}
use Rattle.mx_isa.specs.declared.inst.Inst.TheVariants.{Compute, MoveFrom, MoveTo, Jpc, Jpcrs}
use Rattle.mx_isa.specs.Arithmetic.{md_after}
use Rattle.mx_isa.specs.Words.{Words, reg, write}
use Rattle.mx_isa.specs.Effect.{Found, Change, op_uses_md, or_kept}
use Rattle.mx_isa.specs.Views.{sources, dest, is_load, is_halt}
use Rattle.mx_delay.specs.Delay.{Code}
use Rattle.mx_pcchain.specs.declared.chain.Chain.{Chain}
use Rattle.mx_pcchain.specs.declared.psw.Psw.{Psw}
use Rattle.mx_pcchain.specs.Fetch.{Fetch}
use Rattle.mx_pcchain.specs.Chain.{pop}
use Rattle.mx_pcchain.specs.Modes.{psw_restored}
use Rattle.mx_turn.specs.Stages.{squash}
use Rattle.mx_turn.specs.System.{system_change, moved, slot_of, no_slot, seen, pops, restores, number_of}
use Rattle.mx_turn.specs.Cycle.{MachineState}
use Rattle.mx_pipe.specs.declared.memory.Reached.{Reached}
use Rattle.mx_pipe.specs.declared.pipe.Pipe.{Pipe}
use Rattle.mx_pipe.specs.Latched.{Latched, does, squashed_if}
use Rattle.mx_pipe.specs.Made.{passed, allowed, md_behind, reached, takes_byte, sends, chain_kept}
use Rattle.mx_pipe.specs.Kept.{IsRead, Commits, Tells}

-- an instruction at an address, in a mode, with these saved fetches, registers and MD, and what loads find
module _ (user : Bool) (c : Chain) (at : ℕ) (r : Words) (md : ℕ) (find : ℕ → Found) where
  -- the number that it makes
  abbrev pub made : Inst → ℕ
  made i = number_of user c i at (reg r (sources i).0) (reg r (sources i).1) md

  abbrev pub changed : Inst → Change
  changed i = system_change user c i at r md find

-- an operation that does not use MD keeps it
op_keeps_md : (op : Op) (a b md : ℕ) → md_after op a b md ≡ or_kept (cond (op_uses_md op) (Some (md_after op a b md)) None) md
op_keeps_md Add a b md = refl
op_keeps_md _ a b md = refl

-- what it writes, leaves in MD, stores, takes of the input and leaves of the chain
pub record MakesAlike (user : Bool) (c : Chain) (i : Inst) (at : ℕ) (r : Words) (md : ℕ) (find : ℕ → Found) : Type 0 where
  pub written : (f : Words) → write f (dest (allowed user i)) (reached (allowed user i) (made user c at r md find i) find)
      ≡ write f (changed user c at r md find i).dest (changed user c at r md find i).value
  pub leaves : md_behind i (reg r (sources i).0) (reg r (sources i).1) md ≡ or_kept (changed user c at r md find i).new_md md
  pub stored : sends (allowed user i) (made user c at r md find i) (reg r (sources i).1) ≡ (changed user c at r md find i).stores
  pub takes : takes_byte (allowed user i) (made user c at r md find i) find ≡ (changed user c at r md find i).takes
  pub chain : chain_kept user (allowed user i) (made user c at r md find i) c ≡ moved user i r c

pub is_made : (user : Bool) (c : Chain) (i : Inst) (at : ℕ) (r : Words) (md : ℕ) (find : ℕ → Found) → MakesAlike user c i at r md find
is_made user c (Compute a d b op) at r md find = record {
  written = λ f. refl;
  leaves = op_keeps_md op (reg r a) (reg r b) md;
  stored = refl;
  takes = refl;
  chain = refl;
}
is_made true c (MoveFrom d Md) at r md find = record { written = λ f. refl; leaves = refl; stored = refl; takes = refl; chain = refl }
is_made false c (MoveFrom d Md) at r md find = record { written = λ f. refl; leaves = refl; stored = refl; takes = refl; chain = refl }
is_made user c (MoveTo a Md) at r md find = record { written = λ f. refl; leaves = refl; stored = refl; takes = refl; chain = refl }
is_made user c _ at r md find = record { written = λ f. refl; leaves = refl; stored = refl; takes = refl; chain = refl }

-- what is made of an instruction that user code may not do is what is made of the no-op
pub slot_is : (user : Bool) (i : Inst) (r : Words) → slot_of (allowed user i) r ≡ slot_of i r
slot_is true (MoveFrom d Md) r = refl
slot_is false (MoveFrom d s) r = refl
slot_is user _ r = refl

pub halt_is : (user : Bool) (i : Inst) → is_halt (allowed user i) ≡ is_halt i
halt_is true (MoveFrom d Md) = refl
halt_is false (MoveFrom d s) = refl
halt_is user _ = refl

-- what the word in ALU decides leaves what it makes
pub allowed_kept : (i : Inst) (b : Bool) (p : Psw) → allowed (cond (restores i && b) (psw_restored p) p).current.user i ≡ allowed p.current.user i
allowed_kept Jpcrs b p = refl
allowed_kept Jpc b p = refl
allowed_kept (MoveFrom d s) b p = refl
allowed_kept _ b p = refl

pub number_kept : (i : Inst) (d b : Bool) (p : Psw) (c : Chain) (at x y md : ℕ)
    → number_of (cond (restores i && d) (psw_restored p) p).current.user (cond (pops i && b) (pop c) c) i at x y md ≡ number_of p.current.user c i at x y md
number_kept (MoveFrom e s) d b p c at x y md = refl
number_kept _ d b p c at x y md = refl

-- a latch that is squashed
pub cut_word : (b : Bool) (l : Latched) (stage : Option Fetch) → l.word ≡ stage → (squashed_if b l).word ≡ squash b stage
cut_word true l stage h = ap (squash true) h
cut_word false l None h = h
cut_word false l (Some f) h = h

pub cut_read : (code : Code) (b : Bool) (l : Latched) (stage : Option Fetch) (regs : Words) → IsRead code l stage regs
    → IsRead code (squashed_if b l) (squash b stage) regs
cut_read code true l None regs h = record { word = ap (squash true) h.word; inst = refl; a = refl; b = refl }
cut_read code true l (Some f) regs h = record { word = ap (squash true) h.word; inst = refl; a = refl; b = refl }
cut_read code false l None regs h = h
cut_read code false l (Some f) regs h = h

-- the word in ALU sees what MEM passes on, and the old value of a register that MEM has just loaded
pub passes_is : (loads : Bool) (to word r : ℕ) (f : Words)
    → passed (cond loads 0 to) word r (reg f r) ≡ reg (seen (cond loads (record { register = to; value = reg f to }) no_slot) (write f to word)) r
passes_is true to word r f = grind (arith, nat_tests)
passes_is false to word r f = grind (arith, nat_tests)

pub newest_is : {C : Type 0} (code : Code) (p : Pipe C) (m : MachineState) → Commits code p m → (told : Reached) → Tells told p.mem → (r : ℕ)
    → passed told.passes told.word r (reg (slice_index p.file) r) ≡ reg (seen m.slot m.core.regs) r
newest_is code p m h told tells r =
    (λ k. passed (tells.passes k) (tells.word k) r (reg (slice_index p.file) r))
    ∙ passes_is (is_load (does p.mem)) (dest (does p.mem)) p.mem.result r (slice_index p.file)
    ∙ (λ k. reg (seen (h.behind.slot k) (h.behind.regs k)) r)
