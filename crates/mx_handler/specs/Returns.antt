-- What the shipped handler gives back.
use Rattle.std.specs.Prelude.{◌≡◌, ℕ, zero, suc, ◌+◌, ◌%◌, ◌^◌, ◌<◌, ◌≤◌, Bool, false, List, Option, Some, is_some}
use Rattle.mx_code.specs.Decoding.{inst_of}
use Rattle.mx_delay.specs.Delay.{Code, code_from}
use Rattle.mx_pcchain.specs.Fetch.{Fetch}
use Rattle.mx_turn.specs.Cycle.{MachineState, shifted, commit_byte, entered, reached, ended}
use Rattle.mx_turn.specs.Program.{code_with}
use Rattle.mx_turn.specs.Handler.{shipped}

-- some user code with the shipped handler
abbrev pub with_shipped : Code → Code
with_shipped user = code_with (code_from inst_of 0 shipped) user

-- one turn; the latch is as it stands in the cycle in which the turn acts
abbrev pub turn : Code → Option (List ℕ) → Bool → MachineState → MachineState
turn code input latch m = ended code (reached code input (record m { latch = latch }))

-- n turns
abbrev pub turns : Code → Option (List ℕ) → (ℕ → Bool) → ℕ → MachineState → MachineState
turns code input latch zero m = m
turns code input latch (suc n) m = turn code input (latch n) (turns code input latch n m)

-- what an interrupt saved is back: the fetches in ALU, RF and IF with their marks, registers, MD, all data words from 6 on and the number of
-- input bytes taken, and the mode; system word 0 is one more, and no load is seen late
pub record IsBack (m e : MachineState) : Type 0 where
  pub alu : e.alu ≡ m.alu
  pub rf : e.rf ≡ m.rf
  pub fetch : e.fetch ≡ m.fetch
  pub next : Some e.next ≡ m.fetch
  pub regs : (n : ℕ) → e.core.regs n ≡ m.core.regs n
  pub md : e.core.md ≡ m.core.md
  pub mem : (a : ℕ) → 6 ≤ a → e.core.mem a ≡ m.core.mem a
  pub taken : e.core.taken ≡ m.core.taken
  pub counted : e.core.mem 0 ≡ (m.core.mem 0 + 1) % 2 ^ 32
  pub current : e.psw.current ≡ m.psw.current
  pub slot : e.slot.register ≡ 0
  pub goes : e.halted ≡ false

-- the stage holds a fetch at a code address
abbrev pub HoldsFetch : Option Fetch → Fetch → Type 0
HoldsFetch stage f = (stage ≡ Some f) × (f.address < 2 ^ 31)

-- Where an interrupt kills three fetches, everything is back once the word in MEM has committed in the 26th turn after it, whatever user code
-- there is and whatever requests come.
abbrev pub HandlerReturns : Type 0
HandlerReturns =
    (user : Code) (input : Option (List ℕ)) (latch : ℕ → Bool) (m : MachineState) (alu rf fetch : Fetch)
    → HoldsFetch m.alu alu
    → HoldsFetch m.rf rf
    → HoldsFetch m.fetch fetch
    → let after = turns (with_shipped user) input latch 25 (entered m) in
    IsBack m (reached (with_shipped user) input (record after { latch = latch 25 }))

-- a turn in which no interrupt can be taken, no halt commits and no byte goes out
pub record IsQuiet (code : Code) (input : Option (List ℕ)) (m : MachineState) : Type 0 where
  pub off : (reached code input m).psw.current.interrupts ≡ false
  pub goes : (reached code input m).halted ≡ false
  pub silent : is_some (commit_byte code input (shifted m)) ≡ false

-- So is each of the 25 turns after an interrupt.
abbrev pub HandlerIsQuiet : Type 0
HandlerIsQuiet =
    (user : Code) (input : Option (List ℕ)) (latch : ℕ → Bool) (m : MachineState) (k : ℕ) → k < 25
    → IsQuiet (with_shipped user) input (turns (with_shipped user) input latch k (entered m))
