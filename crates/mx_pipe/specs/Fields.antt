-- What the fields of a pipeline are.
use Rattle.std.specs.Prelude.{◌≡◌, List, ℕ, slice_index}
use Rattle.mx_board.specs.Data.{words_of}
use Rattle.mx_turn.specs.Cycle.{MachineState}
use Rattle.mx_turn.specs.Decoded.{code_in}
use Rattle.mx_turn.specs.Program.{Program, code_of}
use Rattle.mx_pipe.specs.declared.pipe.Pipe.{Pipe}
use Rattle.mx_pipe.specs.Kept.{Waits}

-- by the state of the definition after the same request bits
pub record HasFields {C : Type 0} (holds : C → List ℕ → Type 0) (t : Pipe C) (p : Program) (m : MachineState) : Type 0 where
  -- the five fetches of the last completed turn with their marks as they now stand, None where there is none or it was killed
  pub fetch : t.fetch.word ≡ m.fetch
  pub rf : t.rf.word ≡ m.rf
  pub alu : t.alu.word ≡ m.alu
  pub mem : t.mem.word ≡ m.mem
  pub wb : t.wb.word ≡ m.wb
  -- the registers as the last completed turn began: what the word in MEM writes is not yet there
  pub file : slice_index t.file ≡ m.before
  pub md : t.md ≡ m.core.md
  pub next : t.next ≡ m.next
  pub wait : Waits holds t.cache m t.wait
  pub asked : t.asked ≡ m.latch
  pub halted : t.halted ≡ m.halted
  pub psw : t.psw ≡ m.psw
  pub chain : t.chain ≡ m.chain
  pub counts : t.counts ≡ m.counts
  pub shown : t.shown ≡ m.shown
  pub words : words_of t.board ≡ m.core.mem
  pub taken : t.board.taken ≡ m.core.taken
  pub input : t.board.input ≡ p.input
  pub code : t.code.items ≡ p.user_words
  pub handler : t.handler.items ≡ p.handler_words
  pub decoded : code_in t.decoded ≡ code_of p
