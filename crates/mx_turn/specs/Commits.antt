-- What the word in MEM changes, from how the machine keeps its parts.
use Rattle.std.specs.Prelude.{ℕ, Bool, slice_index}
use Rattle.mx_isa.specs.declared.inst.Inst.{Inst}
use Rattle.mx_isa.specs.Effect.{Change}
use Rattle.mx_board.specs.Contents.{Contents}
use Rattle.mx_board.specs.Data.{board, words_of}
use Rattle.mx_turn.specs.declared.registers.Registers.{Registers}
use Rattle.mx_turn.specs.System.{system_change, seen}

abbrev pub change_of : Bool → Registers → Inst → ℕ → Contents → Change
change_of user r i at b =
    system_change user r.chain i at (seen r.slot (slice_index r.file)) r.md ((board user b.input).load (words_of b) b.taken)
