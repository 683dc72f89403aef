use Rattle.std.proofs.Common.{◌≡◌, ◌≤◌, ◌<◌, ℕ}
use Rattle.mx_isa.specs.declared.board.TheConstants.{DATA_BASE}
use Rattle.mx_board.specs.Data.{words_of}
use Rattle.law_alike.proofs.machines.is_same_data.Given as goal

-- the words so far are the same
abbrev pub invariant-loop-address : goal.invariant-loop-address
invariant-loop-address l = (a : ℕ) → DATA_BASE ≤ a → a < l.address → words_of l.board a ≡ words_of l.other a
