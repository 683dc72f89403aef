use Rattle.std.proofs.Common.{◌≡◌, ◌<◌, ℕ, List, Bool, get_or, length}
use Rattle.mx_turn.specs.Program.{Program, state_after}
use Rattle.lab_draw.proofs.drawing.words_of.Given as goal

abbrev pub invariant-loop-address : goal.invariant-loop-address
invariant-loop-address g l = record {
  many : length l.words.items ≡ l.address;
  read : (p : Program) (h : List Bool) → g.M.Machine.stands l.machine p h → (k : ℕ) → k < l.address → get_or l.words.items k 0 ≡ (state_after p h).core.mem k;
}
