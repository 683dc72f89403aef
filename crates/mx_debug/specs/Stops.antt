-- The stops of a run: the cycles after which the word at an address is about to take effect.
use Rattle.std.specs.Prelude.{ℕ, zero, suc, eqb, Bool, false, not, ◌&&◌, cond, List, [], ◌∷◌, ◌++◌, length, map}
use Rattle.std.specs.List.{range_with_len}
use Rattle.mx_isa.specs.Words.{reg}
use Rattle.mx_isa.specs.Effect.{Core}
use Rattle.mx_turn.specs.declared.Stage.{Stage}
use Rattle.mx_turn.specs.declared.Stage.TheVariants.{Live}
use Rattle.mx_turn.specs.declared.Cycled.{Cycled}
use Rattle.mx_turn.specs.Program.{Program, state_after, answer_after}
use Rattle.mx_turn.specs.Run.{is_requested, bits, console_after}
use Rattle.mx_debug.specs.declared.stop.Stop.{Stop}

-- the stage holds the fetch of this address, and no branch has squashed it
abbrev pub shows_live : ℕ → Stage → Bool
shows_live address (Live a) = eqb a address
shows_live address _ = false

-- a turn ended in the cycle, and neither an interrupt nor a halt keeps its word in ALU from taking effect in the next turn
abbrev pub goes_on : Cycled → Bool
goes_on answer = not answer.stalled && (not answer.taken && not answer.halted)

-- after cycle n the word at the address is about to take effect
abbrev pub is_stop : Program → List ℕ → ℕ → ℕ → Bool
is_stop p requests address n =
    goes_on (answer_after p (bits requests n) (is_requested requests n))
    && shows_live address (state_after p (bits requests (suc n))).shown.alu

-- the stops among the first n cycles, in order
abbrev pub stop_cycles : Program → List ℕ → ℕ → ℕ → List ℕ
stop_cycles p requests address zero = []
stop_cycles p requests address (suc n) =
    stop_cycles p requests address n ++ cond (is_stop p requests address n) (n ∷ []) []

-- what is told of a stop in a cycle, with so many console bytes given and one data word watched
abbrev pub stop_with : ℕ → ℕ → ℕ → Core → Stop
stop_with cycle bytes watch core = record {
  cycle = cycle;
  bytes = bytes;
  registers = map (reg core.regs) (range_with_len 0 32);
  md = core.md;
  word = core.mem watch;
}

-- of a stop in cycle n: the state and the console after that cycle
abbrev pub stop_at : Program → List ℕ → ℕ → ℕ → Stop
stop_at p requests watch n =
    let h = bits requests (suc n) in stop_with n (length (console_after p h)) watch (state_after p h).core
