-- How a cycle keeps what the machine stands for, and what a new one stands for.
use Rattle.std.proofs.Common.{◌≡◌, ℕ, zero, suc, Bool, false, not, List, [], ◌∷◌, ◌++◌, replicate, refl, sym, ap, ◌∙◌}
use Rattle.std.specs.Prelude.{slice_index}
use Rattle.mx_isa.specs.Words.{Words}
use Rattle.mx_icache.specs.Residency.{resident, allocated}
use Rattle.mx_turn.specs.declared.machine.Cycled.{Cycled}
use Rattle.mx_turn.specs.declared.turns.Turns.{Turns}
use Rattle.mx_turn.specs.Decoded.{code_in}
use Rattle.mx_turn.specs.Cycle.{MachineState, cycled, answer}
use Rattle.mx_turn.specs.Program.{Program, code_of, answer_after}
use Rattle.mx_turn.specs.Kept.{code_of_turns, machine_of, shown_of, KeepsProgram, StandsFor}
use Rattle.mx_turn.proofs.Steps.{after_one_more}

module _ {C : Type 0} (holds : C → List ℕ → Type 0) (t : Turns C) (p : Program) (h : List Bool) (s : StandsFor holds t p h) (request : Bool) where
  -- the machine that it stands for
  abbrev pub now : MachineState
  now = machine_of t s.past s.before (shown_of t)

  pub answers : (r : Cycled) → r ≡ answer (code_of_turns t) t.board.input now request → r ≡ answer_after p h request
  answers r e = e ∙ (λ k. answer (s.code k) (s.input k) (s.state k) request)

  pub stands_on : (t' : Turns C) (past : List ℕ) (before : Words) → holds t'.cache (t'.next.address ∷ past) → t'.missed ≡ not (resident past t'.next.address)
      → KeepsProgram t t'
      → machine_of t' past before (shown_of t') ≡ cycled resident (code_of_turns t) t.board.input now request → StandsFor holds t' p (h ++ request ∷ [])
  stands_on t' past before cache missed keeps e = record {
    past = past;
    before = before;
    cache = cache;
    missed = missed;
    code = ap code_in keeps.code ∙ s.code;
    input = keeps.input ∙ s.input;
    state =
        e
        ∙ (λ k. cycled resident (s.code k) (s.input k) (s.state k) request)
        ∙ sym (after_one_more resident (code_of p) p.input _ h request);
  }

zeros : (k n : ℕ) → slice_index (replicate k 0) n ≡ 0
zeros zero n = refl
zeros (suc k) zero = refl
zeros (suc k) (suc n) = zeros k n

-- 32 registers that are 0
pub no_registers : slice_index (replicate 32 0) ≡ (λ n. 0)
no_registers = λ i n. zeros 32 n i

-- nothing is resident before the first fetch
pub none_resident : (a : ℕ) → resident [] a ≡ false
unfolding allocated
none_resident a = refl
