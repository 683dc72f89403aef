-- In the handler's turns interrupts are off, no halt comes and no byte goes out.
use Rattle.std.proofs.Common.{ℕ, ◌<◌, Bool, false, List, Option, refl}
use Rattle.std.specs.Prelude.{is_some}
use Rattle.std.proofs.lemmas.Bool.{agree_below_at}
use Rattle.mx_delay.specs.Delay.{Code}
use Rattle.mx_turn.specs.Cycle.{MachineState, shifted, entered, reached, commit_byte}
use Rattle.mx_handler.specs.Returns.{with_shipped, turns, IsQuiet}

module _ (user : Code) (input : Option (List ℕ)) (latch : ℕ → Bool) (m : MachineState) where
  -- the machine k turns after the interrupt
  abbrev after : ℕ → MachineState
  after k = turns (with_shipped user) input latch k (entered m)

  pub quiet : (k : ℕ) → k < 25 → IsQuiet (with_shipped user) input (after k)
  quiet k h = record {
    off = agree_below_at (λ j. (reached (with_shipped user) input (after j)).psw.current.interrupts) (λ j. false) 25 k refl h;
    goes = agree_below_at (λ j. (reached (with_shipped user) input (after j)).halted) (λ j. false) 25 k refl h;
    silent = agree_below_at (λ j. is_some (commit_byte (with_shipped user) input (shifted (after j)))) (λ j. false) 25 k refl h;
  }
