-- One cycle more of a run.
use Rattle.std.proofs.Common.{◌≡◌, ◌≤◌, ◌++◌, ◌∷◌, [], ℕ, suc, Bool, true, List, sym, ap, ◌∙◌}
use Rattle.mx_turn.specs.declared.machine.Cycled.{Cycled}
use Rattle.mx_turn.specs.Program.{Program, answer_after}
use Rattle.mx_turn.specs.Run.{is_requested, bits}
use Rattle.mx_report.proofs.Runs.{state_at, next_halted, state_still}

module _ (p : Program) (requests : List ℕ) (i : ℕ) (request : Bool) (comes : request ≡ is_requested requests i) where
  pub next_bits : bits requests i ++ request ∷ [] ≡ bits requests (suc i)
  next_bits k = bits requests i ++ comes k ∷ []

  module _ (r : Cycled) (answered : r ≡ answer_after p (bits requests i) request) where
    pub halts : r.halted ≡ (state_at p requests (suc i)).halted
    halts = ap (λ (x : Cycled). x.halted) (answered ∙ ap (answer_after p (bits requests i)) comes) ∙ next_halted p requests i

    -- where it halts, the machine stays so until the budget is spent
    pub ended : r.halted ≡ true → (budget : ℕ) → suc i ≤ budget → state_at p requests (suc i) ≡ state_at p requests budget
    ended h budget le = sym (state_still p requests (suc i) (sym halts ∙ h) budget le)
