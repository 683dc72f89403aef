-- Which program is current in a cycle, by the number of interrupts before it.
use Rattle.std.proofs.Common.{◌≡◌, ℕ, zero, suc, ◌+◌, ◌%◌, Bool, true, false, cond, not, List, [], ◌++◌, refl, sym, ap, ◌∙◌, arith}
use Rattle.std.specs.Prelude.{eqb}
use Rattle.std.proofs.lemmas.Bool.Decides.{nat_tests}
use Rattle.mx_turn.specs.Counted.{one}
use Rattle.mx_turn.specs.Cycle.{start}
use Rattle.mx_turn.specs.Program.{Program, memory_of}
use Rattle.mx_turn.specs.Run.{is_requested, bits, console_after}
use Rattle.mx_report.proofs.Runs.{one_more_byte}
use Rattle.law_interrupts.specs.Saves.{takes_in}
use Rattle.mx_tasks.specs.Sharing.{current_next, task_console, first_is_current}
use Rattle.mx_tasks.specs.Current.{taken_before, is_even, is_current, sent_in}
use Rattle.mx_tasks.proofs.Driven.{next_runs, next_sent, current_in}

odd_next : (k : ℕ) → not (eqb (k % 2) 0) ≡ eqb ((k + 1) % 2) 0
odd_next k = grind (arith, nat_tests)

even_next : (k : ℕ) (t : Bool) → current_next t (is_even k) ≡ is_even (k + one t)
even_next k true = odd_next k
even_next k false = ap is_even (let e : k ≡ k + 0 = omega arith in e)

module _ (q : Program) (requests : List ℕ) where
  pub by_parity : (n : ℕ) → first_is_current q requests n ≡ is_even (taken_before q requests n)
  by_parity zero = refl
  by_parity (suc n) =
      let t = takes_in q requests n in
      sym (next_runs q requests n) ∙ ap (current_next t) (by_parity n) ∙ even_next (taken_before q requests n) t

  pub of_current : (n : ℕ)
      → (console_after q (bits requests (suc n)) ≡ console_after q (bits requests n) ++ sent_in q requests n)
      × ((is_first : Bool) → task_console q requests is_first (suc n)
      ≡ task_console q requests is_first n ++ cond (is_current q requests is_first n) (sent_in q requests n) [])
  of_current n = (
    one_more_byte q (start (memory_of q)) (bits requests n) (is_requested requests n),
    λ is_first. next_sent q requests is_first n
        ∙ ap (λ b. task_console q requests is_first n ++ cond b (sent_in q requests n) []) (current_in q requests is_first n),
  )
