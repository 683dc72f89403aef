use Rattle.std.proofs.Common.{◌≡◌, ◌++◌, [], cond, true, sym, ap, ◌∙◌}
use Rattle.std.specs.Option.{option_to_list}
use Rattle.mx_turn.specs.Program.{answer_after}
use Rattle.mx_turn.specs.Run.{bits}
use Rattle.mx_report.proofs.Runs.{cycled_at}
use Rattle.mx_tasks.specs.Sharing.{current_next}
use Rattle.mx_tasks.proofs.Driven.{next_sent, next_second, next_runs}
use Rattle.mx_tasks.proofs.driving.SharerObserver.cycle.Goals as goal

pub returns-clause-saw : goal.returns-clause-saw
returns-clause-saw g c = λ p reqs comes s going saw.
    let i = c.args.cycle in
    let answered : c.cycle-cycled.result ≡ cycled_at p reqs i =
    c.cycle-cycled.ensures.answer p (bits reqs i) s ∙ ap (answer_after p (bits reqs i)) comes in (
      c.in_ok-push_for.ensures.first
          ∙ (λ k. saw.0 k ++ cond (saw.2 k) (option_to_list (answered k).byte) [])
          ∙ sym (next_sent p reqs true i),
      c.in_ok-push_for.ensures.second
          ∙ (λ k. saw.1 k ++ cond (saw.2 k) [] (option_to_list (answered k).byte))
          ∙ sym (next_second p reqs i),
      c.current_after-current.ensures ∙ (λ k. current_next (answered k).taken (saw.2 k)) ∙ next_runs p reqs i,
    )
