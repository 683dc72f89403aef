use Rattle.std.proofs.Common.{ap, ◌∙◌}
use Rattle.mx_turn.specs.declared.Cycled.{Cycled}
use Rattle.mx_turn.specs.Program.{answer_after}
use Rattle.mx_turn.specs.Run.{bits}
use Rattle.mx_report.proofs.Runs.{next_halted}
use Rattle.mx_report.proofs.observing.run_cycle.Goals as goal

pub returns-clause-halted : goal.returns-clause-halted
returns-clause-halted g c = λ p s.
    let h = bits c.args.list.now c.args.cycle in
    ap (λ (r : Cycled). r.halted) (c.in_ok-cycled.ensures.answer p h s ∙ ap (answer_after p h) c.comes-request.ensures.result)
    ∙ next_halted p c.args.list.now c.args.cycle
