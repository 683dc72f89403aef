use Rattle.std.proofs.Common.{ap, ◌∙◌}
use Rattle.mx_turn.specs.Counted.{Counted}
use Rattle.lab_measures.proofs.machine.run_machine.Goals as goal

pub returns-clause-cycles : goal.returns-clause-cycles
returns-clause-cycles g c = λ p stands. c.cycles_in.ensures ∙ ap (λ (x : Counted). x.cycles) (c.in_ok-driven.ensures.counts p stands)

pub returns-clause-halted : goal.returns-clause-halted
returns-clause-halted g c = λ p stands. c.has_halted.ensures ∙ c.in_ok-driven.ensures.halted p stands
