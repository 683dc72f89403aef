use Rattle.std.proofs.Common.{◌∙◌}
use Rattle.mx_turn.specs.Kept.{code_of_turns, machine_of}
use Rattle.mx_turn.proofs.Going.{aside_is}
use Rattle.mx_turn.proofs.turns.Turns.transfer.Goals as goal

pub returns-clause-state : goal.returns-clause-state
returns-clause-state g c = λ past before shown.
    let d = c.decide-decided.ensures in
    c.turn_aside.ensures.state past before shown
    ∙ aside_is (code_of_turns c.args.self.now)
    (machine_of c.args.self.now past before shown) c.args.inst.now c.address.result c.decide-decided.result c.goes_back-back.result
    c.requires c.address.ensures.value d.target d.cancels d.pops d.restores c.goes_back-back.ensures
