use Rattle.std.proofs.Common.{◌∙◌}
use Rattle.mx_turn.specs.Kept.{code_of_turns, machine_of}
use Rattle.mx_turn.proofs.Going.{decided_goes_on, cancels_not, tested}
use Rattle.mx_turn.proofs.turns.Turns.decide.Goals as goal

pub returns-then-not-is_transfer-clause-state : goal.returns-then-not-is_transfer-clause-state
returns-then-not-is_transfer-clause-state g c = λ past before shown.
    c.go_on.ensures.state past before shown
    ∙ decided_goes_on (code_of_turns c.args.self.now) (machine_of c.args.self.now past before shown)
    (tested c.is_transfer.result _ _ c.live-inst.ensures.what c.is_transfer.ensures c.if-not-is_transfer.true)

pub returns-then-not-is_transfer-clause-cancels : goal.returns-then-not-is_transfer-clause-cancels
returns-then-not-is_transfer-clause-cancels g c = λ past before shown.
    cancels_not (code_of_turns c.args.self.now) (machine_of c.args.self.now past before shown)
    (tested c.is_transfer.result _ _ c.live-inst.ensures.what c.is_transfer.ensures c.if-not-is_transfer.true)
