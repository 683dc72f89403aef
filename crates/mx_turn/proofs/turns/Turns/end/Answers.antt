use Rattle.std.proofs.Common.{sym, ◌∙◌}
use Rattle.mx_turn.specs.Kept.{code_of_turns, machine_of}
use Rattle.mx_turn.proofs.Steps.{ended_taken, ended_on, taken_when, not_taken, taken_keeps, squashes_on}
use Rattle.mx_turn.proofs.turns.Turns.end.Goals as goal

pub returns-then-is_taken-clause-state : goal.returns-then-is_taken-clause-state
returns-then-is_taken-clause-state g c = λ past before shown.
    ended_taken (code_of_turns c.args.self.now) (machine_of c.args.self.now past before shown) _ c.if-over.false
    (sym (c.is_taken.ensures past before shown) ∙ c.if-is_taken.true) (c.enter.ensures.state past before shown)

pub returns-then-is_taken-clause-taken : goal.returns-then-is_taken-clause-taken
returns-then-is_taken-clause-taken g c = λ past before shown.
    taken_when (machine_of c.args.self.now past before shown) c.if-over.false (sym (c.is_taken.ensures past before shown) ∙ c.if-is_taken.true)

pub returns-then-is_taken-clause-squashed : goal.returns-then-is_taken-clause-squashed
returns-then-is_taken-clause-squashed g c = λ past before shown.
    taken_keeps (code_of_turns c.args.self.now) (machine_of c.args.self.now past before shown) c.if-over.false
    (sym (c.is_taken.ensures past before shown) ∙ c.if-is_taken.true)

pub returns-clause-state : goal.returns-clause-state
returns-clause-state g c = λ past before shown.
    ended_on (code_of_turns c.args.self.now) (machine_of c.args.self.now past before shown) _ c.if-over.false
    (sym (c.is_taken.ensures past before shown) ∙ c.if-is_taken.false) (c.decide-squashed.ensures.state past before shown)

pub returns-clause-taken : goal.returns-clause-taken
returns-clause-taken g c = λ past before shown.
    not_taken (machine_of c.args.self.now past before shown) c.if-over.false (sym (c.is_taken.ensures past before shown) ∙ c.if-is_taken.false)

pub returns-clause-squashed : goal.returns-clause-squashed
returns-clause-squashed g c = λ past before shown.
    squashes_on (code_of_turns c.args.self.now) (machine_of c.args.self.now past before shown) _ c.if-over.false
    (sym (c.is_taken.ensures past before shown) ∙ c.if-is_taken.false) (c.decide-squashed.ensures.cancels past before shown)
