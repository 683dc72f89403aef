use Rattle.std.proofs.Common.{◌-◌, ◌∷◌, refl, ◌∙◌, arith}
use Rattle.std.specs.Prelude.{slice_index}
use Rattle.std.proofs.lemmas.Bool.{ne_eqb, eq-eqb}
use Rattle.mx_icache.specs.Residency.{resident}
use Rattle.mx_turn.specs.Cycle.{MachineState, acted, acted_answer}
use Rattle.mx_turn.specs.Kept.{code_of_turns, machine_of, shown_of}
use Rattle.mx_turn.proofs.Steps.{cycled_halted, cycled_acted, cycled_stalled, answer_acted}
use Rattle.mx_turn.proofs.Stands.{answers, stands_on}
use Rattle.mx_turn.proofs.turns.TurnsMachine.cycle.Goals as goal

pub returns-then-self-clause-next : goal.returns-then-self-clause-next
returns-then-self-clause-next g c = λ p h s.
    let self = c.args.self.now in
    stands_on g.C.FetchCache.holds self p h s c.args.request self s.past s.before s.cache s.missed (record { code = refl; input = refl })
    (cycled_halted resident (code_of_turns self) self.board.input (machine_of self s.past s.before (shown_of self)) c.args.request c.if-self.true)

pub returns-then-self-gt0-clause-next : goal.returns-then-self-gt0-clause-next
returns-then-self-gt0-clause-next g c = λ p h s.
    let self = c.args.self.now in
    let m : MachineState = machine_of self s.past s.before (shown_of self) in
    stands_on g.C.FetchCache.holds self p h s c.args.request _ s.past s.before s.cache s.missed (record { code = refl; input = refl })
    ((λ k. record m { latch = c.either-self.ensures k; stall = m.stall - 1; counts = c.stalled.ensures k })
    ∙ cycled_stalled resident (code_of_turns self) self.board.input m c.args.request c.if-self.false
    (ne_eqb _ 0 (λ e. absurd (omega (arith, e, c.if-self-gt0.true)))))

pub returns-clause-answer : goal.returns-clause-answer
returns-clause-answer g c = λ p h s.
    let self = c.args.self.now in
    let m : MachineState = machine_of self s.past s.before (shown_of self) in
    answers g.C.FetchCache.holds self p h s c.args.request _
    (c.act.ensures.answer s.past s.before (shown_of self)
    ∙ (λ k. let l : MachineState = record m { latch = c.either-self.ensures k } in acted_answer (code_of_turns self) self.board.input l)
    ∙ answer_acted resident (code_of_turns self) self.board.input m c.args.request c.if-self.false (eq-eqb _ 0 (omega (arith, c.if-self-gt0.false))))

pub returns-clause-next : goal.returns-clause-next
returns-clause-next g c = λ p h s.
    let self = c.args.self.now in
    let m : MachineState = machine_of self s.past s.before (shown_of self) in
    stands_on g.C.FetchCache.holds self p h s c.args.request c.act.new.self (self.next.address ∷ s.past) (slice_index self.registers.file)
    (c.act.ensures.cache (self.next.address ∷ s.past) s.cache)
    (c.act.ensures.missed (self.next.address ∷ s.past) s.cache)
    (record { code = c.act.ensures.program.code; input = c.act.ensures.program.input })
    (c.act.ensures.state s.past s.before (shown_of self) s.cache s.missed
    ∙ (λ k. let l : MachineState = record m { latch = c.either-self.ensures k } in acted resident (code_of_turns self) self.board.input l)
    ∙ cycled_acted resident (code_of_turns self) self.board.input m c.args.request c.if-self.false (eq-eqb _ 0 (omega (arith, c.if-self-gt0.false))))
