use Rattle.std.proofs.Common.{not, ◌≡◌, ◌-◌, cond, [], ◌∷◌, ◌++◌, refl, sym, ap, ◌∙◌, subst, arith}
use Rattle.std.proofs.lemmas.Bool.{ne_eqb, eq-eqb}
use Rattle.mx_delay.specs.Delay.{Code}
use Rattle.mx_icache.specs.Residency.{resident}
use Rattle.mx_turn.specs.Counted.{after_stall}
use Rattle.mx_turn.specs.Cycle.{counts_after, MachineState, latched, ended, reached, acted, acted_answer}
use Rattle.mx_turn.specs.Program.{state_after}
use Rattle.mx_turn.proofs.Steps.{cycled_halted, cycled_acted, cycled_stalled, answer_acted, answer_stalled}
use Rattle.mx_pipe.specs.declared.pipe.Pipe.{Pipe}
use Rattle.mx_pipe.specs.declared.pipe.Wait.{Wait}
use Rattle.mx_pipe.specs.declared.pipe.Wait.TheVariants.{NotAsked, Missed}
use Rattle.mx_pipe.specs.Kept.{code_of_pipe, has_missed, Holds, StillShown, Waits, KeepsProgram, StandsFor}
use Rattle.mx_pipe.proofs.Stands.{answers, stands_on, waiting, past_ended, missed_is, same_code, keeps_both, tied_latched, waits_latched}
use Rattle.mx_pipe.proofs.machine.PipeMachine.cycle.Goals as goal

pub returns-then-self-clause-next : goal.returns-then-self-clause-next
returns-then-self-clause-next g c = λ p h s.
    let self = c.args.self.now in
    stands_on g.C.FetchCache.holds self p h s c.args.request self (state_after p h) (record { code = refl; handler = refl; decoded = refl; input = refl })
    (cycled_halted resident (code_of_pipe self) self.board.input (state_after p h) c.args.request (sym s.tied.rest.halted ∙ c.if-self.true))
    s.waits s.counts s.tied

pub returns-then-left-gt0-clause-answer : goal.returns-then-left-gt0-clause-answer
returns-then-left-gt0-clause-answer g c = λ p h s.
    let self = c.args.self.now in
    let u = c.latch_request.new.self in
    let m : MachineState = state_after p h in
    let e = c.latch_request.ensures in
    let tied = tied_latched g.C.FetchCache.holds self u p h s c.args.request e.state e.wait e.cache in
    let left : c.left-left.result ≡ m.stall =
    c.left-left.ensures.left m tied.rest.next (waits_latched g.C.FetchCache.holds self u p h s c.args.request e.state e.wait e.cache) in
    answers g.C.FetchCache.holds self p h s c.args.request _
    (c.in_stall.ensures
    ∙ answer_stalled resident (code_of_pipe self) self.board.input m c.args.request (sym s.tied.rest.halted ∙ c.if-self.false)
    (ne_eqb _ 0 (λ e. absurd (omega (arith, e, left, c.if-left-gt0.true)))))

pub returns-then-left-gt0-clause-next : goal.returns-then-left-gt0-clause-next
returns-then-left-gt0-clause-next g c = λ p h s.
    let self = c.args.self.now in
    let u = c.latch_request.new.self in
    let q = c.left-left.new.self in
    let m : MachineState = state_after p h in
    let l : MachineState = latched c.args.request m in
    let e = c.latch_request.ensures in
    let tied = tied_latched g.C.FetchCache.holds self u p h s c.args.request e.state e.wait e.cache in
    let waits = waits_latched g.C.FetchCache.holds self u p h s c.args.request e.state e.wait e.cache in
    let left : c.left-left.result ≡ m.stall = c.left-left.ensures.left m tied.rest.next waits in
    let keeps : KeepsProgram self q = keeps_both self u q e.program c.left-left.ensures.program in
    let counts : q.counts ≡ m.counts = c.left-left.ensures.counts ∙ e.counts ∙ s.counts in
    let over : Wait = Missed (c.left-left.result - 1) in
    let stalled : Pipe g.row.C.Denot = record q { wait = over; counts = after_stall q.counts } in
    subst (λ x. StandsFor g.C.FetchCache.holds x p (h ++ c.args.request ∷ [])) (sym c.stall.ensures)
    (stands_on g.C.FetchCache.holds self p h s c.args.request stalled _
    (record { code = keeps.code; handler = keeps.handler; decoded = keeps.decoded; input = keeps.input })
    (cycled_stalled resident (code_of_pipe self) self.board.input m c.args.request (sym s.tied.rest.halted ∙ c.if-self.false)
    (ne_eqb _ 0 (λ e. absurd (omega (arith, e, left, c.if-left-gt0.true)))))
    (c.left-left.ensures.cache m tied.rest.next waits, ap (λ x. x - 1) (sym left), c.left-left.ensures.missed m tied.rest.next waits c.if-left-gt0.true)
    (ap after_stall counts)
    (waiting (code_of_pipe self) q l over (after_stall q.counts) (m.stall - 1) (after_stall m.counts) (c.left-left.ensures.state (code_of_pipe self) l tied)))

pub returns-clause-answer : goal.returns-clause-answer
returns-clause-answer g c = λ p h s.
    let self = c.args.self.now in
    let u = c.latch_request.new.self in
    let q = c.left-left.new.self in
    let m : MachineState = state_after p h in
    let l : MachineState = latched c.args.request m in
    let e = c.latch_request.ensures in
    let tied = tied_latched g.C.FetchCache.holds self u p h s c.args.request e.state e.wait e.cache in
    let left : c.left-left.result ≡ m.stall =
    c.left-left.ensures.left m tied.rest.next (waits_latched g.C.FetchCache.holds self u p h s c.args.request e.state e.wait e.cache) in
    let keeps : KeepsProgram self q = keeps_both self u q e.program c.left-left.ensures.program in
    let same : code_of_pipe q ≡ code_of_pipe self = same_code self q keeps in
    let asked : Holds (code_of_pipe self) q l = c.left-left.ensures.state (code_of_pipe self) l tied in
    let shows : StillShown l.shown l.fetch l.rf l.alu l.mem = record { older = s.shows.older; younger = s.shows.younger } in
    answers g.C.FetchCache.holds self p h s c.args.request c.act.result
    (c.act.ensures.answer l (subst (λ x. Holds x q l) (sym same) asked) shows
    ∙ (λ k. acted_answer (same k) (keeps.input k) l)
    ∙ answer_acted resident (code_of_pipe self) self.board.input m c.args.request (sym s.tied.rest.halted ∙ c.if-self.false)
    (eq-eqb _ 0 (omega (arith, left, c.if-left-gt0.false))))

pub returns-clause-next : goal.returns-clause-next
returns-clause-next g c = λ p h s.
    let self = c.args.self.now in
    let u = c.latch_request.new.self in
    let q = c.left-left.new.self in
    let m : MachineState = state_after p h in
    let l : MachineState = latched c.args.request m in
    let e = c.latch_request.ensures in
    let code : Code = code_of_pipe self in
    let tied = tied_latched g.C.FetchCache.holds self u p h s c.args.request e.state e.wait e.cache in
    let waits = waits_latched g.C.FetchCache.holds self u p h s c.args.request e.state e.wait e.cache in
    let left : c.left-left.result ≡ m.stall = c.left-left.ensures.left m tied.rest.next waits in
    let none_left : m.stall ≡ 0 = omega (arith, left, c.if-left-gt0.false) in
    let keeps : KeepsProgram self q = keeps_both self u q e.program c.left-left.ensures.program in
    let same : code_of_pipe q ≡ code = same_code self q keeps in
    let asked : Holds (code_of_pipe q) q l = subst (λ x. Holds x q l) (sym same) (c.left-left.ensures.state code l tied) in
    let shows : StillShown l.shown l.fetch l.rf l.alu l.mem = record { older = s.shows.older; younger = s.shows.younger } in
    let end : MachineState = ended code (reached code self.board.input l) in
    let done : Holds code c.act.new.self end =
    subst (λ x. Holds code c.act.new.self x) (λ k. ended (same k) (reached (same k) (keeps.input k) l))
    (subst (λ x. Holds x c.act.new.self (ended (code_of_pipe q) (reached (code_of_pipe q) q.board.input l))) same (c.act.ensures.state l asked shows)) in
    let cache : g.C.FetchCache.holds c.act.new.self.cache end.past =
    subst (g.C.FetchCache.holds c.act.new.self.cache) (sym (past_ended code (reached code self.board.input l)))
    (subst (λ k. g.C.FetchCache.holds k (m.next.address ∷ m.past)) (sym c.act.ensures.cache) (c.left-left.ensures.cache m tied.rest.next waits)) in
    let missed : has_missed q.wait ≡ not (resident m.past m.next.address) =
    ap has_missed (c.left-left.ensures.wait ∙ e.wait) ∙ missed_is g.C.FetchCache.holds self.cache m self.wait s.waits none_left in
    let before : q.counts ≡ m.counts = c.left-left.ensures.counts ∙ e.counts ∙ s.counts in
    let counts : c.act.new.self.counts ≡ counts_after code self.board.input (not (resident m.past m.next.address)) l =
    c.act.ensures.counts l asked shows before ∙ (λ k. counts_after (same k) (keeps.input k) (missed k) l) in
    let wait : c.act.new.self.wait ≡ NotAsked = c.act.ensures.wait in
    stands_on g.C.FetchCache.holds self p h s c.args.request c.act.new.self (acted resident code self.board.input l)
    (keeps_both self q c.act.new.self keeps c.act.ensures.program)
    (cycled_acted resident code self.board.input m c.args.request (sym s.tied.rest.halted ∙ c.if-self.false) (eq-eqb _ 0 none_left))
    (subst (λ w. Waits g.C.FetchCache.holds c.act.new.self.cache (acted resident code self.board.input l) w) (sym wait) (cache, refl))
    counts
    (waiting code c.act.new.self end c.act.new.self.wait c.act.new.self.counts (cond (resident end.past end.next.address) 0 2)
    (counts_after code self.board.input (not (resident m.past m.next.address)) l) done)
