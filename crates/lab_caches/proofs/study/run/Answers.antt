use Rattle.std.proofs.Common.{◌≡◌, ◌≤◌, ◌+◌, suc, List, Bool, sym, ap, ◌∙◌, subst, arith}
use Rattle.lab_cache.specs.All.{AllHold}
use Rattle.mx_turn.specs.Cycle.{MachineState}
use Rattle.mx_turn.specs.Program.{state_after}
use Rattle.mx_turn.specs.Run.{bits}
use Rattle.lab_caches.proofs.Runs.{next_bits, halts, ended}
use Rattle.lab_caches.proofs.study.run.Goals as goal

pub returns-then-cycle_with-clause-halted : goal.returns-then-cycle_with-clause-halted
returns-then-cycle_with-clause-halted g c = λ p s.
    let i = c.loop-cycle.cycle in
    let reqs = c.args.requests.now in
    let now = c.loop-cycle.invariant.run p s in
    let answered = c.cycle_with.ensures.answer p (bits reqs i) now.0 in
    let lt = c.loop-cycle-test.true in
    let within : suc i ≤ c.args.budget = omega (arith, lt) in
    sym c.if-cycle_with.true
    ∙ halts p reqs i _ c.wants.ensures _ answered
    ∙ ap (λ (m : MachineState). m.halted) (ended p reqs i _ c.wants.ensures _ answered c.if-cycle_with.true c.args.budget within)

pub returns-then-cycle_with-clause-stands : goal.returns-then-cycle_with-clause-stands
returns-then-cycle_with-clause-stands g c = λ p s.
    let i = c.loop-cycle.cycle in
    let reqs = c.args.requests.now in
    let now = c.loop-cycle.invariant.run p s in
    let answered = c.cycle_with.ensures.answer p (bits reqs i) now.0 in
    let lt = c.loop-cycle-test.true in
    let within : suc i ≤ c.args.budget = omega (arith, lt) in (
      bits reqs (suc i),
      subst (λ (h : List Bool). g.M.Machine.stands c.cycle_with.new.machine p h) (next_bits p reqs i _ c.wants.ensures)
          (c.cycle_with.ensures.next p (bits reqs i) now.0),
      ended p reqs i _ c.wants.ensures _ answered c.if-cycle_with.true c.args.budget within,
    )

pub returns-then-cycle_with-clause-fetched : goal.returns-then-cycle_with-clause-fetched
returns-then-cycle_with-clause-fetched g c = λ p gs s held.
    let i = c.loop-cycle.cycle in
    let reqs = c.args.requests.now in
    let now = c.loop-cycle.invariant.run p s in
    let answered = c.cycle_with.ensures.answer p (bits reqs i) now.0 in
    let lt = c.loop-cycle-test.true in
    let within : suc i ≤ c.args.budget = omega (arith, lt) in
    subst (λ (m : MachineState). AllHold c.cycle_with.new.all.groups.items gs m.past)
    (ap (state_after p) (next_bits p reqs i _ c.wants.ensures) ∙ ended p reqs i _ c.wants.ensures _ answered c.if-cycle_with.true c.args.budget within)
    (c.cycle_with.ensures.fetched p (bits reqs i) gs now.0 now.1 (now.2 gs held))

pub loop-cycle-preserved : goal.loop-cycle-preserved
loop-cycle-preserved g c =
    let i = c.loop-cycle.cycle in
    let reqs = c.args.requests.now in
    let before = c.loop-cycle.invariant.counted in
    let one = c.cycle_with.ensures.cycles in
    let lt = c.loop-cycle-test.true in
    let next : suc i ≡ i + 1 = omega arith in
    record {
      counted = omega (arith, before, one);
      within = omega (arith, lt);
      run = λ p s.
          let now = c.loop-cycle.invariant.run p s in
          let bits_are = next_bits p reqs i _ c.wants.ensures ∙ ap (bits reqs) next in
          let answered = c.cycle_with.ensures.answer p (bits reqs i) now.0 in (
            subst (λ (h : List Bool). g.M.Machine.stands c.cycle_with.new.machine p h) bits_are (c.cycle_with.ensures.next p (bits reqs i) now.0),
            ap (λ n. (state_after p (bits reqs n)).halted) (sym next) ∙ sym (halts p reqs i _ c.wants.ensures _ answered) ∙ c.if-cycle_with.false,
            λ gs held.
                subst (λ (h : List Bool). AllHold c.cycle_with.new.all.groups.items gs (state_after p h).past) bits_are
                (c.cycle_with.ensures.fetched p (bits reqs i) gs now.0 now.1 (now.2 gs held)),
          );
    }
