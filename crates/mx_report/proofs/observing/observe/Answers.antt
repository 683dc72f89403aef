use Rattle.std.proofs.Common.{◌≡◌, ◌<◌, ◌≤◌, ◌+◌, ℕ, suc, List, true, false, arith, sym, ◌∙◌, subst}
use Rattle.mx_turn.specs.Program.{state_after}
use Rattle.mx_turn.specs.Run.{bits}
use Rattle.mx_report.proofs.Runs.{state_at, state_still, going_before}
use Rattle.mx_report.proofs.observing.observe.Goals as goal

pub returns-then-halted-clause-going : goal.returns-then-halted-clause-going
returns-then-halted-clause-going g c = λ p.
    let i = c.in_ok-cycle.cycle in
    subst (λ (xs : List ℕ). g.M.Machine.stands c.args.machine.now p (bits xs c.args.from) → (state_after p (bits xs c.args.from)).halted ≡ false
    → (n : ℕ) → n < i + 1 → (state_after p (bits xs n)).halted ≡ false) c.list-list.ensures.list
    (λ s going n less.
    let inv = c.loop-cycle.invariant.run p s going in
    going_before p c.list-list.result.now n i (omega (arith, less)) (c.in_ok-cycle.ensures.going p inv.0 inv.1))

pub returns-then-halted-clause-last : goal.returns-then-halted-clause-last
returns-then-halted-clause-last g c = λ more p.
    let i = c.in_ok-cycle.cycle in
    subst (λ (xs : List ℕ). g.M.Machine.stands c.args.machine.now p (bits xs c.args.from) → (state_after p (bits xs c.args.from)).halted ≡ false
    → state_after p (bits xs (i + 1)) ≡ state_after p (bits xs c.args.to)) c.list-list.ensures.list
    (λ s going.
    let inv = c.loop-cycle.invariant.run p s going in
    let list = c.list-list.result.now in
    let next : suc i ≡ i + 1 = omega arith in
    let within : suc i ≤ c.args.to = let lt = c.in_ok-cycle.ensures.budget in omega (arith, lt) in
    let h : (state_at p list (suc i)).halted ≡ true =
    sym (c.in_ok-halted.ensures.halted p (c.in_ok-cycle.ensures.stands p inv.0)) ∙ c.if-halted.true in
    subst (λ (k : ℕ). state_after p (bits list k) ≡ state_after p (bits list c.args.to)) next (sym (state_still p list (suc i) h c.args.to within)))

pub returns-then-has_enough-clause-going : goal.returns-then-has_enough-clause-going
returns-then-has_enough-clause-going g c = λ p.
    let i = c.in_ok-cycle.cycle in
    subst (λ (xs : List ℕ). g.M.Machine.stands c.args.machine.now p (bits xs c.args.from) → (state_after p (bits xs c.args.from)).halted ≡ false
    → (n : ℕ) → n < i + 1 → (state_after p (bits xs n)).halted ≡ false) c.list-list.ensures.list
    (λ s going n less.
    let inv = c.loop-cycle.invariant.run p s going in
    going_before p c.list-list.result.now n i (omega (arith, less)) (c.in_ok-cycle.ensures.going p inv.0 inv.1))

pub returns-clause-going : goal.returns-clause-going
returns-clause-going g c = λ p.
    subst (λ (xs : List ℕ). g.M.Machine.stands c.args.machine.now p (bits xs c.args.from) → (state_after p (bits xs c.args.from)).halted ≡ false
    → (n : ℕ) → n < c.args.to → (state_after p (bits xs n)).halted ≡ false) c.list-list.ensures.list
    (λ s going n less.
    let inv = c.loop-cycle.invariant.run p s going in
    let end = c.loop-cycle-test.false in
    going_before p c.list-list.result.now n c.loop-cycle.cycle (omega (arith, less, end)) inv.1)
