use Rattle.std.proofs.Common.{◌+◌, ◌-◌, ℕ, List, sym, ap, ◌∙◌, arith}
use Rattle.cc_meaning.specs.declared.machine.Stepped.TheVariants.{Went, Halted, Stuck}
use Rattle.cc_meaning.specs.Machines.{state_of}
use Rattle.cc_meaning.specs.Runs.{run_for}
use Rattle.cc_meaning.proofs.Walks.{one_more}
use Rattle.cc_meaning.proofs.running.run.Goals as goal

pub loop-done-preserved : goal.loop-done-preserved
loop-done-preserved c =
    let p = c.args.program.now in
    let left = c.args.steps - c.loop-done._done in
    let n = c.args.steps - (c.loop-done._done + 1) in
    let d = c.step.ensures in
    let went = sym c.in-Went.is ∙ d.answer in
    ap (λ (k : List ℕ). run_for p c.args.layout.now c.args.input.now n (state_of c.step.new.self) k) c.in_ok-push_sent-in-Went.ensures
    ∙ sym (one_more p c.args.layout.now c.args.input.now n left _ _ _ (Went c.in-Went.sent) (omega arith) d.state went)
    ∙ c.loop-done.invariant

pub returns-in-Halted : goal.returns-in-Halted
returns-in-Halted c =
    let left = c.args.steps - c.loop-done._done in
    let n = c.args.steps - (c.loop-done._done + 1) in
    let d = c.step.ensures in
    let halted = sym c.in-Halted.is ∙ d.answer in
    sym (one_more c.args.program.now c.args.layout.now c.args.input.now n left _ _ _ (Halted c.in-Halted.status) (omega arith) d.state halted)
    ∙ c.loop-done.invariant

pub returns-in-Stuck : goal.returns-in-Stuck
returns-in-Stuck c =
    let left = c.args.steps - c.loop-done._done in
    let n = c.args.steps - (c.loop-done._done + 1) in
    let d = c.step.ensures in
    let stuck = sym c.in-Stuck.is ∙ d.answer in
    sym (one_more c.args.program.now c.args.layout.now c.args.input.now n left _ _ _ (Stuck c.in-Stuck.why) (omega arith) d.state stuck)
    ∙ c.loop-done.invariant
