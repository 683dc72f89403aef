use Rattle.std.proofs.Common.{◌≡◌, ◌≢◌, ◌+◌, ◌-◌, Option, IfSome, subst, sym, ap, ◌∙◌, arith}
use Rattle.mx_source.specs.Meaning.{Going, Program, Run}
use Rattle.mx_seq.specs.Seqs.{program_of, state_of}
use Rattle.cmd_meaning.specs.declared.steps.Ending.{Ending}
use Rattle.cmd_meaning.specs.Told.{went, steps_in}
use Rattle.cmd_meaning.specs.Endings.{mark_of, mark_after}
use Rattle.cmd_meaning.proofs.Walks.{run_still, steps_still, left_after}
use Rattle.cmd_meaning.proofs.steps.run_steps.Goals as goal

pub returns-in-Some : goal.returns-in-Some
returns-in-Some c =
    let p : Program = program_of c.args.seq.now in
    let new : Run = record { state = state_of c.take_step.new.seq; console = c.take_step.new.console.items } in
    let step = c.in_ok-take_step.ensures in
    let before = c.loop-done.invariant in
    let left = left_after p _ c.args.steps c.loop-done.done _ new before.program step.run (omega arith) before.going in
    let mark : new.state.mark ≡ mark_of c.in-Some.ending = step.mark ∙ ap mark_after c.in-Some.is in
    let ended : mark_of c.in-Some.ending ≢ Going = subst (λ (o : Option Ending). IfSome o (λ e. mark_of e ≢ Going)) c.in-Some.is step.ended in
    let still : new.state.mark ≢ Going = λ g. ended (sym mark ∙ g) in
    let rest : steps_in p (c.args.steps - (c.loop-done.done + 1)) new ≡ 0 = steps_still p (c.args.steps - (c.loop-done.done + 1)) new still in
    let last : went Going new.state.mark ≡ c.counted.result = ap (went Going) mark ∙ sym c.counted.ensures.count in
    let all = left.steps in
    let counted = before.counted in
    record {
      run = sym (run_still p (c.args.steps - (c.loop-done.done + 1)) new still) ∙ left.run ∙ before.run;
      program = step.program ∙ before.program;
      steps = omega (arith, rest, last, all, counted);
      ending = mark;
    }

pub loop-done-preserved : goal.loop-done-preserved
loop-done-preserved c =
    let step = c.in_ok-take_step.ensures in
    let before = c.loop-done.invariant in
    let left = left_after (program_of c.args.seq.now) _ c.args.steps c.loop-done.done _ _ before.program step.run (omega arith) before.going in
    let mark : (state_of c.take_step.new.seq).mark ≡ Going = step.mark ∙ ap mark_after c.in-None.is in
    let one : went Going (state_of c.take_step.new.seq).mark ≡ 1 = ap (went Going) mark in
    let all = left.steps in
    let counted = before.counted in
    record {
      program = step.program ∙ before.program;
      going = mark;
      run = left.run ∙ before.run;
      counted = omega (arith, one, all, counted);
    }
