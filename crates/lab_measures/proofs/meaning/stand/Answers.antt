use Rattle.std.proofs.Common.{◌≡◌, ℕ, [], sym, ap, ◌∙◌}
use Rattle.mx_source.specs.Meaning.{Program, Run, program, run_for}
use Rattle.mx_seq.specs.Seqs.{state_of}
use Rattle.cmd_meaning.specs.Told.{steps_in}
use Rattle.cmd_meaning.specs.Endings.{mark_of}
use Rattle.mx_isa.specs.Board.{board}
use Rattle.lab_measures.specs.Standings.{begun}
use Rattle.lab_measures.proofs.meaning.stand.Goals as goal

pub returns : goal.returns
returns c =
    let n : ℕ = c.args.steps in
    let source = c.args.source.now in
    let p : Program = program source board c.args.input.now in
    let r : Run = run_for p n (begun source) in
    let progress = c.in-Ok.progress in
    let last : Run = record { state = state_of c.run_steps.new.seq; console = c.run_steps.new.console.items } in
    let at_start : ◌≡◌ {A = Run} (record { state = state_of c.in_ok-seq.seq; console = c.new-console.result.items }) (begun source) =
    λ k. record { state = c.in_ok-seq.ensures.state k; console = c.new-console.ensures.items k } in
    let ran : last ≡ r = c.in-Ok.ensures.run ∙ (λ k. run_for (c.in_ok-seq.ensures.program k) n (at_start k)) in
    let counted : progress.steps ≡ steps_in p n (begun source) = c.in-Ok.ensures.steps ∙ (λ k. steps_in (c.in_ok-seq.ensures.program k) n (at_start k)) in
    let mark : mark_of progress.ending ≡ last.state.mark = sym c.in-Ok.ensures.ending in
    record {
      ending = mark ∙ ap (λ (x : Run). x.state.mark) ran;
      steps = counted;
      index = c.index.ensures ∙ ap (λ (x : Run). x.state.index) ran;
    }
