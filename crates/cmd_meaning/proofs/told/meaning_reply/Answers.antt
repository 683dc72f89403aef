use Rattle.std.proofs.Common.{◌≡◌, ℕ, List, [], ◌++◌, codes, sym, ap, ◌∙◌}
use Rattle.mx_source.specs.Meaning.{Mark, Program, Run, program, start, run_for}
use Rattle.mx_seq.specs.Seqs.{state_of}
use Rattle.mx_text.specs.Text.{count_line, console_lines}
use Rattle.cmd_answer.specs.Answer.{prints}
use Rattle.cmd_meaning.specs.Told.{steps_in, mark_text, last_text, meaning_text, status_of, meaning_answer}
use Rattle.cmd_meaning.specs.Endings.{mark_of, told_text}
use Rattle.mx_isa.specs.Board.{board}
use Rattle.cmd_meaning.proofs.told.meaning_reply.Goals as goal

-- the text of a state, with its mark given apart
abbrev apart_text : List ℕ → Run → Mark → ℕ → List ℕ
apart_text lines r mark steps = ((mark_text lines r.state.index mark ++ count_line (codes "steps") steps) ++ console_lines r.console) ++ last_text mark r.state

pub returns : goal.returns
unfolding told_text meaning_answer
returns c =
    let n : ℕ = c.args.steps in
    let source = c.args.source.now in
    let p : Program = program source board c.args.input.now in
    let begin : Run = record { state = start source board; console = [] } in
    let r : Run = run_for p n begin in
    let progress = c.in-Ok.progress in
    let last : Run = record { state = state_of c.run_steps.new.seq; console = c.run_steps.new.console.items } in
    let at_start : ◌≡◌ {A = Run} (record { state = state_of c.in_ok-seq.seq; console = c.new-console.result.items }) begin =
    λ k. record { state = c.in_ok-seq.ensures.state k; console = c.new-console.ensures.items k } in
    let ran : last ≡ r = c.in-Ok.ensures.run ∙ (λ k. run_for (c.in_ok-seq.ensures.program k) n (at_start k)) in
    let counted : progress.steps ≡ steps_in p n begin = c.in-Ok.ensures.steps ∙ (λ k. steps_in (c.in_ok-seq.ensures.program k) n (at_start k)) in
    let mark : mark_of progress.ending ≡ last.state.mark = sym c.in-Ok.ensures.ending in
    let text : c.in-Ok-text_of.output.items ≡ meaning_text source.lines r (steps_in p n begin) =
    c.in-Ok-text_of.ensures
    ∙ (λ k. apart_text (c.lines-lines.ensures.value k) (record { state = last.state; console = c.as_slice.ensures.value k }) (mark k) (counted k))
    ∙ ap (λ (x : Run). apart_text source.lines x x.state.mark (steps_in p n begin)) ran in
    let status : c.status_of-status.result ≡ status_of r.state.mark =
    c.status_of-status.ensures ∙ ap status_of mark ∙ ap (λ (x : Run). status_of x.state.mark) ran in
    λ k. prints (status k) (text k)
