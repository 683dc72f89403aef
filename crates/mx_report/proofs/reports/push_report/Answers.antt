use Rattle.std.proofs.Common.{◌++◌, List, ℕ, ap, ◌∙◌, append_assoc}
use Rattle.mx_turn.specs.Program.{state_after}
use Rattle.mx_report.specs.Report.{last_text, head_text, report_text}
use Rattle.mx_report.proofs.reports.push_report.Goals as goal

pub returns : goal.returns
unfolding report_text
returns g c = λ p h s.
    let d = c.args.driven.now in
    let head : List ℕ = head_text d.halted d.counts d.console.items c.args.code.now in
    let last : List ℕ = last_text d.halted (state_after p h).core c.args.dump in
    c.in_ok-push_last.ensures p h s ∙ ap (λ t. t ++ last) c.in_ok-push_head.ensures ∙ append_assoc c.args.text.now.items head last
