use Rattle.std.proofs.Common.{◌++◌, codes, ap, ◌∙◌}
use Rattle.mx_text.specs.Text.{line}
use Rattle.mx_report.specs.Report.{counts_text}
use Rattle.cmd_share.specs.Runs.{console_of, shared_text}
use Rattle.cmd_share.proofs.runs.text_of.Goals as goal

pub returns : goal.returns
unfolding shared_text
returns c =
    let first = c.in_ok-push_line.ensures.ok ∙ (λ k. c.new-text.ensures.items k ++ line (c.ending.ensures k)) in
    let counts = c.in_ok-push_counts.ensures ∙ ap (λ l. l ++ counts_text c.args.run.now.counts) first in
    let one = c.in_ok-push_console_of.ensures ∙ (λ k. counts k ++ console_of (codes "first") (c.as_slice.ensures.value k)) in
    c.in_ok-push_console_of-2.ensures ∙ (λ k. one k ++ console_of (codes "second") (c.as_slice-2.ensures.value k))
