use Rattle.std.proofs.Common.{◌++◌, codes, length, ◌∙◌}
use Rattle.mx_text.specs.Text.{line, count_line, console_lines}
use Rattle.cmd_debug.specs.Texts.{stops_text, session_text}
use Rattle.cmd_debug.proofs.texts.session_text.Goals as goal

pub returns : goal.returns
unfolding session_text
returns c =
    let watch = c.args.watch in
    let stops = c.in_ok-push_stops.ensures ∙ (λ k. c.new-text.ensures.items k ++ stops_text watch 1 (c.as_slice-stops.ensures.value k)) in
    let ended = c.in_ok-push_line.ensures.ok ∙ (λ k. stops k ++ line (c.ended.ensures.text k)) in
    let counted = c.in_ok-push_count.ensures.ok ∙ (λ k. ended k ++ count_line (codes "stops") (length (c.as_slice-stops.ensures.value k))) in
    c.in_ok-push_console.ensures.ok ∙ (λ k. counted k ++ console_lines (c.as_slice.ensures.value k))
