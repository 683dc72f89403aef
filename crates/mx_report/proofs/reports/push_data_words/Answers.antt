use Rattle.std.proofs.Common.{◌≡◌, ◌+◌, ◌-◌, ◌++◌, ℕ, List, [], ap, sym, ◌∙◌, append_assoc, append-nil, arith}
use Rattle.mx_text.specs.Text.{lines_from, word_line}
use Rattle.mx_text.proofs.Lines.{next_line, no_lines}
use Rattle.mx_turn.specs.Program.{state_after}
use Rattle.mx_report.proofs.reports.push_data_words.Goals as goal

pub loop-address-preserved : goal.loop-address-preserved
loop-address-preserved g c = λ p h s.
    let l : ℕ → List ℕ = λ a. word_line a ((state_after p h).core.mem a) in
    let i = c.loop-address.address in
    let text = c.loop-address.text.items in
    let rest = lines_from l (c.args.to - (i + 1)) (i + 1) in
    ap (λ t. t ++ rest) (c.in_ok-push_word_line.ensures.ok ∙ ap (λ w. text ++ word_line i w) (c.user_data.ensures p h s))
    ∙ append_assoc text (l i) rest
    ∙ ap (λ r. text ++ r) (sym (next_line l c.args.to i (omega arith)))
    ∙ c.loop-address.invariant p h s

pub returns : goal.returns
returns g c = λ p h s.
    let l : ℕ → List ℕ = λ a. word_line a ((state_after p h).core.mem a) in
    let i = c.loop-address.address in
    let text = c.loop-address.text.items in
    let last : c.args.to - i ≡ 0 = omega arith in
    let none : lines_from l (c.args.to - i) i ≡ [] = ap (λ n. lines_from l n i) last ∙ no_lines l i in
    sym (append-nil text) ∙ ap (λ r. text ++ r) (sym none) ∙ c.loop-address.invariant p h s
