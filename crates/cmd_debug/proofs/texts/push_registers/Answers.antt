use Rattle.std.proofs.Common.{◌≡◌, ◌+◌, ◌-◌, ◌++◌, ℕ, List, [], ap, sym, ◌∙◌, append_assoc, append-nil, arith}
use Rattle.std.specs.Prelude.{slice_index}
use Rattle.mx_text.specs.Text.{word_text, register_line, lines_from}
use Rattle.mx_text.proofs.Lines.{next_line, no_lines}
use Rattle.cmd_debug.proofs.texts.push_registers.Goals as goal

pub loop-n-preserved : goal.loop-n-preserved
loop-n-preserved c =
    let l : ℕ → List ℕ = λ n. register_line n (word_text (slice_index c.args.registers.now n)) in
    let i = c.loop-n.n in
    let text = c.loop-n.text.items in
    let rest = lines_from l (32 - (i + 1)) (i + 1) in
    ap (λ t. t ++ rest) c.in_ok-push_value.ensures
    ∙ append_assoc text (l i) rest
    ∙ ap (λ r. text ++ r) (sym (next_line l 32 i (omega arith)))
    ∙ c.loop-n.invariant

pub returns : goal.returns
returns c =
    let l : ℕ → List ℕ = λ n. register_line n (word_text (slice_index c.args.registers.now n)) in
    let i = c.loop-n.n in
    let text = c.loop-n.text.items in
    let last : 32 - i ≡ 0 = omega arith in
    let none : lines_from l (32 - i) i ≡ [] = ap (λ n. lines_from l n i) last ∙ no_lines l i in
    sym (append-nil text) ∙ ap (λ r. text ++ r) (sym none) ∙ c.loop-n.invariant
