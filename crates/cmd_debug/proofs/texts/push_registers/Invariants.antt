use Rattle.std.proofs.Common.{◌≡◌, ◌-◌, ◌++◌}
use Rattle.std.specs.Prelude.{slice_index}
use Rattle.mx_text.specs.Text.{word_text, register_line, lines_from}
use Rattle.cmd_debug.proofs.texts.push_registers.Given as goal

abbrev pub invariant-loop-n : goal.invariant-loop-n
invariant-loop-n l =
    l.text.items ++ lines_from (λ n. register_line n (word_text (slice_index l.registers n))) (32 - l.n) l.n
    ≡ l.fn.text.items ++ lines_from (λ n. register_line n (word_text (slice_index l.registers n))) 31 1
