use Rattle.std.proofs.Common.{◌≡◌, ◌-◌, ◌++◌}
use Rattle.mx_source.specs.Values.{value_in}
use Rattle.mx_seq.specs.Seqs.{state_of}
use Rattle.mx_text.specs.Text.{register_line, lines_from}
use Rattle.cmd_meaning.specs.Told.{value_text}
use Rattle.cmd_meaning.proofs.told.push_registers.Given as goal

abbrev pub invariant-loop-n : goal.invariant-loop-n
invariant-loop-n l =
    l.text.items ++ lines_from (λ n. register_line n (value_text (value_in (state_of l.seq).regs n))) (32 - l.n) l.n
    ≡ l.fn.text.items ++ lines_from (λ n. register_line n (value_text (value_in (state_of l.seq).regs n))) 31 1
