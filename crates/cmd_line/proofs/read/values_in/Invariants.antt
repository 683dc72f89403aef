use Rattle.std.proofs.Common.{◌≡◌, take, map, vec_len}
use Rattle.std.specs.Prelude.{option_map}
use Rattle.clap.specs.Words.{first_of, rows_of, found_of}
use Rattle.cmd_line.specs.Command.{texts}
use Rattle.cmd_line.proofs.read.values_in.Given as goal

abbrev pub invariant-loop-option : goal.invariant-loop-option
invariant-loop-option l = record {
  count : vec_len l.values ≡ l.option-index;
  values : map (option_map (λ s. s.now)) l.values.items ≡ map (λ o. first_of o (rows_of (found_of l.matches))) (texts (take l.option-index l.options));
}
