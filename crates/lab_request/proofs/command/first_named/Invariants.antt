use Rattle.std.proofs.Common.{◌≡◌, drop}
use Rattle.std.specs.Prelude.{find}
use Rattle.std.specs.Str.{bytes_eq}
use Rattle.lab_request.specs.Fields.{command_name}
use Rattle.lab_request.proofs.command.first_named.Given as goal

abbrev pub invariant-loop-command : goal.invariant-loop-command
invariant-loop-command l = find (λ c. bytes_eq (command_name c) l.word) l.commands
    ≡ find (λ c. bytes_eq (command_name c) l.word) (drop l.command-index l.commands)
