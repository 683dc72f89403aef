-- The file that a command writes, and what it holds then.
use Rattle.std.specs.Prelude.{ℕ, List, [], Option, Some, None}
use Rattle.std.specs.Option.{unwrap_or}
use Rattle.cmd_answer.specs.declared.Status.{Status}
use Rattle.cmd_answer.specs.declared.Status.TheVariants.{Done}
use Rattle.cmd_table.specs.Commands.{Command, Build, Migrate}

-- the name that a command writes, if it writes a file
abbrev pub target_in : Option Command → Option (List ℕ)
target_in (Some (Build source target)) = Some target
target_in (Some (Migrate image target)) = Some target
target_in _ = None

-- what a name holds, nothing where it is not there
abbrev pub bytes_at : (List ℕ → Option (List ℕ)) → List ℕ → List ℕ
bytes_at held name = unwrap_or (held name) []

-- what the target of a command holds, if it is done
abbrev pub target_bytes : (List ℕ → Option (List ℕ)) → Option (List ℕ) → Status → List ℕ
target_bytes held None status = []
target_bytes held (Some name) Done = bytes_at held name
target_bytes held (Some name) _ = []
