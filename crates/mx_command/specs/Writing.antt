-- Which commands write a file.
use Rattle.std.specs.Prelude.{Bool, true, false, Option, Some}
use Rattle.cmd_table.specs.Commands.{Command, Build, Migrate}

abbrev pub writes_a_file : Option Command → Bool
writes_a_file (Some (Build source target)) = true
writes_a_file (Some (Migrate image target)) = true
writes_a_file _ = false
