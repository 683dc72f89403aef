-- What the words may ask for.
use Rattle.std.specs.Prelude.{◌≤◌, length, Option, Some}
use Rattle.cmd_options.specs.Options.{IsAsked}
use Rattle.cmd_table.specs.Commands.{Command, Debug, Join}

-- the limits of a session are in their ranges, and at most sixteen modules are joined
abbrev pub IsWithin : Option Command → Type 0
IsWithin (Some (Debug source label files limits)) = IsAsked limits
IsWithin (Some (Join names)) = length names ≤ 16
IsWithin _ = Unit {0}
