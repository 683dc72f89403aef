-- What contracts see of words that were read.
use Rattle.std.specs.Prelude.{List, Option, option_map, map}
use Rattle.cmd_line.specs.Command.{texts}
use Rattle.cmd_line.specs.Reading.{Text}
use Rattle.cmd_line.specs.declared.read.Read.{Read}

-- the names and the values as texts
abbrev pub seen : Read → List Text × List (Option Text)
seen read = (texts read.names.items, map (option_map (λ s. s.now)) read.values.items)
