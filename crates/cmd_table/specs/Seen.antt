-- What contracts see of a command.
use Rattle.std.specs.Prelude.{◌≤◌, option_map, vec_len}
use Rattle.cmd_line.specs.Command.{texts}
use Rattle.cmd_options.specs.Options.{seen_files, IsAsked}
use Rattle.cmd_table.specs.declared.command.Command.{Command}
use Rattle.cmd_table.specs.declared.command.Command.TheVariants as given
use Rattle.cmd_table.specs.Commands as asked

-- what contracts see of a command
abbrev pub seen_command : Command → asked.Command
seen_command (given.Run source files limits) = asked.Run source.now (seen_files files) limits
seen_command (given.Meaning source steps input) = asked.Meaning source.now steps (option_map (λ s. s.now) input)
seen_command (given.Build source target) = asked.Build source.now target.now
seen_command (given.Exec image files limits) = asked.Exec image.now (seen_files files) limits
seen_command (given.Listing source) = asked.Listing source.now
seen_command (given.Best source) = asked.Best source.now
seen_command (given.Gen seed count) = asked.Gen seed count
seen_command (given.Soak seed count) = asked.Soak seed count
seen_command (given.Migrate image target) = asked.Migrate image.now target.now
seen_command (given.Share first second interrupts budget) = asked.Share first.now second.now (option_map (λ s. s.now) interrupts) budget
seen_command (given.Debug source label files limits) = asked.Debug source.now label.now (seen_files files) limits
seen_command (given.Join names) = asked.Join (texts names.items)

-- at most 4,000 items are generated, the limits of a session are in their ranges, and 2 to 16 modules are joined
abbrev pub IsAllowed : Command → Type 0
IsAllowed (given.Gen seed count) = count ≤ 4000
IsAllowed (given.Soak seed count) = count ≤ 4000
IsAllowed (given.Debug source label files limits) = IsAsked limits
IsAllowed (given.Join names) = (2 ≤ vec_len names) × (vec_len names ≤ 16)
IsAllowed _ = Unit {0}
