use Rattle.std.proofs.Common.{◌≡◌, take}
use Rattle.clap.specs.Words.{app_of}
use Rattle.cmd_line.specs.Command.{command_for, texts}
use Rattle.cmd_line.proofs.read.command_of.Given as goal

abbrev pub invariant-loop-option : goal.invariant-loop-option
invariant-loop-option l = app_of l.command ≡ command_for (texts (take l.option-index l.options))
