use Rattle.std.proofs.Common.{◌≡◌, map, take}
use Rattle.mx_blocks.specs.Leaders.{inst_of}
use Rattle.mx_blocks.proofs.forms.insts_of.Given as goal

abbrev pub invariant-loop-statement : goal.invariant-loop-statement
invariant-loop-statement l = l.insts.items ≡ map inst_of (take l.statement-index l.statements)
