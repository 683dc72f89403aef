-- What was read of the words is within its ranges.
use Rattle.std.proofs.Common.{Some, arith}
use Rattle.std.proofs.lemmas.List.{length-map}
use Rattle.cmd_table.specs.declared.command.Command.{Command}
use Rattle.cmd_table.specs.declared.command.Command.TheVariants.{Run, Meaning, Build, Exec, Listing, Best, Gen, Soak, Migrate, Share, Debug, Join}
use Rattle.cmd_table.specs.Seen.{seen_command, IsAllowed}
use Rattle.mx_command.specs.Within.{IsWithin}

pub within_of : (asked : Command) → IsAllowed asked → IsWithin (Some (seen_command asked))
within_of (Run source files limits) allowed = tt
within_of (Meaning source steps input) allowed = tt
within_of (Build source target) allowed = tt
within_of (Exec image files limits) allowed = tt
within_of (Listing source) allowed = tt
within_of (Best source) allowed = tt
within_of (Gen seed count) allowed = tt
within_of (Soak seed count) allowed = tt
within_of (Migrate image target) allowed = tt
within_of (Share first second interrupts budget) allowed = tt
within_of (Debug source label files limits) allowed = allowed
within_of (Join names) allowed =
    let few = allowed.1 in
    let same = length-map names.items (λ s. s.now) in
    omega (arith, few, same)
