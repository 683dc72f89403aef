use Rattle.std.proofs.Common.{◌≡◌, ◌++◌, drop}
use Rattle.mx_asm.specs.Texts.{statements_in, lines_in, values_in, input_in}
use Rattle.mx_asm.specs.Effects.{first_input}
use Rattle.mx_module.specs.Joined.{effects_in, fault_in_lines}
use Rattle.mx_module.proofs.Chained.{Chained}
use Rattle.mx_module.proofs.program.read_program.Given as goal

-- what was listed so far, and what the other modules add to it, is what all of them add
abbrev pub invariant-loop-module : goal.invariant-loop-module
invariant-loop-module l = record {
  place : l.place ≡ l.module-index;
  chained : Chained (drop l.module-index l.modules);
  fault : fault_in_lines l.modules l.place (drop l.module-index l.modules) ≡ fault_in_lines l.modules 0 l.modules;
  statements : l.listing.statements.items
      ++ statements_in (effects_in l.modules l.place (drop l.module-index l.modules)) ≡ statements_in (effects_in l.modules 0 l.modules);
  lines : l.listing.lines.items ++ lines_in (effects_in l.modules l.place (drop l.module-index l.modules)) ≡ lines_in (effects_in l.modules 0 l.modules);
  values : l.listing.user_data.items ++ values_in (effects_in l.modules l.place (drop l.module-index l.modules)) ≡ values_in (effects_in l.modules 0 l.modules);
  input : first_input l.listing.input (input_in (effects_in l.modules l.place (drop l.module-index l.modules))) ≡ input_in (effects_in l.modules 0 l.modules);
}
