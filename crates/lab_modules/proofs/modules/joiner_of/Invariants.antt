use Rattle.std.proofs.Common.{◌≡◌, ◌++◌, length, drop}
use Rattle.mx_lines.specs.Words.{texts}
use Rattle.lab_modules.proofs.modules.joiner_of.Given as goal

-- the texts so far and those that are left are all of them, and how many they are
abbrev pub invariant-loop-module : goal.invariant-loop-module
invariant-loop-module l = record {
  same : l.joiner ++ texts (drop l.module-index l.modules) ≡ texts l.modules;
  count : length l.joiner ≡ l.module-index;
}
