use Rattle.std.proofs.Common.{◌≡◌, drop}
use Rattle.std.specs.Prelude.{find}
use Rattle.std.specs.Str.{bytes_eq}
use Rattle.lab_check.proofs.labels.first_definition.Given as goal

abbrev pub invariant-loop-definition : goal.invariant-loop-definition
invariant-loop-definition l =
    find (λ d. bytes_eq d.name.now l.name) l.definitions ≡ find (λ d. bytes_eq d.name.now l.name) (drop l.definition-index l.definitions)
