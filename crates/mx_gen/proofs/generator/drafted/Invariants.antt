use Rattle.std.proofs.Common.{◌≡◌, ◌-◌}
use Rattle.mx_gen.specs.Drafts.{empty}
use Rattle.mx_gen.specs.Generated.{opening, items}
use Rattle.mx_gen.specs.Sound.{IsSound}
use Rattle.mx_gen.proofs.generator.drafted.Given as goal

abbrev pub invariant-loop-j : goal.invariant-loop-j
invariant-loop-j l = record {
  sound : IsSound l.j l.draft;
  same : items (l.count - l.j) l.j l.x l.draft ≡ items l.count 0 l.seed (opening empty);
}
