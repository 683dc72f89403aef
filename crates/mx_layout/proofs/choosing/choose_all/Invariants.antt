use Rattle.std.proofs.Common.{◌≡◌, ◌≤◌, length, take}
use Rattle.mx_layout.proofs.Taken.{AreTaken}
use Rattle.mx_layout.proofs.choosing.choose_all.Given as goal

abbrev pub invariant-loop-block : goal.invariant-loop-block
invariant-loop-block g l = record {
  plans : length l.choices.plans.items ≡ l.block-index;
  rejected : l.choices.rejected ≤ l.block-index;
  taken : AreTaken g.P.Proposer.proposes l.choices.rejected (take l.block-index l.blocks) l.choices.plans.items l.choices.proposals.items;
}
