use Rattle.std.proofs.Common.{◌-◌, ◌≤◌, length}
use Rattle.mx_validate.specs.Padded.{insts_of, body_count}
use Rattle.mx_reorg.specs.Making.{Grows}
use Rattle.mx_reorg.proofs.Spent.{Cost, total}
use Rattle.mx_reorg.proofs.proposer.front_of.Given as goal

abbrev pub invariant-front : goal.invariant-front
invariant-front l = record {
  grows : Grows l.block l.items.items;
  cost : Cost l.block l.items.items;
  short : length l.items.items ≤ 128;
}

abbrev pub decreases-front : goal.decreases-front
decreases-front l = total (insts_of l.block) (body_count l.block) - length l.items.items
