-- A source that is laid out has blocks, each with a plan and an address.
use Rattle.std.proofs.Common.{List, length, subst, arith}
use Rattle.mx_isa.specs.declared.Place.{Place}
use Rattle.mx_source.specs.SourceValue.{SourceValue}
use Rattle.mx_blocks.specs.declared.Block.{Block}
use Rattle.mx_blocks.specs.Leaders.{AreBlocks}
use Rattle.mx_layout.specs.declared.Layout.{Layout}
use Rattle.mx_layout.proofs.Sited.{blocks_in-sites}
use Rattle.mx_layout.proofs.Sizes.{blocks_few}
use Rattle.mx_link.specs.Laid.{IsLaidAt}
use Rattle.mx_plans.specs.Ready.{IsReady}

pub are_blocks : (source : SourceValue) (place : Place) (l : Layout) → IsLaidAt source place l → AreBlocks source l.blocks.items
are_blocks source place l laid =
    subst (λ (bs : List Block). AreBlocks source bs) (blocks_in-sites l.blocks.items l.plans.items l.starts.items laid.plans laid.starts) laid.layout.blocks

pub ready : (source : SourceValue) (place : Place) (l : Layout) → IsLaidAt source place l → IsReady l
ready source place l laid = record {
  plans = laid.plans;
  starts = laid.starts;
  blocks = record { source = source; all = are_blocks source place l laid };
  few =
      let few = blocks_few source 0 (length source.statements) l.blocks.items (are_blocks source place l laid) in
      let room = laid.room in
      omega arith;
}
