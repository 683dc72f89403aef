-- A layout whose blocks can be looked at one by one.
use Rattle.std.specs.Prelude.{◌≡◌, ◌<◌, ◌^◌, length}
use Rattle.mx_squash.specs.Ordered.{AreOfOneSource}
use Rattle.mx_layout.specs.declared.Layout.{Layout}

-- the blocks are those of a source, each with a plan and an address
pub record IsReady (l : Layout) : Type 0 where
  pub plans : length l.plans.items ≡ length l.blocks.items
  pub starts : length l.starts.items ≡ length l.blocks.items
  pub blocks : AreOfOneSource l.blocks.items
  pub few : length l.blocks.items < 2 ^ 32
