-- Sources that are linked by a scheduler.
use Rattle.mx_blocks.specs.declared.block.Block.{Block}
use Rattle.mx_blocks.specs.declared.block.Plan.{Plan}
use Rattle.mx_validate.specs.Padded.{IsPadded}
use Rattle.mx_reorg.specs.Greedy.{IsGreedy}
use Rattle.mx_best.specs.Shortest.{IsProposed}
pub use Rattle.mx_isa.specs.Board.{board}
pub use Rattle.mx_layout.specs.Overlong.{IsRefusal}
pub use Rattle.mx_link.specs.Linked.{IsLinked}
use Rattle.mx_link.specs.Origins.{Filling}
pub use Rattle.mx_link.specs.Origins.{from_target, from_nowhere}
use Rattle.cmd_source.specs.declared.sources.Program.{Program}
use Rattle.lab_options.specs.declared.options.Scheduler.{Scheduler}
use Rattle.lab_options.specs.declared.options.Scheduler.TheVariants as scheduler

-- the source is linked as the list scheduler has it
abbrev pub IsLinkedSource : Program → Type 0
IsLinkedSource p = IsLinked IsGreedy from_target p.source board p.linked

-- what a scheduler proposes for a block
abbrev pub proposes : Scheduler → Block → Plan → Type 0
proposes scheduler.Padded = IsPadded
proposes scheduler.List = IsGreedy
proposes scheduler.Copies = IsGreedy
proposes scheduler.Best = IsProposed

-- how it fills slots that hold no-ops
abbrev pub fills : Scheduler → Filling
fills scheduler.Padded = from_nowhere
fills scheduler.List = from_nowhere
fills scheduler.Copies = from_target
fills scheduler.Best = from_target

-- the source is linked by a scheduler
abbrev pub IsLinkedBy : Scheduler → Program → Type 0
IsLinkedBy s p = IsLinked (proposes s) (fills s) p.source board p.linked
