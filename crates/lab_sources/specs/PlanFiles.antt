-- Plan files for the blocks of a source.
use Rattle.std.specs.Prelude.{◌≡◌, ℕ, List, length, Ok}
use Rattle.mx_io.specs.Shelves.{Told, Counts}
use Rattle.mx_blocks.specs.declared.block.Block.{Block}
use Rattle.mx_blocks.specs.Leaders.{AreBlocks}
use Rattle.mx_source.specs.SourceValue.{SourceValue}
use Rattle.mx_plans.specs.Files.{LineSaid, plans_in}
use Rattle.lab_failure.specs.declared.failure.LabFile.TheVariants as file
use Rattle.lab_failure.specs.Files.{IsReadAs}

-- the plan file of this name was read, and its text spells these lines for the blocks of the source
pub record ArePlansOf (told : Told) (name : List ℕ) (source : SourceValue) (before after : Counts) (lines : List LineSaid) : Type 0 where
  pub text : List ℕ
  pub read : IsReadAs told file.Plans name text before after
  pub blocks : List Block
  pub are : AreBlocks source blocks
  pub spelled : plans_in (length blocks) text ≡ Ok lines
