use Rattle.mx_blocks.proofs.ExistsBlocks.{blocks_exist as exist}
use Rattle.mx_blocks.proofs.UniqueBlocks.{blocks_unique}
use Rattle.mx_blocks.proofs.laws.blocks_exist.Goals as goal

pub returns-clause-exist : goal.returns-clause-exist
returns-clause-exist c = exist

pub returns-clause-unique : goal.returns-clause-unique
returns-clause-unique c = blocks_unique
