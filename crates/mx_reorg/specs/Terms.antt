-- The words of lower crates with which the contracts of this one speak.
pub use Rattle.mx_blocks.specs.Items.{StandsAt}
pub use Rattle.mx_blocks.specs.declared.block.Plan.{Plan}
pub use Rattle.mx_depend.specs.Graphs.{IsGraph}
pub use Rattle.mx_validate.specs.Padded.{insts_of}
pub use Rattle.mx_validate.specs.Validity.{Valid, EndsWithoutLoad}
