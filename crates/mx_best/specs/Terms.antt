-- The words of lower crates with which the contracts of this one speak.
pub use Rattle.mx_blocks.specs.Items.{StandsAt}
pub use Rattle.mx_blocks.specs.declared.block.Plan.{Plan}
pub use Rattle.mx_depend.specs.Graphs.{inst_at}
pub use Rattle.mx_depend.specs.Independence.{Independent, feeds}
pub use Rattle.mx_isa.specs.Views.{is_load}
pub use Rattle.mx_reorg.specs.Greedy.{Stands}
pub use Rattle.mx_validate.specs.Padded.{insts_of, items_of}
pub use Rattle.mx_validate.specs.Validity.{Valid, end_count}
