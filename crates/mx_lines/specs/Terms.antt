-- The words of lower crates with which the contracts of this one speak.
pub use Rattle.mx_isa.specs.Fields.{IsSignedField}
pub use Rattle.mx_isa.specs.declared.board.TheConstants.{DATA_END}
pub use Rattle.mx_source.specs.Labels.{IsPlace}
