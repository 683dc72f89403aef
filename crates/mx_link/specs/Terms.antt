-- The words of lower crates with which the contracts of this one speak.
pub use Rattle.mx_code.specs.Codes.{word_of_row, HasRegisters}
pub use Rattle.mx_isa.specs.Fields.{InstFits}
pub use Rattle.mx_isa.specs.declared.board.TheConstants.{LAST_ADDRESS, MAX_STATEMENTS}
pub use Rattle.mx_source.specs.Statements.{StatementFits}
pub use Rattle.mx_squash.specs.Copies.{Site}
pub use Rattle.mx_squash.specs.Ordered.{AreOfOneSource}
pub use Rattle.mx_validate.specs.Padded.{items_of}
