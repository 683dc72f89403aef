-- The words of lower crates with which the contracts of this one speak.
pub use Rattle.mx_isa.specs.Arithmetic.{CountFits}
pub use Rattle.mx_isa.specs.Fields.{InstFits}
pub use Rattle.mx_isa.specs.UserBus.{from_input}
pub use Rattle.mx_isa.specs.declared.board.TheConstants.{MAX_STATEMENTS}
pub use Rattle.mx_source.specs.Meaning.{goes, stuck, perform, jumps, branches, execute, silent, Halted}
pub use Rattle.mx_source.specs.Statements.{IsPlain}
pub use Rattle.mx_source.specs.Values.{value_in}
