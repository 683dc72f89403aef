-- The words of lower crates with which the contracts of this one speak.
pub use Rattle.mx_io.specs.declared.limits.TheConstants.{MAX_SOURCE_BYTES}
pub use Rattle.mx_isa.specs.declared.board.TheConstants.{DATA_BASE, DATA_END, MAX_STATEMENTS, MAX_DATA_WORDS}
pub use Rattle.mx_lex.specs.Lines.{lines_of}
pub use Rattle.mx_lines.specs.Fitting.{LabelsFit}
pub use Rattle.mx_lines.specs.LabelTable.{IsNear}
pub use Rattle.mx_lines.specs.declared.labels.TheConstants.{PAST_END}
pub use Rattle.mx_lines.specs.Reading.{Gives, seen}
pub use Rattle.mx_lines.specs.Shapes.{word}
pub use Rattle.mx_lines.specs.Words.{texts, words_of}
pub use Rattle.mx_source.specs.Labels.{IsPlace}
pub use Rattle.mx_source.specs.Names.{named_labels, AreApart}
pub use Rattle.mx_source.specs.SourceValue.{IsSource, plain_source}
pub use Rattle.mx_source.specs.Statements.{ValueFits}
