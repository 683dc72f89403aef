-- The terms of sources, of their linking and of plan files that this crate speaks of.
pub use Rattle.mx_source.specs.SourceValue.{IsSource}
pub use Rattle.mx_layout.specs.Overlong.{IsRefusal}
pub use Rattle.mx_link.specs.Linked.{IsLinked}
pub use Rattle.mx_link.specs.Parts.{HaveRegisters}
pub use Rattle.mx_isa.specs.Board.{board}
pub use Rattle.mx_plans.specs.Files.{LineSaid, lines_said, marks_of, marks_of_lines}
pub use Rattle.mx_plans.specs.Says.{IsProposed}
pub use Rattle.mx_plans.specs.Copies.{as_planned}
