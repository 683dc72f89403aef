-- The terms of sources, of their linking, of inputs and of runs that this crate speaks of.
pub use Rattle.mx_io.specs.declared.limits.TheConstants.{MAX_FILE_BYTES}
pub use Rattle.mx_layout.specs.Overlong.{IsRefusal}
pub use Rattle.mx_link.specs.Origins.{from_target, from_nowhere}
pub use Rattle.mx_link.specs.Linked.{IsLinked}
pub use Rattle.mx_isa.specs.Board.{board}
pub use Rattle.mx_board.specs.Contents.{IsInput}
pub use Rattle.mx_turn.specs.Program.{image_program}
pub use Rattle.mx_turn.specs.Run.{image_run}
pub use Rattle.mx_pipe.specs.Kept.{StandsFor}
