-- The words of this crate's contracts, of the crates below and of its own specs, from which its code takes them.
pub use Rattle.law_schedule.specs.Schedule.{IsScheduler}
pub use Rattle.mx_gen.specs.Near.{AllNear}
pub use Rattle.mx_isa.specs.Board.{board}
pub use Rattle.mx_link.specs.Linked.{IsLinked}
pub use Rattle.mx_link.specs.Origins.{from_target}
pub use Rattle.mx_reorg.specs.Greedy.{IsGreedy}
pub use Rattle.mx_source.specs.SourceValue.{SourceValue}
pub use Rattle.mx_squash.specs.Copies.{Site}
pub use Rattle.mx_turn.specs.Handler.{shipped}
pub use Rattle.mx_turn.specs.Program.{program_of}
pub use Rattle.mx_turn.specs.Run.{run_of}
pub use Rattle.cmd_soak.specs.Soak.{multiples, steps_within, soak_text}
