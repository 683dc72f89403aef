-- The words of this crate's contracts, of the crates below and of its own specs, from which its code takes them.
pub use Rattle.cmd_line.specs.Command.{names_id, texts}
pub use Rattle.cmd_line.specs.Read.{seen}
pub use Rattle.cmd_line.specs.Reading.{is_known}
pub use Rattle.cmd_table.specs.Asked.{row_of, command_of}
pub use Rattle.cmd_table.specs.Rows.{seen_row, reads_of}
pub use Rattle.cmd_table.specs.Seen.{seen_command, IsAllowed}
