-- The words of this crate's contracts, of the crates below and of its own specs, from which its code takes them.
pub use Rattle.cmd_answer.specs.Answer.{prints, writes, usage, Answer, text_line, files_of, failed_answer}
pub use Rattle.cmd_answer.specs.Commands.{Made}
pub use Rattle.cmd_answer.specs.Delivery.{PutsPrefix, Delivered}
pub use Rattle.cmd_answer.specs.Files.{limit_of}
pub use Rattle.cmd_answer.specs.Logged.{AreAsked, Agree, answer_by}
pub use Rattle.cmd_answer.specs.Protocol.{Reads, Performed, Answers, Protocol, resolved, Faulted}
pub use Rattle.cmd_answer.specs.Readings.{Gives, Refuses}
pub use Rattle.cmd_answer.specs.Replies.{reply_answer, IfAnswered, OnAnswer}
pub use Rattle.cmd_best.specs.Lengths.{lengths_text}
pub use Rattle.cmd_line.specs.Command.{texts}
pub use Rattle.cmd_meaning.specs.Told.{meaning_answer}
pub use Rattle.cmd_options.specs.Options.{seen_files, IsAsked}
pub use Rattle.cmd_share.specs.Runs.{sharing_protocol}
pub use Rattle.cmd_simulate.specs.Machines.{input_protocol}
pub use Rattle.cmd_soak.specs.Soak.{soak_text}
pub use Rattle.cmd_source.specs.Protocols.{Layouts, linked_protocol}
pub use Rattle.cmd_source.specs.Refusals.{overlong_line, overlong_text}
pub use Rattle.cmd_source.specs.Replied.{IsReplied}
pub use Rattle.cmd_table.specs.Asked.{command_of}
pub use Rattle.cmd_table.specs.Seen.{seen_command, IsAllowed}
pub use Rattle.law_schedule.specs.Schedule.{IsScheduler}
pub use Rattle.mx_board.specs.RequestFile.{requests_of}
pub use Rattle.mx_gen.specs.Generated.{generated}
pub use Rattle.mx_image.specs.Contents.{contents_of, LinksFit}
pub use Rattle.mx_image.specs.Files.{file_refusal, file_in, file_bytes}
pub use Rattle.mx_io.specs.Counts.{Rose}
pub use Rattle.mx_io.specs.Reads.{Read}
pub use Rattle.mx_io.specs.RealShelf.{log_of, wrote_of, told_of, write_faults_of}
pub use Rattle.mx_io.specs.RealSink.{handed_to, faults_of}
pub use Rattle.mx_io.specs.Shelves.{Counts}
pub use Rattle.mx_isa.specs.Board.{board}
pub use Rattle.mx_layout.specs.Layout.{IsLayout, blocks_in}
pub use Rattle.mx_layout.specs.Overlong.{overlong, Overlong, IsOverlong}
pub use Rattle.mx_link.specs.Linked.{IsLinked, link_map}
pub use Rattle.mx_link.specs.Origins.{from_nowhere, from_target}
pub use Rattle.mx_reorg.specs.Greedy.{IsGreedy}
pub use Rattle.mx_source.specs.Printed.{printed}
pub use Rattle.mx_source.specs.SourceValue.{SourceValue}
pub use Rattle.mx_squash.specs.Copies.{Site}
pub use Rattle.mx_tasks.specs.Places.{lower, upper}
pub use Rattle.mx_command.specs.Accepted.{Held, CanBeRun, Accepted}
pub use Rattle.mx_command.specs.Headline.{AreQuiet, IsNoFault, Headline}
pub use Rattle.mx_command.specs.Layouts.{command_protocol}
pub use Rattle.mx_command.specs.OnSystem.{IsTaken, answer_on}
pub use Rattle.mx_command.specs.Promised.{Promised}
pub use Rattle.mx_command.specs.Protocols.{statement_at, statement_named, no_label_line, labelled_protocol, debug_protocol, image_text, image_line}
pub use Rattle.mx_command.specs.Protocols.{unless_refused, exec_protocol, migrate_answer, run_protocol, meaning_protocol, build_protocol, list_protocol}
pub use Rattle.mx_command.specs.Protocols.{best_answer, join_fault_text, refusal_line, join_answer, modules_protocol, protocol_of, of_program, line_cause}
pub use Rattle.mx_command.specs.Protocols.{wrong_by, wrong_with, assembled_protocol, pair_protocol, share_protocol}
pub use Rattle.mx_command.specs.Replying.{Performs}
pub use Rattle.mx_command.specs.Sharing.{IsFitting}
pub use Rattle.mx_command.specs.Within.{IsWithin}
pub use Rattle.mx_command.specs.Writing.{writes_a_file}
