-- The terms of instructions, code and stages that the pipeline is told in.
pub use Rattle.mx_isa.specs.Words.{Words, reg}
pub use Rattle.mx_isa.specs.Arithmetic.{word_of}
pub use Rattle.mx_isa.specs.Views.{sources, dest, is_load, is_halt}
pub use Rattle.mx_delay.specs.Delay.{Code, code_from, idle, next_of}
pub use Rattle.mx_code.specs.Decoding.{inst_of}
pub use Rattle.mx_icache.specs.Residency.{resident}
pub use Rattle.mx_turn.specs.Counted.{Counted, after_turn, after_stall}
pub use Rattle.mx_turn.specs.Decoded.{ShiftFits, code_in}
pub use Rattle.mx_turn.specs.Stages.{fetch_of, live, address_of, stage_of}
pub use Rattle.mx_turn.specs.System.{number_of, slot_of}
