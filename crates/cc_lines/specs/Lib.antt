pub mod Bytes
pub mod Conditions
pub mod Marks
pub mod Names
pub mod Numbered
pub mod Refusals
pub mod Registers
