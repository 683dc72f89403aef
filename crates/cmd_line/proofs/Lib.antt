pub mod Rules
pub mod Steps
pub mod Rows
pub mod Turns
pub mod Whole
pub mod Simple
pub mod Asked
