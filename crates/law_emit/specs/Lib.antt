pub mod Lines
pub mod Reading
pub mod Routines
pub mod Statements
