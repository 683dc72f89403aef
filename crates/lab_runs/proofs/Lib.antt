pub mod Labels
pub mod Ran
