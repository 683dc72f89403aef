pub mod Charges
pub mod Tallies
pub mod Lines
pub mod Columns
pub mod Parts
pub mod Calls
