pub mod Fetched
pub mod Rows
