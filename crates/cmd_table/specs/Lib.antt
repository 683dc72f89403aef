pub mod Numbers
pub mod Commands
pub mod Asked
pub mod Seen
pub mod Rows
pub mod Terms
