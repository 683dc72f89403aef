pub mod Stops
pub mod Sessions
