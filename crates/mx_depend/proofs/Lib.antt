pub mod Paths
pub mod Decided
pub mod Heights
