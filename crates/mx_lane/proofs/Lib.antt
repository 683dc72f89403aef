pub mod Turning
pub mod Leaving
pub mod Windows
pub mod Counting
