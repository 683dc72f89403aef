pub mod Fresh
pub mod Sounds
pub mod Running
pub mod Halting
pub mod Nears
