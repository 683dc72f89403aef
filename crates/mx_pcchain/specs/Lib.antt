pub mod Fetch
pub mod Chain
pub mod Modes
pub mod Held
