pub mod Returns
pub mod Quiet
pub mod Pauses
pub mod Phases
pub mod Interrupted
