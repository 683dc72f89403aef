pub mod InUser
pub mod Pauses
pub mod Cycles
pub mod Runs
pub mod Ends
pub mod Saves
