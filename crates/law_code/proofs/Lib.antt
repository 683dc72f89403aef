pub mod Steps
pub mod Found
pub mod Running
pub mod Placed
