pub mod Steps
pub mod Watched
