pub mod Executed
pub mod Meant
