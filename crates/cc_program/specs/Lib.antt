pub mod Changes
pub mod Errors
pub mod Programs
