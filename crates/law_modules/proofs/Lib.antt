mod Spelling
mod Named
mod Bounded
mod Worded
mod Registered
pub mod Printable
pub mod Meant
